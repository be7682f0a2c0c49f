mod Numbers
mod Absent
mod Simple
mod CopyNamed
