mod Begun
mod Refused
mod Texts
mod Written
