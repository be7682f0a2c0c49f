mod CreationLemmas
mod DoorLemmas
mod Simple
