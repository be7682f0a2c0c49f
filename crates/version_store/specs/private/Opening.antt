-- What is beside the rows of objects of a drive that was saved. No public clause cites this file.
use Rattle.std.specs.Prelude.{ℕ, List, map}
use Rattle.time_read.specs.declared.presents.Present.{Present}
use Rattle.version_store.specs.Opening.{OpenedFields}

-- what a store keeps beside an object's row
abbrev pub present_of : OpenedFields → Present
present_of opened = record { inode = opened.inode; index = opened.index }

-- the same of each object, under its number
abbrev pub presents_opened : List OpenedFields → List (ℕ × Present)
presents_opened objects = map (λ x. (x.object, present_of x)) objects
