-- The laws of logs: what an append and a drop do, and how many places changes take.
use Rattle.std.specs.Prelude.{◌≡◌, ℕ, ◌+◌, true, false, Some, None}
use Rattle.s4_types.specs.Pointer.{Place}
use Rattle.block_log.specs.Log.{Log, Stored, same_place, is_data, appended, dropped}
use Rattle.block_log.specs.Growth.{Puts, LetsGo}
use Rattle.block_log.specs.Taken.{TakesPlaces}

-- places that the test finds to be one are equal
abbrev pub OnePlaceHasOneName : Type 0
OnePlaceHasOneName = (p q : Place) → same_place p q ≡ true → p ≡ q

-- an append to a place that isn't held puts one block there and leaves all else
abbrev pub AnAppendPutsOneBlock : Type 0
AnAppendPutsOneBlock = (before after : Log) (block : Stored) (p : Place) → appended before block ≡ Some (p, after) → before.held p ≡ None → Puts before block p after

-- dropping a held block that is not of data takes it alone
abbrev pub ADropTakesOneBlock : Type 0
ADropTakesOneBlock = (before : Log) (block : Stored) (p : Place) → before.held p ≡ Some block → is_data (Some block) ≡ false → LetsGo before block p (dropped before p)

-- an append takes the first place ahead
abbrev pub AnAppendTakesOnePlace : Type 0
AnAppendTakesOnePlace = (before after : Log) (block : Stored) (p : Place) → appended before block ≡ Some (p, after) → TakesPlaces 1 before after

-- a drop takes no place, whatever is held there
abbrev pub ADropTakesNoPlace : Type 0
ADropTakesNoPlace = (before : Log) (p : Place) → TakesPlaces 0 before (dropped before p)

-- where nothing changes, no place is taken
abbrev pub NoChangeTakesNoPlace : Type 0
NoChangeTakesNoPlace = (log : Log) → TakesPlaces 0 log log

-- two changes in turn take as many places as both together
abbrev pub PlacesTakenAddUp : Type 0
PlacesTakenAddUp = (n m : ℕ) (first second third : Log) → TakesPlaces n first second → TakesPlaces m second third → TakesPlaces (n + m) first third
