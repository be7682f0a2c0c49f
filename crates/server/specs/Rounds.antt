-- Which objects a round of the cleaner that begins is to visit.
use Rattle.std.specs.Prelude.{◌≡◌, ◌⊎◌, ℕ, [], ◌+◌, ◌-◌, ◌*◌, ◌/◌, ◌^◌, ◌&&◌, not, nat_le, nat_lt, min, true, false, if◌then◌else◌, Bool, Option, Some, None, IfSome, length}
use Rattle.std.specs.Global.{Vec}
use Rattle.std.specs.List.Sorted.{IsPermutation, IsSorted}
use Rattle.std.specs.Ordering.{nat_cmp}
use Rattle.s4_types.specs.declared.limits.TheConstants.{MOVE_BLOCKS}
use Rattle.server.specs.declared.agenda.Agenda.{Agenda}
use Rattle.server.specs.declared.progress.Begun.{Begun}
use Rattle.server.specs.declared.progress.Progress.{Progress}
use Rattle.server.specs.declared.progress.TheConstants.{ROUND_BLOCKS}
use Rattle.server.specs.Agenda.{due_objects, removable, above, walks, visits_all, last_due}

-- A round begins at a floor. Its objects are exactly those that are due, or none are given and it is to visit all: so it does where
-- moments of all were hidden and some may not be known. The agenda forgets the Deletes that have passed, and begins a walk where it has
-- gaps. The floors stay.
pub record BeginsRound (old : Agenda) (floor : ℕ) (objects : Option (Vec ℕ)) (new : Agenda) : Type 0 where
  pub due : IfSome objects (λ list. list.items ≡ due_objects (last_due old floor) old.floors.entries)
  pub all : visits_all old ≡ true → objects ≡ None
  pub deleted : new.deleted.entries ≡ (if visits_all old then old.deleted.entries else above floor old.deleted.entries)
  pub kept : new ≡ record old { deleted = new.deleted; has_gaps = old.has_gaps && old.is_walking; is_walking = walks old; is_hidden = false }

-- A round's objects are exactly those that can be removed, by ascending numbers, and the agenda forgets their Deletes alone.
pub record TakesRemovals (old : Agenda) (floor : ℕ) (objects : Vec ℕ) (new : Agenda) : Type 0 where
  pub removed : IsPermutation (removable floor old.deleted.entries) objects.items
  pub sorted : IsSorted nat_cmp objects.items
  pub deleted : new.deleted.entries ≡ above floor old.deleted.entries
  pub kept : new ≡ record old { deleted = new.deleted }

-- A round begins that writes nothing. It has what can be removed; or no object, and the agenda stays: then a list was refused memory.
abbrev pub BeginsRemovals : Agenda → ℕ → Vec ℕ → Agenda → Type 0
BeginsRemovals old floor objects new = TakesRemovals old floor objects new ⊎ ((objects.items ≡ []) × (new ≡ old))

-- whether there is too little room for the copier's moves
abbrev pub is_tight : Progress → Bool
is_tight progress = nat_lt (progress.room - progress.kept / 2) MOVE_BLOCKS

-- how many objects are known to have history of which a turn may write something
abbrev pub writing : Agenda → ℕ
writing agenda = length agenda.floors.entries - length agenda.deleted.entries

-- whether the blocks that are left are too few for the objects that have history, and not all of that has aged
abbrev pub is_pinched : Progress → Bool
is_pinched progress = is_tight progress
    && nat_lt (min (progress.reserve + progress.room) (2 ^ 64 - 1)) (min (writing progress.agenda * ROUND_BLOCKS) (2 ^ 64 - 1))
    && nat_lt progress.clock (min (progress.roomy + progress.window) (2 ^ 64 - 1))

-- whether the next round is one that writes nothing: unless moments were hidden that it is to free, or a walk goes on
abbrev pub is_of_removals : Progress → Bool
is_of_removals progress = is_pinched progress && nat_le progress.frees progress.ended && not progress.agenda.is_walking

-- The objects of a round that begins, which is not the last.
pub record GivesDue (old : Progress) (objects : Option (Vec ℕ)) (new : Agenda) : Type 0 where
  pub removals : is_of_removals old ≡ true → (list : Vec ℕ) × (objects ≡ Some list) × BeginsRemovals old.agenda old.floor list new
  pub round : is_of_removals old ≡ false → BeginsRound old.agenda old.floor objects new

-- A round begins: the last one visits all objects, each before it those that are due.
pub record Begins (old : Progress) (begun : Begun) (new : Progress) : Type 0 where
  pub last : begun.is_last ≡ old.is_served && old.is_moved
  pub all : begun.is_last ≡ true → (begun.objects ≡ None) × (new.agenda ≡ old.agenda)
  pub due : begun.is_last ≡ false → GivesDue old begun.objects new.agenda
  pub walks : begun.walks ≡ new.agenda.is_walking
