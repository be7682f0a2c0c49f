-- Which objects the cleaner is to visit. The floors of an agenda are pairs of an object and the floor from which on a turn of it may
-- free something, by ascending objects. Its deleted objects are pairs of the moment of a Delete and its object, by ascending moments.
use Rattle.std.specs.Prelude.{◌≡◌, ℕ, ◌-◌, ◌^◌, ◌&&◌, ◌||◌, not, nat_le, nat_lt, is_some, if◌then◌else◌, Bool, List, map, filter, Option, Some, None, MatchOption}
use Rattle.std.specs.Map.{lookup, remove_entry}
use Rattle.std.specs.BTreeMap.{is_at, insert_entry}
use Rattle.std.specs.Ordering.{nat_cmp}
use Rattle.server.specs.declared.agenda.Agenda.{Agenda}
use Rattle.server.specs.declared.agenda.History.{History}

-- whether pairs have this key
abbrev pub has_key : List (ℕ × ℕ) → ℕ → Bool
has_key pairs key = is_some (lookup (is_at (nat_cmp key)) pairs)

-- pairs with this one, in place of what its key had
abbrev pub with_pair : List (ℕ × ℕ) → ℕ → ℕ → List (ℕ × ℕ)
with_pair pairs key value = insert_entry nat_cmp pairs key value

-- pairs with this one, unless its key has another
abbrev pub with_new_pair : List (ℕ × ℕ) → ℕ → ℕ → List (ℕ × ℕ)
with_new_pair pairs key value = if has_key pairs key then pairs else with_pair pairs key value

-- Pairs have become those that were made of them, which have this key. Where memory was refused they stay, and don't have it.
abbrev pub AreMade : List (ℕ × ℕ) → ℕ → List (ℕ × ℕ) → List (ℕ × ℕ) → Type 0
AreMade old key made new = new ≡ (if has_key new key then made else old)

-- The floors have become those made for an object. Where memory was refused that is noted as a gap. All else stays.
pub record TakesFloor (old : Agenda) (object : ℕ) (made : List (ℕ × ℕ)) (new : Agenda) : Type 0 where
  pub floors : AreMade old.floors.entries object made new.floors.entries
  pub kept : new ≡ record old { floors = new.floors; has_gaps = old.has_gaps || not (has_key new.floors.entries object) }

-- an object has this floor from now on
abbrev pub PutsFloor : Agenda → ℕ → ℕ → Agenda → Type 0
PutsFloor old object floor new = TakesFloor old object (with_pair old.floors.entries object floor) new

-- an object has this floor from now on, unless it has one
abbrev pub AddsFloor : Agenda → ℕ → ℕ → Agenda → Type 0
AddsFloor old object floor new = TakesFloor old object (with_new_pair old.floors.entries object floor) new

-- An object is among the deleted ones from now on. Where memory was refused that is noted as a gap. All else stays.
pub record PutsDeleted (old : Agenda) (object moment : ℕ) (new : Agenda) : Type 0 where
  pub deleted : AreMade old.deleted.entries moment (with_pair old.deleted.entries moment object) new.deleted.entries
  pub kept : new ≡ record old { deleted = new.deleted; has_gaps = old.has_gaps || not (has_key new.deleted.entries moment) }

-- An object is among the deleted ones, and has a floor: the moment of its Delete where its entries are few, else the one it had.
pub record Deletes (old : Agenda) (object moment : ℕ) (is_short : Bool) (new : Agenda) : Type 0 where
  pub among : Agenda
  pub deleted : PutsDeleted old object moment among
  pub floor : TakesFloor among object (if is_short then with_pair among.floors.entries object moment else with_new_pair among.floors.entries object moment) new

-- the floor from which on a turn frees more than it writes, of an object that may be deleted
abbrev pub due_by : ℕ → Bool → Option ℕ → ℕ
due_by oldest is_short None = oldest
due_by oldest is_short (Some deleted) = if is_short then deleted else oldest

abbrev pub due_from : History → ℕ
due_from history = due_by history.oldest history.is_short history.deleted

-- An object has the floor of this history, and is among the deleted ones where it is deleted.
pub record PutsHistory (old : Agenda) (object : ℕ) (history : History) (new : Agenda) : Type 0 where
  pub among : Agenda
  pub floor : PutsFloor old object (due_from history) among
  pub deleted : MatchOption history.deleted (new ≡ among) (λ moment. PutsDeleted among object moment new)

-- An object has no floor any more. All else stays.
pub record Forgets (old : Agenda) (object : ℕ) (new : Agenda) : Type 0 where
  pub floors : new.floors.entries ≡ remove_entry (is_at (nat_cmp object)) old.floors.entries
  pub kept : new ≡ record old { floors = new.floors }

-- the objects whose floor is at most this one, each once, by ascending numbers
abbrev pub due_objects : ℕ → List (ℕ × ℕ) → List ℕ
due_objects last floors = map (λ (pair : ℕ × ℕ). pair.0) (filter (λ (pair : ℕ × ℕ). nat_le pair.1 last) floors)

-- whether a Delete, by its moment and its object, has passed a floor: its object can be removed
abbrev pub is_removal : ℕ → ℕ × ℕ → Bool
is_removal floor pair = nat_le pair.0 floor

-- the objects whose Deletes have passed a floor, in the order of these
abbrev pub removable : ℕ → List (ℕ × ℕ) → List ℕ
removable floor deleted = map (λ (pair : ℕ × ℕ). pair.1) (filter (is_removal floor) deleted)

-- the Deletes that have not passed a floor
abbrev pub above : ℕ → List (ℕ × ℕ) → List (ℕ × ℕ)
above floor deleted = filter (λ (pair : ℕ × ℕ). nat_lt floor pair.0) deleted

-- whether a round that begins goes on with a walk over all objects
abbrev pub walks : Agenda → Bool
walks agenda = agenda.is_walking || agenda.has_gaps

-- whether it is to visit all objects itself: moments of all were hidden, and some may not be known
abbrev pub visits_all : Agenda → Bool
visits_all agenda = walks agenda && agenda.is_hidden

-- the floor up to which objects are due: where moments of all were hidden, each that is known is
abbrev pub last_due : Agenda → ℕ → ℕ
last_due agenda floor = if agenda.is_hidden then 2 ^ 64 - 1 else floor
