-- What a request for a change of an object leaves.
use Rattle.std.specs.Prelude.{◌≡◌, ◌⊎◌, ℕ, suc, zero, ◌≤◌, ◌+◌, max, Bool, true, false, List, [], ◌∷◌, length, Option, Some, Result, OnOk, IfErr}
use Rattle.s4_types.specs.declared.changes.Change.{Change}
use Rattle.s4_types.specs.declared.refusals.Refusal.{Refusal}
use Rattle.s4_types.specs.declared.refusals.Refusal.TheVariants.{ChainFull, ClockEnd, NoSpace}
use Rattle.s4_types.specs.declared.requests.Request.{Request}
use Rattle.s4_model.specs.State.{State}
use Rattle.s4_model.specs.Effect.{effect, object_of}
use Rattle.s4_model.specs.Numbers.{next_by}
use Rattle.s4_model.specs.Laws.{is_of_want}
use Rattle.s4_model.specs.Refusals.{present}
use Rattle.s4_model.specs.Step.{change_of}
use Rattle.version_store.specs.Costs.{change_refusal}
use Rattle.version_store.specs.Store.{StoreFields}
use Rattle.drive.specs.Answering.{StoresVersion}
use Rattle.drive.specs.Fields.{DriveFields, state_in, store_of}
use Rattle.history_restore.specs.Content.{content_of}
use Rattle.history_restore.specs.Keeping.{IsDatedFrom}

-- A change was made: its object has the content that the change's effect on its version has.
pub record Makes (s : State) (change : Change) (later : State) : Type 0 where
  pub content : content_of (present later (object_of change)) ≡ content_of (effect change 0 (present s (object_of change)))
  pub next : later.next ≡ next_by change s.next

-- the change that a request asks for was made
abbrev pub Grants : State → Request → State → Type 0
Grants s request later = (change : Change) → change_of s request ≡ Some change → Makes s change later

-- what is left to refuse of a change of an object that is there, within the limits: lack of memory, of room or of a full journal's, or the
-- clock's end
abbrev pub is_left : Refusal → Bool
is_left ClockEnd = true
is_left refusal = is_of_want refusal

-- a refusal is of want, or the first that applies
abbrev pub IsGiven : Option Refusal → Refusal → Type 0
IsGiven first refusal = (is_of_want refusal ≡ true) ⊎ (first ≡ Some refusal)

-- a change was stored, at some moment
abbrev pub IsStoredBy : Change → StoreFields → StoreFields → Type 0
IsStoredBy change store after = (m : ℕ) × StoresVersion store change m after

-- whether a refusal is for what a change of an object takes: its journal would be too long, or there are too few blocks
abbrev pub is_of_room : Refusal → Bool
is_of_room ChainFull = true
is_of_room NoSpace = true
is_of_room _ = false

-- A change takes too much for this reason. The moment makes no difference.
abbrev pub TakesTooMuch : Refusal → Change → StoreFields → Type 0
TakesTooMuch refusal change store = (m : ℕ) × (change_refusal store change m ≡ Some refusal)

-- these changes were stored, one after the other
abbrev pub AreStored : StoreFields → List Change → StoreFields → Type 0
AreStored store [] after = after ≡ store
AreStored store (change ∷ changes) after = (middle : StoreFields) × IsStoredBy change store middle × AreStored middle changes after

-- Of these changes one does, once those in front of it are stored, one after the other.
abbrev pub OneTakesTooMuch : Refusal → StoreFields → List Change → Type 0
OneTakesTooMuch refusal store [] = ⊥
OneTakesTooMuch refusal store (change ∷ changes) = TakesTooMuch refusal change store ⊎ ((middle : StoreFields) × IsStoredBy change store middle × OneTakesTooMuch refusal middle changes)

-- the change that a request asks for was stored
abbrev pub StoresAsked : StoreFields → State → Request → StoreFields → Type 0
StoresAsked store s request after = (change : Change) → change_of s request ≡ Some change → IsStoredBy change store after

-- a refusal for a full journal or a lack of blocks is so of the change that a request asks for
abbrev pub IsForAsked : StoreFields → State → Request → Refusal → Type 0
IsForAsked store s request refusal = is_of_room refusal ≡ true → (change : Change) → change_of s request ≡ Some change → TakesTooMuch refusal change store

-- so it is of one of these changes
abbrev pub IsForOne : StoreFields → List Change → Refusal → Type 0
IsForOne store changes refusal = is_of_room refusal ≡ true → OneTakesTooMuch refusal store changes

-- where a clock is after this many changes that are asked for at one moment: the first has the greater of that moment and the one after the
-- clock, and each further one the next
abbrev pub clock_by : ℕ → ℕ → ℕ → ℕ
clock_by clock now zero = clock
clock_by clock now (suc more) = max now (clock + 1) + more

-- At most this many changes were made since a state, each asked for at this moment of another clock.
abbrev pub IsWithinChanges : State → ℕ → ℕ → State → Type 0
IsWithinChanges s now count later = later.clock ≤ clock_by s.clock now count

-- This many changes were made.
abbrev pub IsMovedBy : State → ℕ → ℕ → State → Type 0
IsMovedBy s now count later = later.clock ≡ clock_by s.clock now count

-- What asking for changes came to, one after the other, at a moment of a clock: where all were granted they were stored, and the clock is where
-- they bring it; a refusal for a full journal or a lack of blocks is so of one of them. No change has a moment before that one.
pub record AsksFor {T : Type 0} (d : DriveFields) (now : ℕ) (changes : List Change) (answer : Result T Refusal) (d' : DriveFields) : Type 0 where
  pub stored : OnOk answer (AreStored (store_of d) changes (store_of d'))
  pub lacks : IfErr answer (IsForOne (store_of d) changes)
  pub moved : OnOk answer (IsMovedBy (state_in d) now (length changes) (state_in d'))
  pub dated : IsDatedFrom now (state_in d) (state_in d')
