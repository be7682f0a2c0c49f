-- What holds of a drive between calls.
use Rattle.std.specs.Prelude.{◌≡◌, ◌⊎◌, ℕ, ◌≤◌, None}
use Rattle.s4_model.specs.State.{State}
use Rattle.s4_model.specs.VersionAt.{version_of}
use Rattle.s4_model.specs.Visible.{IsVisible}
use Rattle.s4_model.specs.Sound.{IsSound}
use Rattle.object_map.specs.Rows.{row_of}
use Rattle.version_store.specs.Store.{StoreFields, IsStore}
use Rattle.version_store.specs.Versions.{version_in}
use Rattle.window.specs.Timeline.{Timeline, StandsFor}

-- A moment of an object whose version is needed: it can be read, or it is the clock or later, where changes begin. Of
-- moments that are hidden or below the floor nothing is asked.
abbrev pub IsNeeded : State → ℕ → ℕ → Type 0
IsNeeded s o t = IsVisible s o t ⊎ (s.clock ≤ t)

-- the blocks of each object stand, at each moment that is needed, for the version of a state
abbrev pub HasVersions : StoreFields → State → Type 0
HasVersions store s = (o t : ℕ) → IsNeeded s o t → version_in store o t ≡ version_of s o t

-- so they do at each moment that can be read
abbrev pub DecodesWhereVisible : StoreFields → State → Type 0
DecodesWhereVisible store s = (o t : ℕ) → IsVisible s o t → version_in store o t ≡ version_of s o t

-- the versions that are needed are, over other blocks and rows, what they are over these
abbrev pub KeepsVersions : State → StoreFields → StoreFields → Type 0
KeepsVersions s store later = (o t : ℕ) → IsNeeded s o t → version_in later o t ≡ version_in store o t

-- Objects, window and the next object's number are those of a state: its versions, its clock, window, floor and spans, its
-- next number. Nothing was stored later than its clock, and no object is there whose number wasn't given.
pub record IsKeptDrive (s : State) (objects : StoreFields) (w : Timeline) (number : ℕ) : Type 0 where
  pub window : StandsFor w s
  pub next : number ≡ s.next
  pub store : IsStore objects
  pub versions : HasVersions objects s
  pub past : objects.latest ≤ s.clock
  pub unborn : (o : ℕ) → s.next ≤ o → row_of objects.rows o ≡ None
  pub sound : IsSound s
