-- That a line has each version that can be read, once, and no other.
use Rattle.std.specs.Prelude.{◌≡◌, ◌⊎◌, ⊤, ℕ, ◌≤◌, ◌<◌, List, [], ◌∷◌}
use Rattle.std.specs.List.{Contains}
use Rattle.s4_model.specs.State.{State}
use Rattle.s4_model.specs.VersionAt.{version_of}
use Rattle.s4_model.specs.Visible.{IsVisible}
use Rattle.codec.specs.Entry.{EntryFields}
use Rattle.version_store.specs.Store.{StoreFields}
use Rattle.version_store.specs.Versions.{entries_of_object}
use Rattle.history_export.specs.Versions.{beginnings_of}
use Rattle.history_versions.specs.Lines.{piece_at, version_text}
use Rattle.history_versions.specs.declared.lines.VersionsAsked.{VersionsAsked}

-- What an object is at a moment is printed: as what it is from the first moment on at which that can be read.
pub record IsPrinted (s : State) (store : StoreFields) (asked : VersionsAsked) (o t : ℕ) : Type 0 where
  pub moment : ℕ
  pub among : Contains (beginnings_of s store o) moment
  pub not_later : moment ≤ t
  pub printed : piece_at s asked o moment ≡ version_text asked.style asked.contents moment (version_of s o t)

-- so is what each object is at each moment that can be read, up to the last one asked for
abbrev pub EachIsPrinted : State → StoreFields → Type 0
EachIsPrinted s store = (asked : VersionsAsked) (o t : ℕ) → IsVisible s o t → t ≤ asked.until → IsPrinted s store asked o t

-- each moment is later than the one before it
abbrev pub AscendAfter : ℕ → List ℕ → Type 0
AscendAfter last [] = ⊤
AscendAfter last (t ∷ moments) = last < t × AscendAfter t moments

abbrev pub AscendStrictly : List ℕ → Type 0
AscendStrictly [] = ⊤
AscendStrictly (t ∷ moments) = AscendAfter t moments

-- a moment is 0, or that of a change of an object
abbrev pub IsOfChange : StoreFields → ℕ → ℕ → Type 0
IsOfChange store o from = (from ≡ 0) ⊎ ((e : EntryFields) × Contains (entries_of_object store o) e × (e.moment ≡ from))

-- A moment of an object can be read, and is the first that can from one of its changes on, or the first of all.
pub record IsBegun (s : State) (store : StoreFields) (o t : ℕ) : Type 0 where
  pub from : ℕ
  pub changed : IsOfChange store o from
  pub begun : from ≤ t
  pub visible : IsVisible s o t
  pub first : (q : ℕ) → IsVisible s o q → from ≤ q → t ≤ q
