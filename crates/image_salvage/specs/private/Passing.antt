-- Rows that aren't outdated are gathered, the objects that they give left out, and the others found one by one.
use Rattle.std.specs.Prelude.{◌≡◌, ◌⊎◌, ◌↔◌, ℕ, ◌++◌, List, [], ◌∷◌, Option, None}
use Rattle.std.specs.List.{Contains}
use Rattle.s4_types.specs.Pointer.{Place}
use Rattle.block_log.specs.Log.{Stored}
use Rattle.object_map.specs.Objects.{without_value}
use Rattle.image_parts.specs.declared.rows.RowPart.{RowPart}
use Rattle.image_salvage.specs.declared.newest.Note.{Note}
use Rattle.image_salvage.specs.declared.unlisted.Unlisted.{Unlisted}
use Rattle.image_salvage.specs.Outdated.{IsOutdated}
use Rattle.image_salvage.specs.Rows.{IsThere, IsLost}
use Rattle.image_salvage.specs.Unlisted.{IsFound, IsListed, ObjectsAscend}

-- a row is added where it isn't outdated
abbrev pub Believes : (Place → Option Stored) → (ℕ → Option Note) → RowPart → List RowPart → List RowPart → Type 0
Believes used heads part believed later = (IsOutdated used heads part × (later ≡ believed)) ⊎ ((IsOutdated used heads part → ⊥) × (later ≡ believed ++ part ∷ []))

-- the object of a row is left out where the row gives it
abbrev pub IsLeft : (Place → Option Stored) → RowPart → (ℕ → Option Note) → (ℕ → Option Note) → Type 0
IsLeft used part heads left = (IsThere used part × ((o : ℕ) → left o ≡ without_value heads part.object o)) ⊎ (IsLost used part × ((o : ℕ) → left o ≡ heads o))

-- so are those of all rows
abbrev pub AreLeft : (Place → Option Stored) → List RowPart → (ℕ → Option Note) → (ℕ → Option Note) → Type 0
AreLeft used rows heads left = (o : ℕ) → (IsListed used rows o × (left o ≡ None)) ⊎ ((IsListed used rows o → ⊥) × (left o ≡ heads o))

-- an object is added where it is found
abbrev pub AddsFound : (Place → Option Stored) → (ℕ → Option Note) → ℕ → List Unlisted → List Unlisted → Type 0
AddsFound used heads o found later =
    ((u : Unlisted) × (u.object ≡ o) × IsFound used heads u × (later ≡ found ++ u ∷ []))
    ⊎ (((u : Unlisted) → u.object ≡ o → IsFound used heads u → ⊥) × (later ≡ found))

-- these are all that are found
pub record AreFoundAll (used : Place → Option Stored) (heads : ℕ → Option Note) (found : List Unlisted) : Type 0 where
  pub all : (u : Unlisted) → Contains found u ↔ IsFound used heads u
  pub ascend : ObjectsAscend 0 found
