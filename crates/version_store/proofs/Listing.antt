-- Pointers to all places that a row names, listed one by one.
use Rattle.std.proofs.Common.{◌≡◌, ℕ, List, [], ◌∷◌, ◌++◌, map, Option, Some, is_some, refl, sym, ap, ◌∙◌, append_assoc}
use Rattle.std.specs.List.{All, AllByRecursion, flat_map}
use Rattle.std.proofs.lemmas.List.{map-append}
use Rattle.std.proofs.lemmas.List.Elements.{All-from_recursion}
use Rattle.s4_types.specs.Pointer.{Place}
use Rattle.block_log.specs.Log.{Stored}
use Rattle.checkpoint.specs.Held.{places_in, HasItsBlocks}
use Rattle.object_map.specs.declared.map.Row.{Row}
use Rattle.object_map.specs.declared.sides.Side.{Side}
use Rattle.time_read.specs.Rows.{IsRow, IsSide, side_places}
use Rattle.version_store.specs.private.Below.{CheckpointsHaveBlocks}

-- the places of older checkpoints as pointers, piece by piece
pub sides_mapped : (view : Place → Option (List ℕ)) (sides : List Side) → flat_map (λ side. map Some (places_in view side.place)) sides ≡ map Some (side_places view sides)
sides_mapped view [] = refl
sides_mapped view (side ∷ sides) =
    ap (λ (l : List (Option Place)). map Some (places_in view side.place) ++ l) (sides_mapped view sides)
    ∙ sym (map-append Some (places_in view side.place) (side_places view sides))

sides_have : CheckpointsHaveBlocks → (held : Place → Option Stored) (o : ℕ) (row : Row) (sides : List Side) → AllByRecursion (IsSide held o row) sides → AllByRecursion (λ side. HasItsBlocks held o (Some side.place)) sides
sides_have law held o row [] all = tt
sides_have law held o row (side ∷ sides) all = (law held o side.place (ap is_some all.0.told), sides_have law held o row sides all.1)

-- the blocks of all older checkpoints are held
pub older_have : CheckpointsHaveBlocks → (held : Place → Option Stored) (o : ℕ) (row : Row) → IsRow held o row → All (λ side. HasItsBlocks held o (Some side.place)) row.sides
older_have law held o row stands = All-from_recursion (λ side. HasItsBlocks held o (Some side.place)) row.sides (sides_have law held o row row.sides stands.sides)

-- three pieces
pub joined_twice : {X : Type 0} (start first second now next : List X) → now ≡ start ++ first → next ≡ now ++ second → next ≡ start ++ (first ++ second)
joined_twice {X} start first second now next so more = more ∙ ap (λ (l : List X). l ++ second) so ∙ append_assoc start first second
