-- Which blocks rows name, and that no other block is held.
use Rattle.std.proofs.Common.{◌≡◌, ◌↔◌, inl, inr, ℕ, zero, suc, ◌==◌, ◌&&◌, ltb, cond, Bool, true, false, List, [], ◌∷◌, length, slice_get, Option, Some, None, MatchOption, IsSome, is_some, refl, sym, ap, subst, ◌∙◌, arith}
use Rattle.std.specs.List.{AllByRecursion, Contains}
use Rattle.std.proofs.lemmas.List.Folds.{list_any-append}
use Rattle.std.proofs.lemmas.Bool.{or_cases, cond-true, and_from, eq-eqb, false≢true}
use Rattle.std.proofs.lemmas.Option.{none-some, same_Some}
use Rattle.s4_types.specs.Pointer.{Place}
use Rattle.s4_types.specs.declared.limits.TheConstants.{SIDES}
use Rattle.block_log.specs.declared.kinds.BlockKind.{BlockKind}
use Rattle.block_log.specs.declared.kinds.BlockKind.TheVariants.{Journal, Checkpoint, Data, Pointers}
use Rattle.block_log.specs.Log.{Stored, of_kind, seen_as, same_kind, same_place}
use Rattle.codec.specs.Fields.{bit}
use Rattle.codec.specs.Checkpoint.{CheckpointFields, pointer_at}
use Rattle.codec.specs.declared.inodes.Inode.{Inode}
use Rattle.checkpoint.specs.Held.{checkpoint_held, of_checkpoints, places_in, is_one_of, HasItsBlocks}
use Rattle.checkpoint.proofs.OwnBlocks.{has_some, first_is_seen, part_is_seen}
use Rattle.object_map.specs.declared.map.Row.{Row}
use Rattle.object_map.specs.declared.sides.Side.{Side}
use Rattle.object_map.specs.Rows.{row_of}
use Rattle.object_map.specs.Sides.{side_gone}
use Rattle.block_log.proofs.BlockKinds.{same_kind_itself}
use Rattle.time_read.specs.Rows.{IsRow, IsSide, inode_of, checkpoint_places_of, all_places_of, side_places}
use Rattle.version_store.specs.Store.{StoreFields, IsStore, IsObject, pointers_of, DataIsNamed, Names, IsNamed}
use Rattle.version_store.specs.Versions.{inode_by, inode_in}
use Rattle.version_store.specs.private.Below.{OnePlace, CheckpointsHaveBlocks}
use Rattle.version_store.proofs.Telling.{inode_told, led_there}
use Rattle.version_store.proofs.Recounted.{data_is_named}

-- ---- what is held is what rows name

counted_there : (b : _) → bit b ≡ 1 → b ≡ true
counted_there true one = refl
counted_there false one = absurd (omega (arith, one))

told_there : CheckpointsHaveBlocks → (N : Type 0) (held : Place → Option Stored) (o : ℕ) (c : CheckpointFields) (place : Option Place) → MatchOption place N (λ p. checkpoint_held held o p ≡ Some c) → HasItsBlocks held o place
told_there law N held o c None h q is = absurd (false≢true is)
told_there law N held o c (Some p) h q is = law held o p (ap is_some h) q is

-- each block of the checkpoint that a row names is held
pub checkpoint_there : CheckpointsHaveBlocks → (held : Place → Option Stored) (o : ℕ) (row : Row) → IsRow held o row → HasItsBlocks held o row.checkpoint
checkpoint_there law held o row r =
    told_there law (row.checkpoint_moment ≡ 0) held o (record { object = o; moment = row.checkpoint_moment; inode = inode_of held o row row.checkpoint_moment }) row.checkpoint r.checkpoint

sides_there : CheckpointsHaveBlocks → (held : Place → Option Stored) (o : ℕ) (row : Row) (sides : List Side) → AllByRecursion (IsSide held o row) sides → (q : Place) → is_one_of (side_places (of_checkpoints o held) sides) q ≡ true → IsSome (of_checkpoints o held q)
sides_there law held o row [] all q is = absurd (false≢true is)
sides_there law held o row (side ∷ sides) all q is =
    let view = of_checkpoints o held in
    elim (or_cases (is_one_of (places_in view side.place) q) (is_one_of (side_places view sides) q) (sym (list_any-append (λ p. same_place p q) (places_in view side.place) (side_places view sides)) ∙ is)) [
      | inl here ↦ has_some (view q) (law held o side.place (ap is_some all.0.told) q here)
      | inr later ↦ sides_there law held o row sides all.1 q later
    ]

-- the blocks of one of the older checkpoints are held
pub side_there : CheckpointsHaveBlocks → (held : Place → Option Stored) (o : ℕ) (row : Row) (sides : List Side) (side : Side) → AllByRecursion (IsSide held o row) sides → Contains sides side → HasItsBlocks held o (Some side.place)
side_there law held o row [] side all (n, below, at) = absurd (omega (arith, below))
side_there law held o row (x ∷ sides) side all (zero, below, at) = subst (λ (y : Side). HasItsBlocks held o (Some y.place)) at (law held o x.place (ap is_some all.0.told))
side_there law held o row (x ∷ sides) side all (suc n, below, at) = side_there law held o row sides side all.1 (n, omega (arith, below), at)

front_has : CheckpointsHaveBlocks → (held : Place → Option Stored) (o : ℕ) (row : Row) (sides : List Side) (gone : Side) → AllByRecursion (IsSide held o row) sides → Some gone ≡ slice_get sides 0 → HasItsBlocks held o (Some gone.place)
front_has law held o row [] gone all is = absurd (none-some gone (sym is))
front_has law held o row (side ∷ sides) gone all is = subst (λ (x : Side). HasItsBlocks held o (Some x.place)) (sym (same_Some gone side is)) (law held o side.place (ap is_some all.0.told))

front_is : (few : Bool) (front : Option Side) (gone : Side) → Some gone ≡ cond few None front → Some gone ≡ front
front_is true front gone is = absurd (none-some gone (sym is))
front_is false front gone is = is

-- the blocks of the older checkpoint that goes where a newer one is written are held
pub gone_has : CheckpointsHaveBlocks → (held : Place → Option Stored) (o : ℕ) (row : Row) (sides : List Side) (newest : Option Place) (gone : Side) → AllByRecursion (IsSide held o row) sides → Some gone ≡ side_gone sides newest → HasItsBlocks held o (Some gone.place)
gone_has law held o row sides None gone all is = absurd (none-some gone (sym is))
gone_has law held o row sides (Some p) gone all is = front_has law held o row sides gone all (front_is (ltb (length sides) SIDES) (slice_get sides 0) gone is)

-- each block of all checkpoints that a row names is held
pub checkpoints_there : CheckpointsHaveBlocks → (held : Place → Option Stored) (o : ℕ) (row : Row) → IsRow held o row → (q : Place) → is_one_of (all_places_of held o row) q ≡ true → IsSome (of_checkpoints o held q)
checkpoints_there law held o row r q is =
    let view = of_checkpoints o held in
    elim (or_cases (is_one_of (checkpoint_places_of held o row) q) (is_one_of (side_places view row.sides) q) (sym (list_any-append (λ p. same_place p q) (checkpoint_places_of held o row) (side_places view row.sides)) ∙ is)) [
      | inl here ↦ has_some (view q) (checkpoint_there law held o row r q here)
      | inr older ↦ sides_there law held o row row.sides r.sides q older
    ]

held_named : (held : Place → Option Stored) (o : ℕ) (row : Row) (kind : BlockKind) (p : Place) → IsRow held o row → DataIsNamed held o row → IsSome (of_kind kind o held p) → Names held o row kind p
held_named held o row Journal p r named there = r.chain.once p ∙ ap bit there
held_named held o row Checkpoint p r named there = (r.only p (first_is_seen o (held p) there), there)
held_named held o row Pointers p r named there = (r.only p (part_is_seen o (held p) there), there)
held_named held o row Data p r named there = named p there

named_held : CheckpointsHaveBlocks → (held : Place → Option Stored) (o : ℕ) (row : Row) (kind : BlockKind) (p : Place) (latest : ℕ) → IsObject held o row latest → Names held o row kind p → IsSome (of_kind kind o held p)
named_held law held o row Journal p latest object names = counted_there (is_some (of_kind Journal o held p)) (sym (object.stands.chain.once p) ∙ names)
named_held law held o row Checkpoint p latest object names = names.1
named_held law held o row Pointers p latest object names = names.1
named_held law held o row Data p latest object names = led_there held o (pointers_of held o row) p object.led names

row_there : OnePlace → (s : StoreFields) (o : ℕ) (kind : BlockKind) (p : Place) (row : Option Row) → row_of s.rows o ≡ row → IsStore s → IsSome (of_kind kind o s.log.held p) → IsNamed s o kind p
row_there one s o kind p None is store there = absurd (false≢true (sym (ap is_some (store.nothing o is kind p)) ∙ there))
row_there one s o kind p (Some row) is store there =
    let stands = (store.objects o row is).stands in
    record { row = row; there = is; names = held_named s.log.held o row kind p stands (data_is_named one s.log o row store.names stands (store.counted o row is)) there }

pub held_is_named : OnePlace → CheckpointsHaveBlocks → (s : StoreFields) (o : ℕ) (kind : BlockKind) (p : Place) → IsStore s → IsSome (of_kind kind o s.log.held p) ↔ IsNamed s o kind p
held_is_named one law s o kind p store = (
  λ there. row_there one s o kind p (row_of s.rows o) refl store there,
  λ is. named_held law s.log.held o is.row kind p s.latest (store.objects o is.row is.there) is.names,
)

-- a block is seen as what it is
seen_itself : (there : Option Stored) (block : Stored) → there ≡ Some block → IsSome (seen_as block.kind block.object there)
seen_itself there block is =
    ap (λ (b : Option Stored). is_some (seen_as block.kind block.object b)) is
    ∙ ap is_some (cond-true (same_kind block.kind block.kind && block.object == block.object) (Some block.bytes) None
    (and_from (same_kind block.kind block.kind) (block.object == block.object) (same_kind_itself block.kind) (eq-eqb block.object block.object refl)))

-- each block of a checkpoint that a row of a store names is held
pub row_checkpoints_there : CheckpointsHaveBlocks → (s : StoreFields) (o : ℕ) (row : Row) (p : Place) → IsStore s → row_of s.rows o ≡ Some row → is_one_of (all_places_of s.log.held o row) p ≡ true → IsSome (of_checkpoints o s.log.held p)
row_checkpoints_there law s o row p store there is = checkpoints_there law s.log.held o row (store.objects o row there).stands p is

pub block_is_named : OnePlace → CheckpointsHaveBlocks → (s : StoreFields) (p : Place) (block : Stored) → IsStore s → s.log.held p ≡ Some block → IsNamed s block.object block.kind p
block_is_named one law s p block store at = (held_is_named one law s block.object block.kind p store).0 (seen_itself (s.log.held p) block at)

-- ---- what an inode points to is named

pointed : (s : StoreFields) (o t n : ℕ) (i : Inode) (p : Place) (row : Option Row) → row_of s.rows o ≡ row → inode_by s.log.held o t row ≡ Some i → pointer_at i n ≡ Some p → IsNamed s o Data p
pointed s o t n i p None there is at = absurd (none-some i is)
pointed s o t n i p (Some row) there is at = record {
  row = row;
  there = there;
  names = inode_told s.log.held o row t n p (ap (λ (j : Inode). pointer_at j n) (same_Some (inode_of s.log.held o row t) i is) ∙ at);
}

pub pointed_is_named : (s : StoreFields) (o t n : ℕ) (i : Inode) (p : Place) → inode_in s o t ≡ Some i → pointer_at i n ≡ Some p → IsNamed s o Data p
pointed_is_named s o t n i p is at = pointed s o t n i p (row_of s.rows o) refl is at
