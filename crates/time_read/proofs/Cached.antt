-- The inode of a row's checkpoint in a cache.
use Rattle.std.proofs.Common.{◌≡◌, ◌⊎◌, inl, inr, ℕ, List, Option, Some, None, IfSome, option_map, sym, ap, subst, ◌∙◌, IsSome}
use Rattle.std.specs.Prelude.{Contains}
use Rattle.s4_types.specs.Pointer.{Place}
use Rattle.block_log.specs.Log.{Stored}
use Rattle.codec.specs.Fields.{◌>>=◌}
use Rattle.codec.specs.declared.inodes.Inode.{Inode}
use Rattle.codec.specs.Checkpoint.{CheckpointFields}
use Rattle.checkpoint.specs.Held.{checkpoint_held}
use Rattle.checkpoint.specs.declared.cache.CacheKey.{CacheKey}
use Rattle.object_map.specs.declared.map.Row.{Row}
use Rattle.time_read.specs.Caches.{AddsTrue, IsTrueOf, key_of}

abbrev Pairs : Type 0
Pairs = List (CacheKey × Inode)

pub adds_none : (held : Place → Option Stored) (o : ℕ) (row : Row) (pairs : Pairs) → AddsTrue held o row pairs pairs
adds_none held o row pairs = λ e there. inl there

-- what only forgets adds nothing
pub adds_fewer : (held : Place → Option Stored) (o : ℕ) (row : Row) (before after : Pairs) → ((e : CacheKey × Inode) → Contains after e → Contains before e) → AddsTrue held o row before after
adds_fewer held o row before after fewer = λ e there. inl (fewer e there)

-- the checkpoint that a row names
at_place : (held : Place → Option Stored) (o : ℕ) (row : Row) (p : Place) → row.checkpoint ≡ Some p → checkpoint_held held o p ≡ (row.checkpoint >>= checkpoint_held held o)
at_place held o row p is = sym (ap (λ (c : Option Place). c >>= checkpoint_held held o) is)

if_told : (found : Option CheckpointFields) (i : Inode) → option_map (λ c. c.inode) found ≡ Some i → IfSome found (λ c. i ≡ c.inode)
if_told None i told = tt
if_told (Some c) i told = cc

told_if : (found : Option CheckpointFields) (i : Inode) → IsSome found → IfSome found (λ c. i ≡ c.inode) → option_map (λ c. c.inode) found ≡ Some i
told_if None i there is = cc
told_if (Some c) i there is = ap (λ (j : Inode). Some j) (sym is)

-- what was found in the cache is the checkpoint's inode
pub found_is : (held : Place → Option Stored) (o : ℕ) (row : Row) (p : Place) (pairs : Pairs) (found : Option Inode) (i : Inode) → row.checkpoint ≡ Some p → IsTrueOf pairs held o row → found ≡ Some i → IfSome found (λ j. Contains pairs (key_of o row, j))
    → IfSome (checkpoint_held held o p) (λ c. i ≡ c.inode)
found_is held o row p pairs found i is true_of at there =
    if_told (checkpoint_held held o p) i
    (ap (λ (c : Option CheckpointFields). option_map (λ (d : CheckpointFields). d.inode) c) (at_place held o row p is)
    ∙ true_of i (subst (λ (x : Option Inode). IfSome x (λ j. Contains pairs (key_of o row, j))) at there))

-- what was read is put there
pub adds_read : (held : Place → Option Stored) (o : ℕ) (row : Row) (p : Place) (before between after : Pairs) (i : Inode) → row.checkpoint ≡ Some p → IsSome (checkpoint_held held o p) → IfSome (checkpoint_held held o p) (λ c. i ≡ c.inode)
    → ((e : CacheKey × Inode) → Contains between e → Contains before e)
    → ((e : CacheKey × Inode) → Contains after e → Contains between e ⊎ (e ≡ (key_of o row, i)))
    → AddsTrue held o row before after
adds_read held o row p before between after i is there read fewer put = λ e has. elim (put e has) [
  | inl was ↦ inl (fewer e was)
  | inr new ↦ inr (
    ap (λ (d : CacheKey × Inode). d.0) new,
    ap (λ (c : Option CheckpointFields). option_map (λ (d : CheckpointFields). d.inode) c) (sym (at_place held o row p is))
        ∙ told_if (checkpoint_held held o p) i there read
        ∙ ap (λ (d : CacheKey × Inode). Some d.1) (sym new),
  )
]
