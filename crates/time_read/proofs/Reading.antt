-- What a row tells of its chain and its checkpoint.
use Rattle.std.proofs.Common.{◌≡◌, ℕ, ◌≤◌, true, List, [], ◌∷◌, Option, Some, None, IsSome, IfSome, MatchOption, refl, sym, ap, subst, ◌∙◌, arith}
use Rattle.s4_types.specs.Pointer.{Place}
use Rattle.s4_types.specs.declared.limits.TheConstants.{CHAIN_ENTRY_BYTES, JOURNAL_ENTRY_BYTES}
use Rattle.block_log.specs.Log.{Stored}
use Rattle.codec.specs.Fields.{◌>>=◌}
use Rattle.codec.specs.declared.inodes.Inode.{Inode}
use Rattle.codec.specs.Entry.{EntryFields}
use Rattle.codec.specs.Checkpoint.{CheckpointFields}
use Rattle.journal_chain.specs.Packing.{packed, filled_bytes, AllFit, KeepsTheRule}
use Rattle.undo_redo.specs.Runs.{Run, blank, inode_after, moments_ascend_from}
use Rattle.undo_redo.specs.Groups.{grouped}
use Rattle.checkpoint.specs.Held.{checkpoint_held}
use Rattle.object_map.specs.declared.map.Row.{Row}
use Rattle.journal_chain.specs.Chain.{chain_entries}
use Rattle.time_read.specs.Rows.{entries_of, first_of, inode_before, inode_of, IsRow}

pub few_bytes : (held : Place → Option Stored) (o : ℕ) (row : Row) → IsRow held o row → row.journal_bytes ≤ CHAIN_ENTRY_BYTES
few_bytes held o row r = omega (arith, r.chain.bytes, r.chain.limit)

few_newest : (blocks : List (List EntryFields)) → KeepsTheRule blocks → filled_bytes blocks ≤ JOURNAL_ENTRY_BYTES
unfolding filled_bytes
few_newest [] h = omega arith
few_newest (newest ∷ older) h = h.0.few

pub few_in_head : (held : Place → Option Stored) (o : ℕ) (row : Row) → ((entries : List EntryFields) → AllFit entries → KeepsTheRule (packed entries)) → IsRow held o row → row.head_bytes ≤ JOURNAL_ENTRY_BYTES
few_in_head held o row law r =
    let few : filled_bytes (packed (entries_of held o row)) ≤ JOURNAL_ENTRY_BYTES = few_newest (packed (entries_of held o row)) (law (entries_of held o row) r.chain.fit) in
    omega (arith, few, r.chain.filled)

pub chain_is_there : (held : Place → Option Stored) (o : ℕ) (row : Row) → IsRow held o row → IsSome (chain_entries held o row.head)
unfolding chain_entries
chain_is_there held o row r = subst (λ (x : Option (List EntryFields)). IsSome x) (sym r.chain.walk) refl

pub ascend : (held : Place → Option Stored) (o : ℕ) (row : Row) → ((entries : List EntryFields) → grouped entries ≡ true → moments_ascend_from 0 entries ≡ true) → IsRow held o row → moments_ascend_from 0 (entries_of held o row) ≡ true
ascend held o row law r = law (entries_of held o row) r.groups

-- what a checkpoint of a row tells
pub is_checkpoint : (held : Place → Option Stored) (o : ℕ) (row : Row) (p : Place) → IsRow held o row → row.checkpoint ≡ Some p → checkpoint_held held o p ≡ Some (record { object = o; moment = row.checkpoint_moment; inode = inode_of held o row row.checkpoint_moment })
is_checkpoint held o row p r is =
    subst (λ (c : Option Place). MatchOption c (row.checkpoint_moment ≡ 0) (λ q. checkpoint_held held o q ≡ Some (record { object = o; moment = row.checkpoint_moment; inode = inode_of held o row row.checkpoint_moment }))) is r.checkpoint

-- without a checkpoint all begins with the blank inode
pub from_blank : (held : Place → Option Stored) (o : ℕ) (row : Row) (t : ℕ) → row.checkpoint ≡ None → inode_after (blank row.created) (entries_of held o row) t ≡ inode_of held o row t
unfolding inode_of inode_before
from_blank held o row t is =
    sym (ap (λ (c : Option Place). inode_after (inode_before row.created row.checkpoint_moment (entries_of held o row) (c >>= checkpoint_held held o)) (entries_of held o row) t) is)

pub inode_of_first : (held : Place → Option Stored) (o : ℕ) (row : Row) (t : ℕ) → inode_of held o row t ≡ inode_after (first_of held o row) (entries_of held o row) t
unfolding inode_of
inode_of_first held o row t = refl

-- what is read where a checkpoint is told
pub read_is : (told : Option CheckpointFields) (c : CheckpointFields) (i : Inode) → told ≡ Some c → IfSome told (λ d. i ≡ d.inode) → i ≡ c.inode
read_is told c i is h = subst (λ (x : Option CheckpointFields). IfSome x (λ d. i ≡ d.inode)) is h

-- from the checkpoint's moment to another one
pub led_is : (held : Place → Option Stored) (o : ℕ) (row : Row) (at : ℕ) (xs : List EntryFields) (old new : Inode) →
    xs ≡ entries_of held o row →
    IsRow held o row →
    old ≡ inode_of held o row row.checkpoint_moment →
    ((first last : Inode) → Run first xs last → old ≡ inode_after first xs row.checkpoint_moment → new ≡ inode_after first xs at) →
    new ≡ inode_of held o row at
unfolding inode_of
led_is held o row at xs old new is r is-old lead =
    lead (first_of held o row) r.last (subst (λ (es : List EntryFields). Run (first_of held o row) es r.last) (sym is) r.run) (is-old ∙ sym (ap (λ (es : List EntryFields). inode_after (first_of held o row) es row.checkpoint_moment) is))
    ∙ ap (λ (es : List EntryFields). inode_after (first_of held o row) es at) is
