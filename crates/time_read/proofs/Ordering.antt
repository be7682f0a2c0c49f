-- Rows that are in order: what that rests on, and what it tells of the inode at a moment.
use Rattle.std.proofs.Common.{◌≡◌, ℕ, ◌≤◌, true, List, [], ◌∷◌, ◌++◌, length, take, drop, Option, Some, None, MatchOption, sym, ap, subst, ◌∙◌, arith}
use Rattle.std.specs.List.{AllByRecursion}
use Rattle.std.proofs.Math.Seq.{take-append_seam}
use Rattle.std.proofs.lemmas.List.{take-append-drop}
use Rattle.s4_types.specs.Pointer.{Place}
use Rattle.block_log.specs.Log.{Stored, of_kind}
use Rattle.block_log.specs.declared.kinds.BlockKind.TheVariants.{Journal}
use Rattle.checkpoint.specs.Held.{of_checkpoints}
use Rattle.codec.specs.declared.inodes.Inode.{Inode}
use Rattle.codec.specs.Entry.{EntryFields}
use Rattle.undo_redo.specs.Runs.{redone_all, inode_after, AllBy, AllPast, entries_by, entries_past, moments_ascend_from}
use Rattle.undo_redo.specs.Groups.{grouped}
use Rattle.object_map.specs.declared.map.Row.{Row}
use Rattle.time_read.specs.Rows.{entries_of, first_of, inode_of, IsRow}
use Rattle.time_read.specs.Orderly.{inode_behind, IsFromTo, BeginsDead, IsOrderlyChain, IsOrderly}
use Rattle.time_read.proofs.Staying.{same_entries, same_first}
use Rattle.std.proofs.lemmas.Bool.{le-leb}

-- ---- what stays

pub same_orderly : (held later : Place → Option Stored) (o latest : ℕ) (row : Row) → of_kind Journal o later ≡ of_kind Journal o held → of_checkpoints o later ≡ of_checkpoints o held → IsOrderly held o row latest → IsOrderly later o row latest
same_orderly held later o latest row journal checkpoint h =
    let entries : entries_of later o row ≡ entries_of held o row = same_entries held later o row journal in
    let first : first_of later o row ≡ first_of held o row = same_first held later o row journal checkpoint in
    let from : IsOrderlyChain row.created latest (first_of later o row) (entries_of held o row) = subst (λ (i : Inode). IsOrderlyChain row.created latest i (entries_of held o row)) (sym first) h.chain in
    record {
      made = h.made;
      chain = subst (λ (es : List EntryFields). IsOrderlyChain row.created latest (first_of later o row) es) (sym entries) from;
      checkpoint = subst (λ (es : List EntryFields). MatchOption row.checkpoint (BeginsDead es) (λ p. IsFromTo row.created latest row.checkpoint_moment)) (sym entries) h.checkpoint;
    }

pub stamped_orderly : (held : Place → Option Stored) (o latest n : ℕ) (row : Row) → IsOrderly held o row latest → IsOrderly held o (record row { stamp = n }) latest
stamped_orderly held o latest n row h = record { made = h.made; chain = h.chain; checkpoint = h.checkpoint }

-- ---- later moments

pub from_to_later : (first a b t : ℕ) → a ≤ b → IsFromTo first a t → IsFromTo first b t
from_to_later first a b t le h = (h.0, (let by : t ≤ a = h.1 in omega (arith, by, le)))

pub moments_later : (created a b : ℕ) (entries : List EntryFields) → a ≤ b → AllByRecursion (λ e. IsFromTo created a e.moment) entries → AllByRecursion (λ e. IsFromTo created b e.moment) entries
moments_later created a b [] le h = tt
moments_later created a b (e ∷ entries) le h = (from_to_later created a b e.moment le h.0, moments_later created a b entries le h.1)

pub chain_later : (created a b : ℕ) (first : Inode) (entries : List EntryFields) → a ≤ b → IsOrderlyChain created a first entries → IsOrderlyChain created b first entries
chain_later created a b first entries le h = record {
  moments = moments_later created a b entries le h.moments;
  changed = λ n alive. from_to_later created a b (inode_behind first entries n).changed le (h.changed n alive);
  between = h.between;
  beginning = h.beginning;
  live = h.live;
}

checkpoint_later : (N : Type 0) (checkpoint : Option Place) (first a b t : ℕ) → a ≤ b → MatchOption checkpoint N (λ p. IsFromTo first a t) → MatchOption checkpoint N (λ p. IsFromTo first b t)
checkpoint_later N None first a b t le h = h
checkpoint_later N (Some p) first a b t le h = from_to_later first a b t le h

pub orderly_later : (held : Place → Option Stored) (o : ℕ) (row : Row) (a b : ℕ) → a ≤ b → IsOrderly held o row a → IsOrderly held o row b
orderly_later held o row a b le h = record {
  made = from_to_later 1 a b row.created le h.made;
  chain = chain_later row.created a b (first_of held o row) (entries_of held o row) le h.chain;
  checkpoint = checkpoint_later (BeginsDead (entries_of held o row)) row.checkpoint row.created a b row.checkpoint_moment le h.checkpoint;
}

-- ---- the inode at a moment

pub is_behind :
    ((entries : List EntryFields) → grouped entries ≡ true → moments_ascend_from 0 entries ≡ true) →
    ((entries : List EntryFields) (low t : ℕ) → moments_ascend_from low entries ≡ true → entries ≡ entries_by t entries ++ entries_past t entries) →
    (held : Place → Option Stored) (o : ℕ) (row : Row) (t : ℕ) → IsRow held o row → inode_of held o row t ≡ inode_behind (first_of held o row) (entries_of held o row) (length (entries_by t (entries_of held o row)))
unfolding inode_of
is_behind ascend parts held o row t r =
    let entries : List EntryFields = entries_of held o row in
    let by : List EntryFields = entries_by t entries in
    let split : entries ≡ by ++ entries_past t entries = parts entries 0 t (ascend entries r.groups) in
    let front : take (length by) entries ≡ by = ap (λ (es : List EntryFields). take (length by) es) split ∙ take-append_seam by (entries_past t entries) in
    ap (λ (es : List EntryFields). redone_all es (first_of held o row)) (sym front)

pub is_current :
    ((i : Inode) (entries : List EntryFields) (t : ℕ) → AllBy t entries → inode_after i entries t ≡ redone_all entries i) →
    ((i : Inode) (entries later : List EntryFields) (t : ℕ) → AllPast t later → inode_after i (entries ++ later) t ≡ inode_after i entries t) →
    (held : Place → Option Stored) (o : ℕ) (row : Row) (n t : ℕ) → AllBy t (take n (entries_of held o row)) → AllPast t (drop n (entries_of held o row)) → inode_behind (first_of held o row) (entries_of held o row) n ≡ inode_of held o row t
unfolding inode_of
is_current done later held o row n t by past =
    let first : Inode = first_of held o row in
    let entries : List EntryFields = entries_of held o row in
    let split : take n entries ++ drop n entries ≡ entries = take-append-drop n entries in
    sym (done first (take n entries) t by)
    ∙ sym (later first (take n entries) (drop n entries) t past)
    ∙ ap (λ (es : List EntryFields). inode_after first es t) split

pub changed_in : (held : Place → Option Stored) (o : ℕ) (row : Row) (t latest n : ℕ) → inode_of held o row t ≡ inode_behind (first_of held o row) (entries_of held o row) n → IsOrderly held o row latest → (inode_of held o row t).alive ≡ true → IsFromTo row.created latest (inode_of held o row t).changed
changed_in held o row t latest n is h alive =
    subst (λ (i : Inode). IsFromTo row.created latest i.changed) (sym is) (h.chain.changed n (sym (ap (λ (i : Inode). i.alive) is) ∙ alive))

-- what is from one moment to another is by the later one
pub all_by_last : (c latest : ℕ) (entries : List EntryFields) → AllByRecursion (λ e. IsFromTo c latest e.moment) entries → AllBy latest entries
all_by_last c latest [] h = tt
all_by_last c latest (e ∷ entries) h = (le-leb e.moment latest h.0.1, all_by_last c latest entries h.1)
