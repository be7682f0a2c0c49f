-- What a row tells depends on its object's own blocks alone.
use Rattle.std.proofs.Common.{◌≡◌, ℕ, true, List, [], ◌++◌, Option, Some, None, IsSome, unwrap_or, MatchOption, sym, ap, subst, ◌∙◌}
use Rattle.s4_types.specs.Pointer.{Place}
use Rattle.lemmas.proofs.List.{all_weaker}
use Rattle.block_log.specs.Log.{Stored, of_kind}
use Rattle.block_log.specs.declared.kinds.BlockKind.TheVariants.{Journal}
use Rattle.codec.specs.Fields.{◌>>=◌}
use Rattle.codec.specs.declared.inodes.Inode.{Inode}
use Rattle.codec.specs.Entry.{EntryFields}
use Rattle.codec.specs.Checkpoint.{CheckpointFields}
use Rattle.undo_redo.specs.Runs.{Run, inode_after}
use Rattle.undo_redo.specs.Groups.{grouped}
use Rattle.checkpoint.specs.Held.{of_checkpoints, checkpoint_held, checkpoint_in, places_named, is_one_of}
use Rattle.object_map.specs.declared.map.Row.{Row}
use Rattle.object_map.specs.declared.sides.Side.{Side}
use Rattle.journal_chain.specs.Chain.{BlockView, IsChain, Holds, chain_entries, entries_in}
use Rattle.time_read.specs.Rows.{chain_of, entries_of, checkpoint_of, side_places, first_of, inode_before, inode_of, IsRow, IsSide}

pub same_entries : (held later : Place → Option Stored) (o : ℕ) (row : Row) → of_kind Journal o later ≡ of_kind Journal o held → entries_of later o row ≡ entries_of held o row
unfolding chain_entries
same_entries held later o row same = ap (λ (v : BlockView). unwrap_or (entries_in v o row.head) []) same

same_read : (held later : Place → Option Stored) (o : ℕ) (p : Place) → of_checkpoints o later ≡ of_checkpoints o held → checkpoint_held later o p ≡ checkpoint_held held o p
same_read held later o p same = ap (λ (v : BlockView). checkpoint_in v p) same

same_checkpoint : (held later : Place → Option Stored) (o : ℕ) (row : Row) → of_checkpoints o later ≡ of_checkpoints o held → checkpoint_of later o row ≡ checkpoint_of held o row
same_checkpoint held later o row same = ap (λ (v : BlockView). row.checkpoint >>= λ p. checkpoint_in v p) same

pub same_first : (held later : Place → Option Stored) (o : ℕ) (row : Row) → of_kind Journal o later ≡ of_kind Journal o held → of_checkpoints o later ≡ of_checkpoints o held → first_of later o row ≡ first_of held o row
same_first held later o row journal checkpoint =
    ap (λ (es : List EntryFields). inode_before row.created row.checkpoint_moment es (checkpoint_of later o row)) (same_entries held later o row journal)
    ∙ ap (λ (c : Option CheckpointFields). inode_before row.created row.checkpoint_moment (entries_of held o row) c) (same_checkpoint held later o row checkpoint)

pub same_inode : (held later : Place → Option Stored) (o t : ℕ) (row : Row) → of_kind Journal o later ≡ of_kind Journal o held → of_checkpoints o later ≡ of_checkpoints o held → inode_of later o row t ≡ inode_of held o row t
unfolding inode_of
same_inode held later o t row journal checkpoint =
    ap (λ (es : List EntryFields). inode_after (first_of later o row) es t) (same_entries held later o row journal)
    ∙ ap (λ (i : Inode). inode_after i (entries_of held o row) t) (same_first held later o row journal checkpoint)

pub match_moved : (N : Type 0) (c : Option Place) (f g : Place → Option CheckpointFields) (x y : CheckpointFields) → ((p : Place) → g p ≡ f p) → y ≡ x → MatchOption c N (λ p. f p ≡ Some x) → MatchOption c N (λ p. g p ≡ Some y)
match_moved N None f g x y same is h = h
match_moved N (Some p) f g x y same is h = same p ∙ h ∙ sym (ap (λ (z : CheckpointFields). Some z) is)

same_side : (held later : Place → Option Stored) (o : ℕ) (row : Row) → of_kind Journal o later ≡ of_kind Journal o held → of_checkpoints o later ≡ of_checkpoints o held → (side : Side) → IsSide held o row side → IsSide later o row side
same_side held later o row journal checkpoint side is = record {
  told = same_read held later o side.place checkpoint ∙ is.told ∙ ap (λ (i : Inode). Some (record { object = o; moment = side.moment; inode = i })) (sym (same_inode held later o side.moment row journal checkpoint));
  older = is.older;
}

pub same_row : (held later : Place → Option Stored) (o : ℕ) (row : Row) → of_kind Journal o later ≡ of_kind Journal o held → of_checkpoints o later ≡ of_checkpoints o held → IsRow held o row → IsRow later o row
same_row held later o row journal checkpoint r =
    let entries : entries_of later o row ≡ entries_of held o row = same_entries held later o row journal in
    let first : first_of later o row ≡ first_of held o row = same_first held later o row journal checkpoint in
    let run : Run (first_of later o row) (entries_of held o row) r.last = subst (λ (i : Inode). Run i (entries_of held o row) r.last) (sym first) r.run in
    let chain : Holds later (chain_of o row) (entries_of held o row) = subst (λ (v : BlockView). IsChain v (chain_of o row) (entries_of held o row)) (sym journal) r.chain in
    record {
      object = r.object;
      chain = subst (λ (es : List EntryFields). Holds later (chain_of o row) es) (sym entries) chain;
      last = r.last;
      run = subst (λ (es : List EntryFields). Run (first_of later o row) es r.last) (sym entries) run;
      groups = subst (λ (es : List EntryFields). grouped es ≡ true) (sym entries) r.groups;
      checkpoint = match_moved (row.checkpoint_moment ≡ 0) row.checkpoint (checkpoint_held held o) (checkpoint_held later o) (record { object = o; moment = row.checkpoint_moment; inode = inode_of held o row row.checkpoint_moment }) (record { object = o; moment = row.checkpoint_moment; inode = inode_of later o row row.checkpoint_moment }) (λ p. same_read held later o p checkpoint) (ap (λ (i : Inode). record { object = o; moment = row.checkpoint_moment; inode = i }) (same_inode held later o row.checkpoint_moment row journal checkpoint)) r.checkpoint;
      sides = all_weaker (IsSide held o row) (IsSide later o row) row.sides (same_side held later o row journal checkpoint) r.sides;
      ascending = r.ascending;
      only = λ p there. ap (λ (v : BlockView). is_one_of (places_named v row.checkpoint ++ side_places v row.sides) p) checkpoint ∙ r.only p (subst (λ (v : BlockView). IsSome (v p)) checkpoint there);
      created = subst (λ (i : Inode). i.created ≡ row.created) (sym first) r.created;
    }
