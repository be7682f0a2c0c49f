-- An object's blocks were relocated in a table: what its row tells then, and where its blocks are.
use Rattle.std.proofs.Common.{◌≡◌, ℕ, List, [], ◌∷◌, length, take, Option, Some, None, IsSome, MatchOption, refl, sym, ap, subst, ◌∙◌, ◌+◌, arith}
use Rattle.std.specs.List.{Contains}
use Rattle.s4_types.specs.Pointer.{Place}
use Rattle.block_log.specs.Log.{Log, Stored, of_kind}
use Rattle.block_log.specs.Taken.{TakesPlaces}
use Rattle.block_log.specs.declared.kinds.BlockKind.TheVariants.{Journal, Checkpoint, Pointers}
use Rattle.checkpoint.specs.Held.{of_checkpoints}
use Rattle.codec.specs.Entry.{EntryFields, entries_length}
use Rattle.codec.specs.declared.inodes.Inode.{Inode}
use Rattle.checkpoint.proofs.OwnBlocks.{same_checkpoints}
use Rattle.object_map.specs.declared.map.Row.{Row}
use Rattle.block_log.proofs.Taking.{among_later}
use Rattle.time_read.specs.Rows.{IsRow, entries_of, checkpoint_of, first_of}
use Rattle.time_read.specs.Orderly.{IsFromTo, IsOrderly, IsOrderlyChain, BeginsDead}
use Rattle.time_read.proofs.Staying.{same_entries}
use Rattle.row_changes.specs.Rewritten.{OnlyMetadataChanged}
use Rattle.row_changes.specs.Moving.{first_with, moved_blocks, row_blocks}
use Rattle.chain_rewriting.specs.Renaming.{RenamingFields, renamed_entries}
use Rattle.chain_rewriting.specs.RenamingLaws.{RenamedEntriesStayInOrder, RenamedEntriesTakeAsManyBytes}
use Rattle.row_changes.proofs.Pushing.{same_checkpoint}
use Rattle.version_store.specs.declared.copies.CopiedBlock.{CopiedBlock}
use Rattle.version_store.specs.private.Below.{RowStays, RowInodeStays, PlacesAddUp, HolesTellBlocks}
use Rattle.version_store.specs.private.Relocating.{Moved, Relocates}
use Rattle.version_store.proofs.RenamedJournal.{RenamingStands, kept_renamed, first_renamed, shown_renamed, checkpoint_renamed}
use Rattle.version_store.proofs.RelocatedBlocks.{Dropped, moved_are, from_copy, copied_is, stayed_is, old_or_new, gone_is, only_data, others_are, same_blocks, takes_all}

-- rows in order rest on their own blocks
abbrev pub OrderRestsOnBlocks : Type 0
OrderRestsOnBlocks = (held later : Place → Option Stored) (o latest : ℕ) (row : Row) → of_kind Journal o later ≡ of_kind Journal o held → of_checkpoints o later ≡ of_checkpoints o held → IsOrderly held o row latest → IsOrderly later o row latest

begins_renamed : (r : RenamingFields) (entries : List EntryFields) → BeginsDead entries → BeginsDead (renamed_entries r entries)
begins_renamed r [] dead = dead
begins_renamed r (e ∷ entries) dead = dead

match_renamed : (r : RenamingFields) (entries : List EntryFields) (place : Option Place) (A : Type 0) → MatchOption place (BeginsDead entries) (λ p. A) → MatchOption place (BeginsDead (renamed_entries r entries)) (λ p. A)
match_renamed r entries None A h = begins_renamed r entries h
match_renamed r entries (Some p) A h = h

-- the renamed journal is in order where the old one was
order_renamed : RenamingStands → RenamedEntriesStayInOrder → (held : Place → Option Stored) (o latest : ℕ) (row : Row) (r : RenamingFields) → IsOrderlyChain row.created latest (first_of held o row) (entries_of held o row)
    → IsOrderlyChain row.created latest (first_with o row (kept_renamed r (checkpoint_of held o row)) (renamed_entries r (entries_of held o row))) (renamed_entries r (entries_of held o row))
order_renamed laws order held o latest row r chain =
    subst (λ (i : Inode). IsOrderlyChain row.created latest i (renamed_entries r (entries_of held o row))) (sym (first_renamed laws.blank laws.undo laws.by held o row r)) (order r row.created latest (first_of held o row) (entries_of held o row) chain)

pub relocates : RenamingStands → RenamedEntriesStayInOrder → RenamedEntriesTakeAsManyBytes → HolesTellBlocks → RowStays → RowInodeStays → OrderRestsOnBlocks → PlacesAddUp
    → (before between moved later : Log) (o : ℕ) (row next : Row) (copies : List CopiedBlock) (r : RenamingFields) → IsRow before.held o row
    → Moved between moved o row next (kept_renamed r (checkpoint_of before.held o row)) (renamed_entries r (entries_of before.held o row))
    → Dropped before between moved later o copies r → TakesPlaces 0 moved later → Relocates before o row copies next later r
relocates laws order lengths holes row_stays inode_stays order_stays add_up before between moved later o row next copies r stands m d dropped =
    let entries : List EntryFields = entries_of before.held o row in
    let count : ℕ = length copies in
    let blocks : ℕ = row_blocks before.held o row in
    let journal : of_kind Journal o later.held ≡ of_kind Journal o moved.held = only_data before between moved later o copies r d Journal o refl in
    let checkpoints : of_checkpoints o later.held ≡ of_checkpoints o moved.held = same_checkpoints o moved.held later.held (only_data before between moved later o copies r d Checkpoint o refl) (only_data before between moved later o copies r d Pointers o refl) in
    let same : moved_blocks (kept_renamed r (checkpoint_of before.held o row)) (renamed_entries r entries) ≡ blocks = same_blocks lengths holes r (checkpoint_of before.held o row) entries in
    let bytes : entries_length (renamed_entries r entries) ≡ row.journal_bytes = laws.bytes r entries ∙ sym stands.chain.bytes in
    record {
      exact = d.appended.exact;
      stands = row_stays moved.held later.held o next journal checkpoints m.stands;
      journal = same_entries moved.held later.held o next journal ∙ m.journal;
      kept = same_checkpoint moved.held later.held o next.checkpoint checkpoints ∙ m.checkpoint ∙ checkpoint_renamed before.held o row r stands;
      inode = λ t. inode_stays moved.held later.held o t next journal checkpoints ∙ m.inode t ∙ shown_renamed laws.blank laws.undo laws.by laws.shown before.held o row r t;
      orderly = λ latest was. order_stays moved.held later.held o latest next journal checkpoints
          (m.orderly latest (order_renamed laws order before.held o latest row r was.chain) was.made (match_renamed r entries row.checkpoint (IsFromTo row.created latest row.checkpoint_moment) was.checkpoint));
      fields = m.fields ∙ ap (λ n. record { created = row.created; checkpoint = next.checkpoint; checkpoint_moment = row.checkpoint_moment; head = next.head; journal_bytes = n; head_bytes = next.head_bytes; sides = []; stamp = row.stamp }) bytes;
      moved = moved_are before between moved later o copies r d;
      copied = copied_is before between moved later o copies r d;
      gone = gone_is before between moved later o copies r d;
      stayed = stayed_is before between moved later o copies r d;
      blocks = old_or_new before between moved later o copies r d;
      from = from_copy before between moved later o copies r d;
      chains = λ p there. among_later count blocks before between p d.appended.takes
          (subst (λ n. Contains (take n between.ahead) p) same (m.chains p (subst (λ (v : Place → Option (List ℕ)). IsSome (v p)) journal there)));
      checkpoints = λ p there. among_later count blocks before between p d.appended.takes
          (subst (λ n. Contains (take n between.ahead) p) same (m.checkpoints p (subst (λ (v : Place → Option (List ℕ)). IsSome (v p)) checkpoints there)));
      others = others_are before between moved later o copies r d;
      takes = takes_all add_up count blocks before between moved later d.appended.takes (subst (λ n. TakesPlaces n between moved) same m.takes) dropped;
    }

-- what was written over counted names was written over what was held before
pub moved_over : PlacesAddUp → (between counted moved : Log) (o : ℕ) (row next : Row) (kept : Option Inode) (entries : List EntryFields) → counted.held ≡ between.held → TakesPlaces 0 between counted → Moved counted moved o row next kept entries → Moved between moved o row next kept entries
moved_over add_up between counted moved o row next kept entries held takes m = record {
  stands = m.stands;
  journal = m.journal;
  checkpoint = m.checkpoint;
  inode = m.inode;
  orderly = m.orderly;
  fields = m.fields;
  metadata = subst (λ (view : Place → Option Stored). OnlyMetadataChanged o view moved.held) held m.metadata;
  takes = subst (λ n. TakesPlaces n between moved) (let none : 0 + moved_blocks kept entries ≡ moved_blocks kept entries = omega arith in none) (add_up 0 (moved_blocks kept entries) between counted moved takes m.takes);
  chains = λ p there. subst (λ (places : List Place). Contains (take (moved_blocks kept entries) places) p) takes.ahead (m.chains p there);
  checkpoints = λ p there. subst (λ (places : List Place). Contains (take (moved_blocks kept entries) places) p) takes.ahead (m.checkpoints p there);
}
