use Rattle.checkpoint.proofs.OwnBlocks.{same_checkpoints}
use Rattle.version_store.specs.private.Relocating.{Moved}
use Rattle.version_store.proofs.Relocated.{moved_over, relocates}
use Rattle.version_store.proofs.RelocatedBlocks.{Dropped, same_blocks}
use Rattle.version_store.proofs.Spending.{sum_stays}
use Rattle.version_store.specs.Store.{IsLed, pointers_named, pointers_of}
use Rattle.version_store.specs.private.Names.{places_copied}
use Rattle.version_store.specs.private.Recounting.{Recounts}
use Rattle.version_store.proofs.Named.{all_or_nothing}
use Rattle.version_store.proofs.Renamings.{Copied, all_still, copied_led, counted_held, last_held, moved_led, moves_led, names_move, renamed_led, renaming_room}
use Rattle.std.proofs.Common.{List, Option, ◌≡◌, ◌+◌, ◌++◌, ◌<◌, ◌≤◌, ◌^◌, length, map, option_map, option_copied, refl, sym, subst, ap, ◌∙◌, arith}
use Rattle.block_log.specs.Taken.{TakesPlaces}
use Rattle.block_log.specs.declared.kinds.BlockKind.TheVariants.{Journal, Checkpoint, Pointers}
use Rattle.codec.specs.Entry.{EntryFields}
use Rattle.codec.specs.declared.inodes.Inode.{Inode}
use Rattle.chain_rewriting.specs.CleaningLaws.{TellsWithin}
use Rattle.chain_rewriting.specs.Renaming.{renamed_entries, renamed_inode, renamed_slot}
use Rattle.chain_rewriting.specs.Apart.{IsNotNew}
use Rattle.row_changes.specs.Moving.{CanTell, moved_blocks, row_blocks}
use Rattle.std.specs.List.{All, AllByRecursion}
use Rattle.s4_types.specs.Pointer.{Place}
use Rattle.block_log.specs.Log.{Stored}
use Rattle.time_read.specs.Rows.{IsRow, entries_of, checkpoint_of}
use Rattle.version_store.proofs.RenamedJournal.{RenamingStands, kept_renamed, told_apart, can_tell}
use Rattle.version_store.proofs.relocated_blocks.relocate_blocks.Given.{Over}
use Rattle.version_store.proofs.relocated_blocks.relocate_blocks.Goals.{After-what_relocations_rest_on, After-append_copies-renaming, After-count_renaming, After-as_ref-checkpoint, After-as_slice}
use Rattle.version_store.proofs.relocated_blocks.relocate_blocks.Goals as goal

-- the laws of a renamed journal
laws : (g : Over) (c : After-what_relocations_rest_on g) → RenamingStands
laws g c = record {
  blank = c.what_relocations_rest_on.ensures.blank;
  undo = c.what_relocations_rest_on.ensures.undo_all;
  redo = c.what_relocations_rest_on.ensures.redo_all;
  by = c.what_relocations_rest_on.ensures.by;
  shown = c.what_relocations_rest_on.ensures.shown;
  run = c.what_relocations_rest_on.ensures.run;
  groups = c.what_relocations_rest_on.ensures.groups;
  bytes = c.what_relocations_rest_on.ensures.all;
  rules = c.what_relocations_rest_on.ensures.rules;
  end = c.what_relocations_rest_on.ensures.end;
}

-- the table has the copies
copied : (g : Over) (c : After-append_copies-renaming g) → Copied (g.B.Blocks.log c.args.table.now) (g.B.Blocks.log c.append_copies-renaming.new.table) c.args.object c.args.row.now c.args.copies.now c.append_copies-renaming.result
copied g c = record {
  one = g.met.B.Blocks.one_place_has_one_name;
  are = c.requires.copies;
  appended = c.append_copies-renaming.ensures.appending;
  names = c.names.ensures;
  stands = c.requires.row;
  led = c.requires.led;
  counted = c.requires.counted;
}

-- what has gained a name, and what has lost one
counts : (g : Over) (c : After-count_renaming g) → Recounts c.args.object (g.B.Blocks.log c.append_copies-renaming.new.table)
    (places_copied c.args.copies.now ++ map (renamed_slot c.append_copies-renaming.result) (pointers_of (g.B.Blocks.log c.args.table.now).held c.args.object c.args.row.now))
    (pointers_named (g.B.Blocks.log c.args.table.now).held c.args.object c.args.row.now ++ c.append_copies-renaming.result.moves) (g.B.Blocks.log c.count_renaming.new.table)
counts g c =
    let between = g.B.Blocks.log c.append_copies-renaming.new.table in
    let counted = g.B.Blocks.log c.count_renaming.new.table in
    let o = c.args.object in
    let copies = places_copied c.args.copies.now in
    let r = c.append_copies-renaming.result in
    subst (λ (xs : List (Option Place)). Recounts o between (copies ++ map (renamed_slot r) xs) (pointers_named (g.B.Blocks.log c.args.table.now).held o c.args.row.now ++ r.moves) counted) c.requires.pointers
    (subst (λ (xs : List (Option Place)). Recounts o between (copies ++ map (renamed_slot r) c.args.led.now) (xs ++ r.moves) counted) c.requires.names c.count_renaming.ensures)

-- the checkpoint and the entries are renamed
kept : (g : Over) (c : After-as_ref-checkpoint g) → option_copied c.as_ref-checkpoint.result ≡ kept_renamed c.append_copies-renaming.result (checkpoint_of (g.B.Blocks.log c.args.table.now).held c.args.object c.args.row.now)
kept g c = c.as_ref-checkpoint.ensures.value ∙ c.rename.ensures.checkpoint ∙ ap (option_map (renamed_inode c.append_copies-renaming.result)) c.requires.journal.inode

renamed : (g : Over) (c : After-as_slice g) → c.as_slice.result.now ≡ renamed_entries c.append_copies-renaming.result (entries_of (g.B.Blocks.log c.args.table.now).held c.args.object c.args.row.now)
renamed g c = c.as_slice.ensures.value ∙ c.rename.ensures.entries ∙ ap (renamed_entries c.append_copies-renaming.result) c.requires.journal.entries

pub rename-requires-clause-apart : goal.rename-requires-clause-apart
rename-requires-clause-apart g c =
    let held = (g.B.Blocks.log c.args.table.now).held in
    let r = c.append_copies-renaming.result in
    let a = c.append_copies-renaming.ensures.appending in
    let apart = told_apart c.what_relocations_rest_on.ensures.listed c.what_relocations_rest_on.ensures.test held c.args.object c.args.row.now r a.distinct a.fresh c.requires.led in
    subst (λ (es : List EntryFields). AllByRecursion (TellsWithin (IsNotNew r)) es) (sym c.requires.journal.entries) apart.told.sides

pub move_blocks-row-requires-clause-row : goal.move_blocks-row-requires-clause-row
move_blocks-row-requires-clause-row g c =
    let at = goal.at.move_blocks-row-requires-clause-row g c in
    let before = g.B.Blocks.log c.args.table.now in
    let between = g.B.Blocks.log c.append_copies-renaming.new.table in
    let o = c.args.object in
    let row = c.args.row.now in
    let a = c.append_copies-renaming.ensures.appending in
    let held = counted_held before between o row c.args.copies.now c.append_copies-renaming.result (copied g at.After-append_copies-renaming) (g.B.Blocks.log c.count_renaming.new.table) (counts g at.After-count_renaming) in
    subst (λ (view : Place → Option Stored). IsRow view o row) (sym held)
    (c.what_relocations_rest_on.ensures.row before.held between.held o row (a.others Journal o refl) (same_checkpoints o before.held between.held (a.others Checkpoint o refl) (a.others Pointers o refl)) c.requires.row)

pub move_blocks-row-requires-clause-tell : goal.move_blocks-row-requires-clause-tell
move_blocks-row-requires-clause-tell g c =
    let at = goal.at.move_blocks-row-requires-clause-tell g c in
    let held = (g.B.Blocks.log c.args.table.now).held in
    let o = c.args.object in
    let row = c.args.row.now in
    let r = c.append_copies-renaming.result in
    subst (λ (i : Option Inode). CanTell o row i c.as_slice.result.now) (sym (kept g at.After-as_ref-checkpoint))
    (subst (λ (es : List EntryFields). CanTell o row (kept_renamed r (checkpoint_of held o row)) es) (sym (renamed g at.After-as_slice)) (can_tell (laws g at.After-what_relocations_rest_on) held o row r c.requires.row c.requires.journal.rules))

pub returns-clause-moved : goal.returns-clause-moved
returns-clause-moved g c =
    let at = goal.at.returns-clause-moved g c in
    let before = g.B.Blocks.log c.args.table.now in
    let between = g.B.Blocks.log c.append_copies-renaming.new.table in
    let moved = g.B.Blocks.log c.move_blocks-row.new.table in
    let later = g.B.Blocks.log c.drop_copied.new.table in
    let counted = g.B.Blocks.log c.count_renaming.new.table in
    let o = c.args.object in
    let row = c.args.row.now in
    let next = c.move_blocks-row.result in
    let copies = c.args.copies.now in
    let r = c.append_copies-renaming.result in
    let copying = copied g at.After-append_copies-renaming in
    let counting = counts g at.After-count_renaming in
    let held = counted_held before between o row copies r copying counted counting in
    let inode = kept_renamed r (checkpoint_of before.held o row) in
    let entries = renamed_entries r (entries_of before.held o row) in
    let n : Moved counted moved o row next inode entries =
    subst (λ (es : List EntryFields). Moved counted moved o row next inode es) (renamed g at.After-as_slice) (subst (λ (i : Option Inode). Moved counted moved o row next i c.as_slice.result.now) (kept g at.After-as_ref-checkpoint) c.move_blocks-row.ensures.moved) in
    let m : Moved between moved o row next inode entries = moved_over g.met.B.Blocks.places_taken_add_up between counted moved o row next inode entries held counting.takes n in
    let d : Dropped before between moved later o copies r = record {
      one = copying.one;
      are = copying.are;
      appended = copying.appended;
      metadata = m.metadata;
      dropped = last_held before between o row copies r copying counted counting moved c.move_blocks-row.ensures.moved.metadata c.move_blocks-row.ensures.named c.names-2.ensures later c.drop_copied.ensures;
    } in
    relocates (laws g at.After-what_relocations_rest_on) c.what_relocations_rest_on.ensures.order c.what_relocations_rest_on.ensures.each c.what_relocations_rest_on.ensures.holes c.what_relocations_rest_on.ensures.row c.what_relocations_rest_on.ensures.inode c.what_relocations_rest_on.ensures.orderly.blocks g.met.B.Blocks.places_taken_add_up
    before between moved later o row next copies r c.requires.row m d c.drop_copied.ensures.takes

pub count_renaming-requires : goal.count_renaming-requires
count_renaming-requires g c =
    let before = g.B.Blocks.log c.args.table.now in
    let between = g.B.Blocks.log c.append_copies-renaming.new.table in
    let o = c.args.object in
    let row = c.args.row.now in
    let copies = c.args.copies.now in
    let r = c.append_copies-renaming.result in
    let copying = copied g (goal.at.count_renaming-requires g c).After-append_copies-renaming in
    record {
      names = subst (All (IsLed between.held o)) (sym c.requires.names) (all_still before between o row copies r copying);
      copied = copied_led before between o row copies r copying;
      new = moves_led before between o row copies r copying;
      renamed = subst (λ (xs : List (Option Place)). All (IsLed between.held o) (map (renamed_slot r) xs)) (sym c.requires.pointers) (renamed_led before between o row copies r copying);
      room = subst (λ (xs : List (Option Place)). (p : Place) → between.named p + (length copies + length xs) < 2 ^ 32) (sym c.requires.pointers)
          (λ p. let few = renaming_room before between o row copies r copying c.requires.few_names c.requires.few p in omega (arith, few));
    }

pub drop_copied-requires : goal.drop_copied-requires
drop_copied-requires g c =
    let at = goal.at.drop_copied-requires g c in
    let moved = g.B.Blocks.log c.move_blocks-row.new.table in
    all_or_nothing c.args.object moved.held (places_copied c.args.copies.now) (moved_led (g.B.Blocks.log c.args.table.now) (g.B.Blocks.log c.append_copies-renaming.new.table) c.args.object c.args.row.now c.args.copies.now c.append_copies-renaming.result
    (copied g at.After-append_copies-renaming) (g.B.Blocks.log c.count_renaming.new.table) (counts g at.After-count_renaming) moved c.move_blocks-row.ensures.moved.metadata c.move_blocks-row.ensures.named c.names-2.ensures)

pub returns-clause-named : goal.returns-clause-named
returns-clause-named g c =
    let at = goal.at.returns-clause-named g c in
    names_move (g.B.Blocks.log c.args.table.now) (g.B.Blocks.log c.append_copies-renaming.new.table) c.args.object c.args.row.now c.args.copies.now c.append_copies-renaming.result
    (copied g at.After-append_copies-renaming) (g.B.Blocks.log c.count_renaming.new.table) (counts g at.After-count_renaming) (g.B.Blocks.log c.move_blocks-row.new.table) c.move_blocks-row.ensures.moved.metadata c.move_blocks-row.ensures.named c.names-2.ensures (g.B.Blocks.log c.drop_copied.new.table) c.drop_copied.ensures c.names-3.ensures

-- there is room, so the checkpoint and the journal are written
pub move_blocks-row-requires-clause-room : goal.move_blocks-row-requires-clause-room
move_blocks-row-requires-clause-room g c =
    let at = goal.at.move_blocks-row-requires-clause-room g c in
    let before = g.B.Blocks.log c.args.table.now in
    let between = g.B.Blocks.log c.append_copies-renaming.new.table in
    let o = c.args.object in
    let row = c.args.row.now in
    let r = c.append_copies-renaming.result in
    let count = length c.args.copies.now in
    let n = moved_blocks (option_copied c.as_ref-checkpoint.result) c.as_slice.result.now in
    let same : n ≡ row_blocks before.held o row =
    ap (λ (i : Option Inode). moved_blocks i c.as_slice.result.now) (kept g at.After-as_ref-checkpoint) ∙ ap (moved_blocks (kept_renamed r (checkpoint_of before.held o row))) (renamed g at.After-as_slice)
    ∙ same_blocks c.what_relocations_rest_on.ensures.each c.what_relocations_rest_on.ensures.holes r (checkpoint_of before.held o row) (entries_of before.held o row) in
    let takes : TakesPlaces count before between = c.append_copies-renaming.ensures.appending.takes in
    let room : count + row_blocks before.held o row ≤ length before.ahead = c.requires.room in
    let sum = sum_stays count before between takes (omega (arith, room)) in
    let spent : between.spent ≡ count + before.spent = takes.spent in
    let ahead : length (g.B.Blocks.log c.count_renaming.new.table).ahead ≡ length between.ahead = ap length c.count_renaming.ensures.takes.ahead in
    omega (arith, same, room, sum, spent, ahead)
