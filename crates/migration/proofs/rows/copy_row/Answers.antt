use Rattle.std.proofs.Common.{◌≡◌, ◌≤◌, ◌<◌, ◌+◌, ◌-◌, ℕ, [], List, Option, None, option_map, length, drop, refl, subst, sym, ap, ◌∙◌, arith}
use Rattle.std.specs.Prelude.{option_copied}
use Rattle.std.specs.List.{AllByRecursion}
use Rattle.std.proofs.lemmas.List.{append-nil, length-drop}
use Rattle.s4_types.specs.Pointer.{Place}
use Rattle.block_log.specs.Growth.{OthersStay}
use Rattle.block_log.specs.Log.{Log, Stored, of_kind}
use Rattle.block_log.specs.declared.kinds.BlockKind.TheVariants.{Checkpoint, Data, Journal, Pointers}
use Rattle.checkpoint.specs.Held.{begun_by, of_checkpoints, or_others}
use Rattle.codec.specs.declared.inodes.Inode.{Inode}
use Rattle.codec.specs.Entry.{EntryFields}
use Rattle.object_map.specs.declared.map.Row.{Row}
use Rattle.object_map.specs.Rows.{fresh_row}
use Rattle.time_read.specs.Rows.{IsRow}
use Rattle.row_changes.specs.Moving.{CanWrite, moved_blocks}
use Rattle.version_store.specs.Store.{HasNothing}
use Rattle.migration.specs.declared.moves.Move.{Move}
use Rattle.migration.specs.Moves.{moved_by}
use Rattle.migration.specs.Places.{data_places, data_pointers}
use Rattle.migration.specs.Copied.{CopiesBy, entries_then, kept_then}
use Rattle.migration.specs.private.Copying.{Copying, IsUsedData}
use Rattle.migration.proofs.Moving.{old_places, from_places, one_to_one}
use Rattle.migration.proofs.Mapping.{all_used, each_goes, same_blocks, sides_within}
use Rattle.migration.proofs.Written.{Wrote, copied_row}
use Rattle.migration.proofs.rows.copy_row.Goals as goal

-- where there is room for all there is for the data
enough : {n m total : ℕ} (rest : ℕ) → n ≡ m → m + rest ≤ total → n ≤ total
enough rest same room = omega (arith, same, room)

pub copy_data-requires-clause-room : goal.copy_data-requires-clause-room
copy_data-requires-clause-room g c =
    let kept = c.args.kept in
    let entries = c.args.entries.now in
    let are : c.as_slice.result.now ≡ data_places kept entries = c.as_slice.ensures.value ∙ c.in_ok-places.ensures.places ∙ ap (λ (k : Option Inode). data_places k entries) c.as_ref.ensures.value in
    enough (moved_blocks kept entries) (ap length are) c.requires.room

pub copy_data-requires-clause-used : goal.copy_data-requires-clause-used
copy_data-requires-clause-used g c =
    let used = g.U.UsedBlocks.used c.args.used.now in
    let entries = c.args.entries.now in
    let are : c.as_slice.result.now ≡ data_places c.args.kept entries = c.as_slice.ensures.value ∙ c.in_ok-places.ensures.places ∙ ap (λ (k : Option Inode). data_places k entries) c.as_ref.ensures.value in
    subst (λ (ps : List Place). AllByRecursion (IsUsedData used c.args.row.now.object) ps) (sym are) (all_used used c.args.row.now.object c.args.kept entries c.requires.can.led)

pub map_entries-requires-clause-one : goal.map_entries-requires-clause-one
map_entries-requires-clause-one g c = one_to_one g.met.B.Blocks.one_place_has_one_name c.in_ok-moves.moves.list.items c.in_ok-moves.ensures.copied.apart

pub map_entries-requires-clause-told : goal.map_entries-requires-clause-told
map_entries-requires-clause-told g c =
    let log = g.B.Blocks.log in
    let kept = c.args.kept in
    let entries = c.args.entries.now in
    let moves = c.in_ok-moves.moves.list.items in
    let ahead : List Place = (log c.args.table.now).ahead in
    let are : c.as_slice.result.now ≡ data_places kept entries = c.as_slice.ensures.value ∙ c.in_ok-places.ensures.places ∙ ap (λ (k : Option Inode). data_places k entries) c.as_ref.ensures.value in
    let fits : length c.as_slice.result.now ≤ length ahead = enough (moved_blocks kept entries) (ap length are) c.requires.room in
    let from : old_places moves ≡ data_places kept entries = ap old_places (sym (append-nil moves) ∙ c.in_ok-moves.ensures.copied.exact) ∙ from_places c.as_slice.result.now ahead fits ∙ are in
    sides_within (c.a_copied_object_keeps_its_history.ensures.moved moves).listed moves kept entries (each_goes moves (data_pointers kept entries) from)

-- an object of which nothing was held has no block of its journal and none of a checkpoint, once its data was copied
no_journal : (before held : Place → Option Stored) (o : ℕ) → HasNothing before o → OthersStay Data o before held → (p : Place) → of_kind Journal o held p ≡ None
no_journal before held o nothing others p = others Journal o p refl ∙ nothing Journal p

no_checkpoint : (before held : Place → Option Stored) (o : ℕ) → HasNothing before o → OthersStay Data o before held → (p : Place) → of_checkpoints o held p ≡ None
no_checkpoint before held o nothing others p =
    ap (λ (first : Option (List ℕ)). or_others (option_map (begun_by Checkpoint) first) (option_map (begun_by Pointers) (of_kind Pointers o held p))) (others Checkpoint o p refl ∙ nothing Checkpoint p)
    ∙ ap (λ (part : Option (List ℕ)). or_others None (option_map (begun_by Pointers) part)) (others Pointers o p refl ∙ nothing Pointers p)

pub write_row-requires-clause-row : goal.write_row-requires-clause-row
write_row-requires-clause-row g c =
    let o = c.args.row.now.object in
    let before : Log = g.B.Blocks.log c.args.table.now in
    let middle : Log = g.B.Blocks.log c.copy_data.new.table in
    let others = c.in_ok-moves.ensures.copied.others in
    subst (IsRow middle.held o) (sym c.fresh-fresh.ensures)
    (c.a_copied_object_keeps_its_history.ensures.fresh middle.held o c.args.row.now.created c.requires.object (no_journal before.held middle.held o c.requires.nothing others) (no_checkpoint before.held middle.held o c.requires.nothing others))

pub write_row-requires-clause-tell : goal.write_row-requires-clause-tell
write_row-requires-clause-tell g c =
    let row = c.args.row.now in
    let moves : List Move = c.in_ok-moves.moves.list.items in
    let kept : Option Inode = option_copied c.as_ref-2.result in
    let mapped : CanWrite row.object row.created row.checkpoint_moment (kept_then moves c.args.kept) (entries_then moves c.args.entries.now) =
    c.a_copied_object_keeps_its_history.ensures.written (moved_by moves) row.object row.created row.checkpoint_moment c.args.kept c.args.entries.now c.requires.can.write in
    let with_entries : CanWrite row.object row.created row.checkpoint_moment (kept_then moves c.args.kept) c.map_entries.new.entries =
    subst (CanWrite row.object row.created row.checkpoint_moment (kept_then moves c.args.kept)) (sym c.map_entries.ensures) mapped in
    let with_kept : CanWrite row.object row.created row.checkpoint_moment kept c.map_entries.new.entries =
    subst (λ (k : Option Inode). CanWrite row.object row.created row.checkpoint_moment k c.map_entries.new.entries) (sym (c.as_ref-2.ensures.value ∙ c.map_kept-kept.ensures)) with_entries in
    subst (λ (r : Row). CanWrite row.object r.created row.checkpoint_moment kept c.map_entries.new.entries) (sym c.fresh-fresh.ensures) with_kept

pub returns-clause-copied : goal.returns-clause-copied
returns-clause-copied g c =
    let log = g.B.Blocks.log in
    let used = g.U.UsedBlocks.used c.args.used.now in
    let row = c.args.row.now in
    let o = row.object in
    let kept = c.args.kept in
    let entries = c.args.entries.now in
    let before : Log = log c.args.table.now in
    let middle : Log = log c.copy_data.new.table in
    let after : Log = log c.write_row.new.table in
    let later : Row = c.in-Ok.later in
    let moves : List Move = c.in_ok-moves.moves.list.items in
    let are : c.as_slice.result.now ≡ data_places kept entries = c.as_slice.ensures.value ∙ c.in_ok-places.ensures.places ∙ ap (λ (k : Option Inode). data_places k entries) c.as_ref.ensures.value in
    let fits : length c.as_slice.result.now ≤ length before.ahead = enough (moved_blocks kept entries) (ap length are) c.requires.room in
    let copying : Copying used o (data_places kept entries) [] (length (data_places kept entries)) before middle moves = subst (λ (ps : List Place). Copying used o ps [] (length ps) before middle moves) are c.in_ok-moves.ensures.copied in
    let laws = c.a_copied_object_keeps_its_history.ensures.moved moves in
    let raw : Wrote o c.fresh-fresh.result row.checkpoint_moment (option_copied c.as_ref-2.result) c.map_entries.new.entries middle after later = record {
      row = c.in-Ok.ensures.row;
      journal = c.in-Ok.ensures.entries;
      checkpoint = c.in-Ok.ensures.checkpoint;
      inode = c.in-Ok.ensures.inode;
      orderly = c.in-Ok.ensures.orderly;
      fields = c.in-Ok.ensures.fields;
      some = c.in-Ok.ensures.some;
      others = c.write_row.ensures.others;
      takes = c.in-Ok.ensures.takes;
      order = c.in-Ok.ensures.order;
    } in
    let started : Wrote o (fresh_row row.created) row.checkpoint_moment (option_copied c.as_ref-2.result) c.map_entries.new.entries middle after later =
    subst (λ (s : Row). Wrote o s row.checkpoint_moment (option_copied c.as_ref-2.result) c.map_entries.new.entries middle after later) c.fresh-fresh.ensures raw in
    let with_entries : Wrote o (fresh_row row.created) row.checkpoint_moment (option_copied c.as_ref-2.result) (entries_then moves entries) middle after later =
    subst (λ (es : List EntryFields). Wrote o (fresh_row row.created) row.checkpoint_moment (option_copied c.as_ref-2.result) es middle after later) c.map_entries.ensures started in
    let wrote : Wrote o (fresh_row row.created) row.checkpoint_moment (kept_then moves kept) (entries_then moves entries) middle after later =
    subst (λ (k : Option Inode). Wrote o (fresh_row row.created) row.checkpoint_moment k (entries_then moves entries) middle after later) (c.as_ref-2.ensures.value ∙ c.map_kept-kept.ensures) with_entries in
    let copied : CopiesBy used row kept entries moves before after later = copied_row moves laws used row kept entries before middle after later c.requires.can c.requires.nothing (subst (λ (ps : List Place). length ps ≤ length before.ahead) are fits) copying wrote in
    subst (λ (ms : List Move). CopiesBy used row kept entries ms before after later) (sym (append-nil moves) ∙ copying.exact) copied

-- there is room for the checkpoint and the journal after the data
no_less : (before middle : List Place) (n m blocks rest : ℕ) → middle ≡ drop n before → n ≡ m → blocks ≡ rest → m + rest ≤ length before → length middle < blocks → ⊥
no_less before middle n m blocks rest left same as_many room short =
    let count : length middle ≡ length before - n = ap length left ∙ length-drop n before in
    omega (arith, count, same, as_many, room, short)

pub unreachable-requires : goal.unreachable-requires
unreachable-requires g c =
    let log = g.B.Blocks.log in
    let kept = c.args.kept in
    let entries = c.args.entries.now in
    let moves : List Move = c.in_ok-moves.moves.list.items in
    let are : c.as_slice.result.now ≡ data_places kept entries = c.as_slice.ensures.value ∙ c.in_ok-places.ensures.places ∙ ap (λ (k : Option Inode). data_places k entries) c.as_ref.ensures.value in
    let laws = c.a_copied_object_keeps_its_history.ensures.moved moves in
    let as_many : moved_blocks (option_copied c.as_ref-2.result) c.map_entries.new.entries ≡ moved_blocks kept entries =
    ap (λ (k : Option Inode). moved_blocks k c.map_entries.new.entries) (c.as_ref-2.ensures.value ∙ c.map_kept-kept.ensures)
    ∙ ap (λ (es : List EntryFields). moved_blocks (kept_then moves kept) es) c.map_entries.ensures
    ∙ same_blocks laws.holes (moved_by moves) laws.each kept entries in
    no_less (log c.args.table.now).ahead (log c.copy_data.new.table).ahead (length c.as_slice.result.now) (length (data_places kept entries)) (moved_blocks (option_copied c.as_ref-2.result) c.map_entries.new.entries) (moved_blocks kept entries)
    c.in_ok-moves.ensures.copied.takes.ahead (ap length are) as_many c.requires.room c.in_default.ensures.answer.1
