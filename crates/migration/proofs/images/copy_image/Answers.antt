use Rattle.std.proofs.Common.{◌≡◌, ◌*◌, ◌≤◌, ℕ, length, sym, ap, subst, ◌∙◌}
use Rattle.block_log.proofs.Taking.{adds_up, none_taken}
use Rattle.block_log.specs.Log.{Log}
use Rattle.block_log.specs.Taken.{TakesPlaces}
use Rattle.segment_table.specs.Room.{log_of}
use Rattle.segment_table.specs.Table.{Table}
use Rattle.migration.specs.Frames.{frames_needed, fresh_log}
use Rattle.migration.specs.declared.counting.TheConstants.{MOST_COPIED}
use Rattle.migration.specs.Rows.{CopyRows, blocks_of_rows}
use Rattle.migration.proofs.Filled.{fills, has_room, length_new, counted as counted_is, takes_all}
use Rattle.migration.proofs.images.copy_image.Goals as goal

pub copy_objects-requires-clause-empty : goal.copy_objects-requires-clause-empty
copy_objects-requires-clause-empty g c p = ap (λ (l : Log). l.held p) c.in_ok-table.ensures.log

pub copy_objects-requires-clause-room : goal.copy_objects-requires-clause-room
copy_objects-requires-clause-room g c =
    let used = g.U.UsedBlocks.used c.args.used.now in
    let blocks : ℕ = blocks_of_rows c.args.version used c.args.rows.now in
    let counted : c.in-Some.blocks ≡ blocks = counted_is c.in_ok-blocks.field-0 c.in-Some.blocks blocks MOST_COPIED c.in-Some.is c.in_ok-blocks.ensures.blocks in
    let frames : c.frames_needed-frames.result ≡ frames_needed c.args.old blocks = c.frames_needed-frames.ensures.needed ∙ ap (frames_needed c.args.old) counted in
    let ahead : length (log_of c.in_ok-table.table).ahead ≡ 15 * frames_needed c.args.old blocks =
    ap (λ (l : Log). length l.ahead) c.in_ok-table.ensures.log ∙ length_new c.frames_needed-frames.result ∙ ap (λ n. 15 * n) frames in
    subst (λ n. blocks ≤ n) (sym ahead) (has_room c.args.old blocks)

pub returns-clause-frames : goal.returns-clause-frames
returns-clause-frames g c =
    let used = g.U.UsedBlocks.used c.args.used.now in
    let rows = c.args.rows.now in
    let blocks : ℕ = blocks_of_rows c.args.version used rows in
    let counted : c.in-Some.blocks ≡ blocks = counted_is c.in_ok-blocks.field-0 c.in-Some.blocks blocks MOST_COPIED c.in-Some.is c.in_ok-blocks.ensures.blocks in
    let frames : c.frames_needed-frames.result ≡ frames_needed c.args.old blocks = c.frames_needed-frames.ensures.needed ∙ ap (frames_needed c.args.old) counted in
    let start : log_of c.in_ok-table.table ≡ fresh_log (frames_needed c.args.old blocks) = c.in_ok-table.ensures.log ∙ ap fresh_log frames in
    let taken = takes_all adds_up none_taken c.args.version used rows c.in_ok-laters.laters.items (log_of c.in_ok-table.table) (log_of c.into_table-table.result)
    (subst (λ (t : Table). CopyRows c.args.version used rows c.in_ok-laters.laters.items (log_of c.in_ok-table.table) (log_of t)) (sym c.into_table-table.ensures.same) c.in_ok-laters.ensures.copied) in
    fills (frames_needed c.args.old blocks) blocks c.into_table-table.result (subst (λ (l : Log). TakesPlaces blocks l (log_of c.into_table-table.result)) start taken) (has_room c.args.old blocks) c.into_table-table.ensures.filled
