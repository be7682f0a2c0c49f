use Rattle.std.proofs.Common.{length, ap, ◌∙◌}
use Rattle.segment_table.specs.Room.{log_of}
use Rattle.earlier_images.specs.Used.{used_in}
use Rattle.migration.specs.Frames.{frames_needed, fresh_log}
use Rattle.migration.specs.Rows.{blocks_of_rows}
use Rattle.migration.proofs.Then.{as_many}
use Rattle.migration.proofs.writing.lay_out.Goals as goal

pub write_image-requires-clause-count : goal.write_image-requires-clause-count
write_image-requires-clause-count c =
    let v = c.version.result in
    let used = used_in c.frames.result.now in
    let rows = c.rows.result.now in
    let copied = c.in_ok-copied.copied in
    ap length c.as_slice.ensures.value
    ∙ as_many v used rows copied.rows.items (fresh_log (frames_needed c.args.frames (blocks_of_rows v used rows))) (log_of copied.table) c.in_ok-copied.ensures.copied
    ∙ ap length c.rows.ensures
