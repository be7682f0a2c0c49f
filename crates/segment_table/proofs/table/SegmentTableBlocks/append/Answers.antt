use Rattle.std.proofs.Common.{subst}
use Rattle.codec.specs.declared.summaries.BlockRole.{BlockRole}
use Rattle.segment_table.specs.Table.{Table}
use Rattle.segment_table.specs.Changes.{IsAppended}
use Rattle.segment_table.proofs.Appending.{append_made}
use Rattle.segment_table.proofs.table.SegmentTableBlocks.append.Goals as goal

pub returns-clause-exact : goal.returns-clause-exact
returns-clause-exact c =
    let role : BlockRole = record { kind = c.args.kind; object = c.args.object } in
    let A : Table → Type 0 = λ t. IsAppended c.put-place.result role c.args.block.now t c.seal_full.new.self in
    subst A c.self.view_is
    (append_made c.self.inside.segments c.ready_frame.new.self c.put-place.new.self c.seal_full.new.self c.in-Some.frame role c.args.block.now c.put-place.result
    c.in-Some.ensures.ready c.put-place.ensures.put c.put-place.ensures.filling c.put-place.ensures.place c.seal_full.ensures.role c.seal_full.ensures.full).0
