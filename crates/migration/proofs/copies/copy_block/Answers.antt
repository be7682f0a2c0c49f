use Rattle.std.proofs.Common.{◌+◌, List, refl, subst, sym, ◌∙◌}
use Rattle.std.proofs.lemmas.Bool.{eq-eqb}
use Rattle.migration.specs.declared.moves.Move.{Move}
use Rattle.migration.specs.private.Copying.{Copying}
use Rattle.migration.proofs.Appending.{data_block, one_copied}
use Rattle.migration.proofs.copies.copy_block.Goals as goal

pub returns-clause-copying : goal.returns-clause-copying
returns-clause-copying g c places rest count before copying =
    let log = g.B.Blocks.log in
    let used = g.U.UsedBlocks.used c.args.used.now in
    let o = c.args.object in
    let now = log c.args.table.now in
    let after = log c.append.new.self in
    let bytes = c.in-Some.bytes in
    let puts = g.met.B.Blocks.an_append_puts_one_block now after (data_block o bytes) c.in-Ok.to c.in-Ok.ensures.appended c.in-Ok.ensures.fresh in
    let takes = g.met.B.Blocks.an_append_takes_one_place now after (data_block o bytes) c.in-Ok.to c.in-Ok.ensures.appended in
    let more = one_copied g.met.B.Blocks.one_place_has_one_name g.met.B.Blocks.places_taken_add_up used o places rest count before now after c.args.place c.in-Ok.to c.args.moves.now.items bytes puts takes (eq-eqb o o refl) (sym c.bytes_at.ensures ∙ c.in-Some.is) copying in
    subst (λ (moves : List Move). Copying used o places rest (count + 1) before after moves) (sym c.in_ok-push.ensures.items) more
