use Rattle.std.proofs.Common.{◌∙◌, ◌+◌, refl, arith}
use Rattle.image_salvage.proofs.RowByRow.{none_yet, given_on, all_given}
use Rattle.image_salvage.proofs.giving.give_rows.Goals as goal

pub loop-index-init : goal.loop-index-init
loop-index-init g c = record {
  given = none_yet c.args.image.now c.none_given-given.result (g.F.Folder.files c.args.folder.now) c.none_given-given.ensures;
  path = refl;
}

pub loop-index-preserved : goal.loop-index-preserved
loop-index-preserved g c =
    let files = g.F.Folder.files in
    record {
      given = given_on c.args.image.now c.loop-index.index (c.loop-index.index + 1) c.in_ok-row.row c.loop-index.given c.give_row.new.given (files c.args.folder.now) (files c.loop-index.folder) (files c.give_row.new.folder)
          (omega arith) (omega arith) c.loop-index.invariant.given c.in_ok-row.ensures.salvaged c.in_ok-give_row.ensures.given c.in_ok-give_row.ensures.files;
      path = c.give_row.ensures.path ∙ c.loop-index.invariant.path;
    }

pub returns-clause-gives : goal.returns-clause-gives
returns-clause-gives g c = all_given c.args.image.now c.loop-index.index c.loop-index.given (g.F.Folder.files c.args.folder.now) (g.F.Folder.files c.loop-index.folder) (omega arith) c.loop-index.invariant.given
