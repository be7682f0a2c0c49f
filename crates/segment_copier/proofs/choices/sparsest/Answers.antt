use Rattle.std.proofs.Common.{subst}
use Rattle.segment_table.specs.Table.{Table}
use Rattle.segment_table.specs.Laws.{ListsAllHeld}
use Rattle.drive.specs.Fields.{DriveFields}
use Rattle.segment_copier.specs.private.Surveying.{GoesFirst, IsBestBelow}
use Rattle.segment_copier.proofs.Chosen.{lowest_object}
use Rattle.segment_copier.proofs.choices.sparsest.Goals as goal

pub returns-clause-object : goal.returns-clause-object
returns-clause-object g c =
    let t : Table = c.args.drive.now.store.table in
    let goes : GoesFirst t c.loop-frame.frame c.in-Some.survey = subst (IsBestBelow t c.loop-frame.frame) c.in-Some.is c.loop-frame.invariant.best in
    lowest_object c.what_is_listed_is_held.ensures t c.in-Some.survey.frame c.in-Some.survey.lowest (subst (λ (d : DriveFields). ListsAllHeld d.store.table) c.loop-frame.invariant.same c.listings.ensures)
    goes.lowest goes.sparse.sealed
