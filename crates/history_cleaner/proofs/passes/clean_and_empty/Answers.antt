use Rattle.std.proofs.Common.{sym, subst}
use Rattle.std.proofs.lemmas.Result.{err_from_is_err_and}
use Rattle.segment_table.specs.Rules.{HasFramesInOrder}
use Rattle.drive.specs.Fields.{state_in, store_of}
use Rattle.history_cleaner.proofs.Passing.{all_kept, stopped_at_reader}
use Rattle.history_cleaner.proofs.passes.clean_and_empty.Goals as goal

pub returns-in_err-vacate-clause-refusal : goal.returns-in_err-vacate-clause-refusal
returns-in_err-vacate-clause-refusal g c =
    let p = err_from_is_err_and c.from_residual-in_err-vacate.result c.from_residual-in_err-vacate.ensures.1 in
    let frames : HasFramesInOrder c.args.drive.now.store.table.seat.table c.clean_all.new.drive.store.table =
    subst (λ w. HasFramesInOrder w c.clean_all.new.drive.store.table) (sym c.rules.ensures.frames.table) c.rules-2.ensures.frames in
    rw (p.1, p.2) (stopped_at_reader c.args.drive.now c.clean_all.new.drive c.vacate.new.drive _ c.in_ok-cleanings.ensures.cleaned c.clean_all.ensures.ledger c.clean_all.ensures.needed frames c.vacate.ensures.objects c.in_err-vacate.ensures.refusal)

pub returns-clause-cleaned : goal.returns-clause-cleaned
returns-clause-cleaned g c = all_kept (store_of c.args.drive.now) (store_of c.clean_all.new.drive) (store_of c.vacate.new.drive) (state_in c.args.drive.now) c.in_ok-cleanings.ensures.cleaned c.vacate.ensures.objects
