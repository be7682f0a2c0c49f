use Rattle.std.proofs.Common.{ℕ, sym, subst}
use Rattle.std.proofs.lemmas.Result.{err_from_is_err_and}
use Rattle.history_cleaner.proofs.Few.{leads}
use Rattle.history_cleaner.proofs.Passing.{HasPassed, HasStepped, begun, passed, stopped, all_cleaned, others_counted, lost_counted}
use Rattle.history_cleaner.proofs.passes.clean_all.Goals as goal

pub loop-next-init : goal.loop-next-init
loop-next-init g c = subst (λ (o : ℕ). HasPassed c.args.drive.now c.args.drive.now o 0 0) (sym c.new-object.ensures) (begun c.held_is_what_is_reached.ensures c.args.drive.now c.rules.ensures.store)

pub loop-next-preserved : goal.loop-next-preserved
loop-next-preserved g c =
    let step : HasStepped c.loop-next.drive c.clean_counted.new.drive c.in-Some.next c.loop-next.cleanings.rewritten c.loop-next.cleanings.removed c.clean_counted.new.cleanings.rewritten c.clean_counted.new.cleanings.removed = record {
      cleaned = c.in_ok-clean_counted.ensures.cleaned;
      others = c.clean_counted.ensures.others;
      rewritten = c.in_ok-clean_counted.ensures.rewritten;
      removed = c.in_ok-clean_counted.ensures.removed;
      store = c.rules-in-Some.ensures.store;
      ledger = c.clean_counted.ensures.ledger;
      needed = c.clean_counted.ensures.needed;
    } in
    passed (leads c.a_checkpoint_is_in_its_blocks.ensures.held c.a_checkpoint_is_in_its_blocks.ensures.first) c.held_is_what_is_reached.ensures c.args.drive.now c.loop-next.drive c.clean_counted.new.drive c.loop-next.object c.in-Some.next c.loop-next.cleanings.rewritten c.loop-next.cleanings.removed
    c.clean_counted.new.cleanings.rewritten c.clean_counted.new.cleanings.removed c.rules.ensures.store c.loop-next.invariant c.in-Some.ensures.some c.clean_counted.ensures.places step

pub returns-in_err-clean_counted-clause-refusal : goal.returns-in_err-clean_counted-clause-refusal
returns-in_err-clean_counted-clause-refusal g c =
    let p = err_from_is_err_and c.from_residual.result c.from_residual.ensures.1 in
    rw (p.1, p.2) (stopped c.held_is_what_is_reached.ensures c.args.drive.now c.loop-next.drive c.clean_counted.new.drive c.loop-next.object c.in-Some.next c.loop-next.cleanings.rewritten c.loop-next.cleanings.removed
    _ c.loop-next.invariant c.in-Some.ensures.some c.in_err-clean_counted.ensures.unchanged c.in_err-clean_counted.ensures.refusal)

pub returns-clause-cleaned : goal.returns-clause-cleaned
returns-clause-cleaned g c = all_cleaned c.held_is_what_is_reached.ensures c.args.drive.now c.loop-next.drive c.loop-next.object c.loop-next.cleanings.rewritten c.loop-next.cleanings.removed c.loop-next.invariant c.in_default.ensures.none

pub returns-clause-rewritten : goal.returns-clause-rewritten
returns-clause-rewritten g c = others_counted c.args.drive.now c.loop-next.drive c.loop-next.object c.loop-next.cleanings.rewritten c.loop-next.cleanings.removed c.loop-next.invariant c.in_default.ensures.none

pub returns-clause-removed : goal.returns-clause-removed
returns-clause-removed g c = lost_counted c.args.drive.now c.loop-next.drive c.loop-next.object c.loop-next.cleanings.rewritten c.loop-next.cleanings.removed c.loop-next.invariant c.in_default.ensures.none
