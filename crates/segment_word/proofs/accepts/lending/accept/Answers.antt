use Rattle.std.proofs.Common.{◌≡◌, ◌+◌, ◌∙◌, ap, arith}
use Rattle.segment_word.specs.AcceptViews.{AcceptView, Lent, ledger_of, told_of, with_change, count_of}
use Rattle.segment_word.specs.AcceptSteps.{AcceptSat, taking}
use Rattle.segment_word.proofs.AcceptLists.{count-change}
use Rattle.segment_word.proofs.accepts.lending.accept.Goals as goal

pub returns-clause-number : goal.returns-clause-number
returns-clause-number g c =
    let l = ledger_of c.args.drive.now.me.0 in
    let t = told_of c.args.session.now.me.0 in
    let m = g.C.Taking.moment in
    let change = g.C.Taking.change in
    let lent : c.lend.new.drive.me.0 ≡ Lent l t = ap (λ (x : AcceptSat). x.0) c.lend.ensures.drive.1 in
    let before : c.take-before.result ≡ count_of l = c.take-before.ensures.view.count ∙ ap (λ (v : AcceptView). count_of (ledger_of v)) lent in
    let after : ledger_of c.tell.new.drive.me.0 ≡ with_change l t.seat m change =
    ap (λ (x : AcceptSat). ledger_of x.0) c.tell.ensures.drive.1 ∙ ap (λ (x : AcceptSat). ledger_of x.0) c.take-before.ensures.view.view ∙ ap (λ (v : AcceptView). ledger_of (taking m change v)) lent in
    let count : count_of (ledger_of c.tell.new.drive.me.0) ≡ count_of l + 1 = ap count_of after ∙ count-change l t.seat m change in
    omega (arith, before, count)
