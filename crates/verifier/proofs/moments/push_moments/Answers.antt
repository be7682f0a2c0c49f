use Rattle.std.proofs.Common.{◌≡◌, ℕ, ◌+◌, List, [], ◌∷◌, ◌++◌, drop, sym, ap, ◌∙◌}
use Rattle.verifier.proofs.Telling.{told_from, told_whole, same_again, one_told, last_told}
use Rattle.verifier.proofs.moments.push_moments.Goals as goal

pub loop-entry-init : goal.loop-entry-init
loop-entry-init c = ap (λ l. c.args.moments.now.items ++ l) (ap (λ m. told_from m c.args.entries.now) (c.number-last.ensures ∙ c.moment.ensures) ∙ told_whole c.args.entries.now c.in-Some.first.now c.in-Some.ensures.item.3.0 c.in-Some.ensures.item.1)

pub loop-entry-preserved-then-moment-last : goal.loop-entry-preserved-then-moment-last
loop-entry-preserved-then-moment-last c =
    same_again _ c.loop-entry.moments.items c.args.entries.now c.loop-entry.entry-index c.loop-entry.last c.entry-item.result c.loop-entry-test.true c.entry-item.is
    (sym (c.number-moment.ensures ∙ c.moment-in-loop-entry.ensures) ∙ c.if-moment-last.true) c.loop-entry.invariant

pub loop-entry-preserved : goal.loop-entry-preserved
loop-entry-preserved c =
    let is : c.number-moment.result ≡ c.entry-item.result.moment = c.number-moment.ensures ∙ c.moment-in-loop-entry.ensures in
    ap (λ (l : List ℕ). l ++ told_from c.number-moment.result (drop (c.loop-entry.entry-index + 1) c.args.entries.now)) c.in_ok-push.ensures.items
    ∙ ap (λ m. (c.loop-entry.moments.items ++ c.loop-entry.last ∷ []) ++ told_from m (drop (c.loop-entry.entry-index + 1) c.args.entries.now)) is
    ∙ one_told _ c.loop-entry.moments.items c.args.entries.now c.loop-entry.entry-index c.loop-entry.last c.entry-item.result c.loop-entry-test.true c.entry-item.is
    (λ same. c.if-moment-last.false (is ∙ same)) c.loop-entry.invariant

pub returns-clause-moments : goal.returns-clause-moments
returns-clause-moments c =
    c.in_ok-push-2.ensures.items ∙ last_told _ c.loop-entry.moments.items c.args.entries.now c.loop-entry.entry-index c.loop-entry.last c.loop-entry-test.false c.loop-entry.invariant
