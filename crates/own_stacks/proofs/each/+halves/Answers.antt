use borrow.Author.Rules.{rules}
use mathlib.Core.Path.{sym, subst}
use Prim.Native.Nat.{ℕ, ◌<◌, ◌/◌}
use native.Mathlib.Omega.{arith}
use lib.ListN.{length, get_or}
use Rattle.std.proofs.lemmas.List.{get_or-set_same, get_or_default}
use Rattle.std.specs.Fork.{AcceptsAt, ChangesAt}
use Rattle.own_stacks.proofs.Halves.{at_back, across_one, across_both}
use Rattle.own_stacks.proofs.each.+halves.Goals as goal

pub calls_from-returns-then-s-eq1 : goal.calls_from-returns-then-s-eq1
calls_from-returns-then-s-eq1 g t c =
    let xs = c.args.s.now in let y = c.call_at.new.it in
    let R : ℕ → g.row.T.Denot → g.row.T.Denot → Type 0 = ChangesAt g.F.Fn c.args.f.now in
    let some : 0 < length xs = omega arith in
    across_one R c.args.base xs _ (omega arith)
    (λ d. subst (R c.args.base (get_or xs 0 d)) (sym (get_or-set_same xs 0 y d some))
    (subst (λ x. R c.args.base x y) (get_or_default xs 0 _ d some) c.call_at.ensures))

pub calls_from-both_halves-requires-clause-back_accepts : goal.calls_from-both_halves-requires-clause-back_accepts
calls_from-both_halves-requires-clause-back_accepts g t c κs within =
    let cut = c.split_at_mut-front in
    at_back (AcceptsAt g.F.Fn c.args.f.now) c.args.base (length c.args.s.now / 2) cut.result.0.now cut.result.1.now c.args.s.now
    cut.ensures.value cut.ensures.front_len c.requires.accepts

pub calls_from-returns : goal.calls_from-returns
calls_from-returns g t c =
    let cut = c.split_at_mut-front in
    across_both (ChangesAt g.F.Fn c.args.f.now) c.args.base (length c.args.s.now / 2) _ _ _ _ _
    cut.ensures.value cut.ensures.front_len (search rules) c.both_halves.ensures.front c.both_halves.ensures.back
