use Rattle.std.proofs.Common.{sym, subst, arith}
use Rattle.std.specs.List.{AllByRecursion}
use Rattle.image_update.specs.Encoding.{IsEven, IsStep}
use Rattle.image_update.specs.Layout.{pairs_of}
use Rattle.image_update.specs.Pairs.{Built, built_in, changes_of}
use Rattle.image_update.proofs.Even.{pairs_even, pairs_fit}
use Rattle.image_update.proofs.Loops.{walked}
use Rattle.image_update.proofs.walking.walk.Goals as goal

pub returns-clause-built : goal.returns-clause-built
returns-clause-built c =
    walked c.args.old.now c.args.new.now c.in_ok-old.old.now c.in_ok-old.new.now c.in_ok-old-2.old.now c.in_ok-old-2.new.now c.in_ok-old-3.old.now c.in_ok-old-3.new.now c.in_ok-old-4.old.now c.in_ok-old-4.new.now
    c.counts_of-before.result c.counts_of-now.result c.min-frames.result
    (built_in c.new-out.result) (built_in c.compare_part.new.out) (built_in c.compare_frames.new.out) (built_in c.compare_part-2.new.out) (built_in c.compare_part-3.new.out) (built_in c.compare_units.new.out)
    c.counts_of-before.ensures c.counts_of-now.ensures c.min-frames.ensures
    c.in_ok-old.ensures.old c.in_ok-old.ensures.new c.in_ok-old-2.ensures.old c.in_ok-old-2.ensures.new c.in_ok-old-3.ensures.old c.in_ok-old-3.ensures.new c.in_ok-old-4.ensures.old c.in_ok-old-4.ensures.new
    c.new-out.ensures c.in_ok-old.ensures.pairs c.in_ok-old-2.ensures.pairs c.in_ok-old-3.ensures.pairs c.in_ok-old-4.ensures.pairs c.in_ok-compare_units.ensures.pairs

pub returns-clause-even : goal.returns-clause-even
returns-clause-even c =
    subst (λ (b : Built). IsEven (changes_of b)) (sym (returns-clause-built c)) (pairs_even (pairs_of c.args.old.now c.args.new.now))

pub returns-clause-steps : goal.returns-clause-steps
returns-clause-steps c =
    subst (λ (b : Built). AllByRecursion IsStep (changes_of b).steps) (sym (returns-clause-built c)) (pairs_fit c.args.old.now c.args.new.now (omega arith) (omega arith))
