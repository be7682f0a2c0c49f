use Rattle.std.proofs.Common.{List, sym, ap, subst, ◌∙◌, arith}
use Rattle.std.specs.List.{AllByRecursion}
use Rattle.image_update.specs.declared.steps.Step.{Step}
use Rattle.image_update.specs.Encoding.{IsStep, count_put}
use Rattle.image_update.proofs.differing.within_largest.Goals as goal

pub invariant_of-result : goal.invariant_of-result
invariant_of-result c = record {
  steps = subst (λ (q : List Step). AllByRecursion IsStep q) (sym c.in_ok-push.ensures.items) c.requires.steps;
  even = ap count_put c.in_ok-push.ensures.items ∙ c.requires.even;
  small = omega (arith, c.if-len.false, c.if-len-gt-MOST_STEPS.false, c.len.ensures, c.len-2.ensures, c.len-3.ensures, c.push.new.self.ok.0, c.args.out.put.ok.0);
}
