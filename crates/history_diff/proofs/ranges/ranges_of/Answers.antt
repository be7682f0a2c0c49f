use Rattle.std.proofs.Common.{rules, ◌≡◌, ◌+◌, ◌++◌, List, [], ◌∷◌, sym, subst}
use Rattle.history_diff.specs.declared.ranges.ByteRange.{ByteRange}
use Rattle.history_view.proofs.Fronts.{IsFront, front_more, front_whole}
use Rattle.history_diff.proofs.Apart.{AreRangesFrom, are_ranges}
use Rattle.history_diff.proofs.ranges.ranges_of.Goals as goal

pub loop-range-preserved : goal.loop-range-preserved
loop-range-preserved c =
    let from = AreRangesFrom c.args.before.now c.args.after.now in
    let range = c.in-Some.range in
    let grown : c.push.new.self.items ≡ c.loop-range.ranges.items ++ range ∷ [] = search rules in
    subst (λ (items : List ByteRange). IsFront from items (range.last + 1)) (sym grown)
    (front_more from c.loop-range.ranges.items range c.loop-range.from (range.last + 1) c.loop-range.invariant (λ rest more. (c.in-Some.ensures.some, more)))

pub returns : goal.returns
returns c =
    let from = AreRangesFrom c.args.before.now c.args.after.now in
    are_ranges c.args.before.now c.args.after.now c.loop-range.ranges.items (front_whole from c.loop-range.ranges.items c.loop-range.from c.loop-range.invariant c.in_default.ensures.none)
