use Rattle.std.proofs.Common.{◌≡◌, ◌+◌, ◌-◌, ◌≤◌, length}
use Rattle.image_update.specs.Layout.{pairs_in}
use Rattle.image_update.specs.Pairs.{built, built_in}
use Rattle.image_update.proofs.walking.compare_units.Given as goal

abbrev pub invariant-loop : goal.invariant-loop
invariant-loop l = record {
  pairs : built (pairs_in l.kind (l.most - l.counter) l.old l.new) (built_in l.out) ≡ built (pairs_in l.kind l.most l.fn.old l.fn.new) (built_in l.initial.out);
  old : l.out.last.keep + l.out.last.skip + length l.old ≤ l.initial.out.last.keep + l.initial.out.last.skip + length l.fn.old;
  new : l.out.last.put + length l.new ≤ l.initial.out.last.put + length l.fn.new;
}
