use Rattle.std.proofs.Common.{◌≡◌, ◌==◌, ℕ, take}
use Rattle.std.specs.BTreeSet.{contains}
use Rattle.std.specs.List.{list_any}
use Rattle.std.specs.Ordering.{nat_cmp}
use Rattle.s4_copy.proofs.asking.objects_of.Given as goal

-- the objects so far
abbrev pub invariant-loop-number : goal.invariant-loop-number
invariant-loop-number l = (o : ℕ) → contains nat_cmp l.objects o ≡ list_any (λ n. n == o) (take l.number-index l.numbers)
