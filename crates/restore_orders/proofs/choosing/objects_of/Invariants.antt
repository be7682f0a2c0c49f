use Rattle.std.proofs.Common.{◌≡◌, take}
use Rattle.restore_orders.proofs.choosing.objects_of.Given as goal

-- the numbers so far were taken
abbrev pub invariant-loop-number : goal.invariant-loop-number
invariant-loop-number l = record {
  taken : l.objects.items ≡ take l.number-index l.numbers;
}
