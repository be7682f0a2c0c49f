use Rattle.std.proofs.Common.{◌≡◌, ◌++◌, ◌+◌, length}
use Rattle.codec.specs.Fields.{zeros}
use Rattle.image_parts.proofs.writing.put_zeros.Given as goal

abbrev pub invariant-loop : goal.invariant-loop
invariant-loop l = record {
  items : l.out.items ≡ l.initial.out.items ++ zeros l.counter;
  len : length l.out.items ≡ length l.initial.out.items + l.counter;
}
