use Rattle.std.proofs.Common.{◌≡◌, ◌++◌}
use Rattle.verifier.proofs.AllRows.{HaveRead}
use Rattle.verifier.proofs.objects.read_objects.Given as goal

abbrev pub invariant-loop-part : goal.invariant-loop-part
invariant-loop-part l = record {
  read : HaveRead l.fn.table l.clock l.yielded l.reading;
  whole : l.parts.rows ≡ l.yielded ++ l.part-iterator;
}
