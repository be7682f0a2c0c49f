use Rattle.std.proofs.Common.{◌≡◌, drop}
use Rattle.codec.specs.Entry.{ascend_from}
use Rattle.codec.proofs.entries.ascends.Given as goal

abbrev pub invariant-loop-triple : goal.invariant-loop-triple
invariant-loop-triple l = ascend_from l.low (drop l.triple-index l.triples) ≡ ascend_from 0 l.triples
