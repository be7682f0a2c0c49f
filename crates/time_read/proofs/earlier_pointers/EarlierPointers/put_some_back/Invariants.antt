use Rattle.std.proofs.Common.{drop}
use Rattle.time_read.proofs.Before.{PutSome}
use Rattle.time_read.proofs.earlier_pointers.EarlierPointers.put_some_back.Given as goal

abbrev pub invariant-loop-index : goal.invariant-loop-index
invariant-loop-index l = PutSome (drop l.first l.self) l.fn.needed.first l.index l.initial.pointers l.pointers
