use Rattle.std.proofs.Common.{take}
use Rattle.std.specs.List.{AllByRecursion}
use Rattle.codec.specs.Summary.{IsBlank}
use Rattle.codec.proofs.summary_reading.are_blank.Given as goal

abbrev pub invariant-loop-block : goal.invariant-loop-block
invariant-loop-block l = AllByRecursion IsBlank (take l.block-index l.blocks)
