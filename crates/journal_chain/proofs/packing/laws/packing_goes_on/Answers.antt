use Rattle.std.proofs.Common.{[]}
use Rattle.std.proofs.lemmas.List.Sums.{fold-append}
use Rattle.journal_chain.specs.Packing.{packed_with}
use Rattle.journal_chain.proofs.Rule.{packed_on}
use Rattle.journal_chain.proofs.packing.laws.packing_goes_on.Goals as goal

pub returns : goal.returns
returns c = record { packed = λ xs ys. fold-append packed_with [] xs ys; of_blocks = packed_on }
