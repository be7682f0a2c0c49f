use Rattle.journal_chain.proofs.Pushing.{pushed}
use Rattle.journal_chain.proofs.packing.laws.blocks_needed_are_appended.Goals as goal

pub returns : goal.returns
returns c = record { kept = λ blocks entries. (pushed blocks entries).kept_are; count = λ blocks entries. (pushed blocks entries).length_is }
