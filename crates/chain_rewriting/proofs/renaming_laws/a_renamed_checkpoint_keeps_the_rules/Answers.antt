use Rattle.chain_rewriting.specs.Renaming.{renamed}
use Rattle.chain_rewriting.proofs.Kept.{rules_mapped}
use Rattle.chain_rewriting.proofs.renaming_laws.a_renamed_checkpoint_keeps_the_rules.Goals as goal

pub returns : goal.returns
returns c = λ r. rules_mapped (renamed r)
