use Rattle.chain_rewriting.specs.Renaming.{renamed}
use Rattle.chain_rewriting.specs.Apart.{IsNotNew}
use Rattle.chain_rewriting.proofs.Rules.{renaming_is}
use Rattle.chain_rewriting.proofs.MappedOrdered.{chain_mapped}
use Rattle.chain_rewriting.proofs.renaming_laws.a_renamed_chain_is_a_chain.Goals as goal

pub returns : goal.returns
returns c = λ r created latest first entries apart. chain_mapped (IsNotNew r) (renamed r) created latest first entries (renaming_is r apart.distinct) apart.told
