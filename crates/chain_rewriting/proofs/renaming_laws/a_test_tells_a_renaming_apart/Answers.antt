use Rattle.chain_rewriting.proofs.Told.{apart_from_either_end}
use Rattle.chain_rewriting.proofs.RenamedGrowing.{told_apart}
use Rattle.chain_rewriting.proofs.renaming_laws.a_test_tells_a_renaming_apart.Goals as goal

pub returns-clause-test : goal.returns-clause-test
returns-clause-test c = told_apart

pub returns-clause-ends : goal.returns-clause-ends
returns-clause-ends c = apart_from_either_end
