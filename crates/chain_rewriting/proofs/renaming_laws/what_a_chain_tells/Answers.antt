use Rattle.chain_rewriting.proofs.Told.{from_either_end, points_to_what_it_tells}
use Rattle.chain_rewriting.proofs.Listed.{listed}
use Rattle.chain_rewriting.proofs.RenamedGrowing.{passes_too}
use Rattle.chain_rewriting.proofs.renaming_laws.what_a_chain_tells.Goals as goal

pub returns-clause-listed : goal.returns-clause-listed
returns-clause-listed c = listed

pub returns-clause-too : goal.returns-clause-too
returns-clause-too c = passes_too

pub returns-clause-ends : goal.returns-clause-ends
returns-clause-ends c = from_either_end

pub returns-clause-points : goal.returns-clause-points
returns-clause-points c = points_to_what_it_tells
