use Rattle.verifier.proofs.OneSpans.{one_list_of_runs}
use Rattle.verifier.proofs.laws.spans_that_cover_alike_are_equal.Goals as goal

pub returns : goal.returns
returns c = one_list_of_runs
