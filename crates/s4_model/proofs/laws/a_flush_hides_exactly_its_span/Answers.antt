use Rattle.s4_model.proofs.FlushLaws.{flush_hides, flush_of_object_hides}
use Rattle.s4_model.proofs.laws.a_flush_hides_exactly_its_span.Goals as goal

pub returns : goal.returns
returns c = record { of_all = flush_hides; of_one = flush_of_object_hides }
