use Rattle.image_parts.proofs.SpanCounts.{few_in_a_list}
use Rattle.image_parts.proofs.laws.a_list_has_few_spans.Goals as goal

pub returns : goal.returns
returns c = λ header spans object keeps. few_in_a_list header spans object keeps.each
