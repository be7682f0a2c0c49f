use Rattle.std.proofs.Common.{List, length, ap, ◌∙◌}
use Rattle.std.proofs.lemmas.List.Sums.{length-filter}
use Rattle.s4_types.specs.declared.spans.Span.{Span}
use Rattle.window.specs.Runs.{span_is_of}
use Rattle.window.proofs.runs.count_of_list.Goals as goal

pub returns : goal.returns
returns c = ap (λ (xs : List Span). length xs) c.of_list.ensures ∙ length-filter (span_is_of c.args.list) c.args.runs.now
