use Rattle.std.proofs.Common.{List, ap, ◌∙◌}
use Rattle.s4_types.specs.declared.spans.Span.{Span}
use Rattle.window.specs.Runs.{cover}
use Rattle.window.specs.Chunks.{flat}
use Rattle.window.proofs.Lists.{cover_of}
use Rattle.window.proofs.chunks.covers.Goals as goal

pub returns : goal.returns
returns c = c.cover.ensures ∙ ap (λ (all : List Span). cover all c.args.at) c.of_list.ensures ∙ cover_of c.args.list c.args.at (flat c.args.chunks.now)
