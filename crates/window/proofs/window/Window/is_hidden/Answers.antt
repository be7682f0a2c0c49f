use Rattle.std.proofs.Common.{ap, ◌∙◌}
use Rattle.window.specs.Chunks.{flat}
use Rattle.window.specs.Timeline.{Timeline}
use Rattle.window.proofs.Standing.{hidden_first, hidden_second}
use Rattle.window.proofs.window.Window.is_hidden.Goals as goal

pub returns-then-covers : goal.returns-then-covers
returns-then-covers c = λ s stands le.
    hidden_first c.args.self.now s c.args.object c.args.at c.new.result (flat c.as_slice-chunks.result.now) c.covers.result stands le c.new.ensures
    (ap flat c.as_slice-chunks.ensures.value ∙ ap (λ (w : Timeline). w.runs) c.self.view_is) c.covers.ensures c.if-covers.true

pub returns-else-covers : goal.returns-else-covers
returns-else-covers c = λ s stands le.
    hidden_second c.args.self.now s c.args.object c.args.at c.new.result (flat c.as_slice-chunks.result.now) c.covers.result c.covers-else-covers.result stands le c.new.ensures
    (ap flat c.as_slice-chunks.ensures.value ∙ ap (λ (w : Timeline). w.runs) c.self.view_is) c.covers.ensures c.if-covers.false c.covers-else-covers.ensures
