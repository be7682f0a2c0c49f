use Rattle.std.proofs.Common.{refl, sym, ap, subst}
use Rattle.s4_model.specs.Numbers.{window_by}
use Rattle.s4_model.specs.Visible.{span_by}
use Rattle.s4_types.specs.declared.changes.Change.{Change}
use Rattle.window.specs.Chunks.{flat}
use Rattle.window.specs.Timeline.{Timeline, StandsFor}
use Rattle.window.proofs.Standing.{stands_changed}
use Rattle.window.proofs.window.Window.set.Goals as goal

pub returns-clause-taken : goal.returns-clause-taken
returns-clause-taken c = λ s a stands at change.
    let Q : Timeline → Type 0 = λ w. StandsFor w s in
    let w : Timeline = record { clock = c.self.inside.clock; window = c.self.inside.window; floor = c.self.inside.floor; runs = flat c.self.inside.chunks.items; chunks = c.self.inside.chunks.items } in
    stands_changed w _ _ s a c.advance.result c.args.window refl refl refl c.advance.ensures.moved at (sym (ap (λ (x : Change). window_by x s.window) change)) (ap (λ (x : Change). span_by x) change) (subst Q (sym c.self.view_is) stands)
