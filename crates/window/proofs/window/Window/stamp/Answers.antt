use Rattle.std.proofs.Common.{refl, sym, ◌∙◌}
use Rattle.window.proofs.Standing.{stands_changed, leaves}
use Rattle.window.proofs.window.Window.stamp.Goals as goal

pub returns-clause-taken : goal.returns-clause-taken
returns-clause-taken c = λ s a stands at versions.
    let left = leaves a.change versions s.window in
    stands_changed c.args.self.now c.args.self.now _ s a c.advance.result c.args.self.now.window refl refl refl c.advance.ensures.moved at (stands.window ∙ sym left.0) left.1 stands
