use Rattle.std.proofs.Common.{ℕ, subst}
use Rattle.server.specs.Drawing.{MayGoOn}
use Rattle.server.specs.Sequence.{HasCome}
use Rattle.server.proofs.Sequence.{come_by, drawn_so_far}
use Rattle.server.proofs.shared.SharedDrive.close.Goals as goal

-- what was drawn so far may be drawn, and all parts together have what the books come to
pub returns-clause-come : goal.returns-clause-come
returns-clause-come g c =
    let held = c.self.invariant in
    let inside = c.self.inside in
    let moments = g.J.Running.moments in
    let Comes : ℕ → ℕ → Type 0 = λ requests changes. HasCome g.J.Running.begins moments g.J.Running.has_upkeep requests changes inside.drive in
    let come : Comes inside.books.requests inside.books.changes =
    come_by g.J.Running.begins (MayGoOn g.C.Clock.draws moments inside.clock) moments g.J.Running.has_upkeep inside.books.requests inside.books.changes inside.drive (drawn_so_far g.C.Clock.draws moments inside.clock) held.0 in
    subst (λ (n : ℕ). Comes n c.args.all.changes) c.audit.ensures.requests (subst (λ (n : ℕ). Comes inside.books.requests n) c.audit.ensures.changes come)
