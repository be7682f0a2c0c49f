use Rattle.std.proofs.Common.{ℕ, IfOk, subst}
use Rattle.std.proofs.lemmas.Result.{IfOk-weaker}
use Rattle.std.specs.List.{AllByRecursion}
use Rattle.s4_model.specs.State.{State}
use Rattle.s4_model.specs.Sound.{IsOfGiven}
use Rattle.window.specs.Runs.{AllBeginFrom}
use Rattle.window.specs.Timeline.{StandsFor}
use Rattle.drive.specs.Fields.{state_in, store_of}
use Rattle.drive.specs.Keeping.{IsKeptDrive}
use Rattle.drive.proofs.Parts.{kept_of}
use Rattle.drive.proofs.drive.Drive.spans.Goals as goal

pub returns-clause-from_floor : goal.returns-clause-from_floor
returns-clause-from_floor g c =
    let kept : IsKeptDrive (state_in c.args.self.now) (store_of c.args.self.now) c.self.inside.window c.self.inside.next = kept_of c.args.self.now g.J.Naming.base c.self.inside.history c.self.inside.store c.self.inside.audit.rows c.self.inside.window c.self.inside.next c.self.view_is c.self.invariant in
    subst (λ (floor : ℕ). IfOk c.spans.result (λ spans. AllBeginFrom floor spans.items)) kept.window.floor c.spans.ensures.from_floor

pub returns-clause-given : goal.returns-clause-given
returns-clause-given g c =
    let kept : IsKeptDrive (state_in c.args.self.now) (store_of c.args.self.now) c.self.inside.window c.self.inside.next = kept_of c.args.self.now g.J.Naming.base c.self.inside.history c.self.inside.store c.self.inside.audit.rows c.self.inside.window c.self.inside.next c.self.view_is c.self.invariant in
    IfOk-weaker c.spans.result (λ spans. (s : State) → StandsFor c.self.inside.window s → AllByRecursion (IsOfGiven s.next) spans.items) (λ spans. AllByRecursion (IsOfGiven (state_in c.args.self.now).next) spans.items)
    (λ spans given. given (state_in c.args.self.now) kept.window) c.spans.ensures.given
