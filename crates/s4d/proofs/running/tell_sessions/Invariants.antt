use Rattle.std.proofs.Common.{◌≡◌, ◌↔◌, ℕ, ◌<◌, IsTrue, get_or}
use Rattle.serving.specs.declared.ends.ServeEnd.TheVariants.{Ended}
use Rattle.server.specs.declared.running.Outcome.TheVariants.{Served}
use Rattle.s4d.proofs.running.tell_sessions.Given as goal

-- whether each session so far came to the end of its input
abbrev pub invariant-loop-place : goal.invariant-loop-place
invariant-loop-place g l = IsTrue l.is_ended ↔ ((i : ℕ) (d : _) → i < l.place → (get_or l.served i d).outcome ≡ Served Ended)
