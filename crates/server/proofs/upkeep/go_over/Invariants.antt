use Rattle.std.proofs.Common.{ℕ, ◌<◌, get_or}
use Rattle.server.specs.Upkeep.{SharedVisit}
use Rattle.server.proofs.upkeep.go_over.Given as goal

-- those that came have had their turn
abbrev pub invariant-loop-object : goal.invariant-loop-object
invariant-loop-object g l = (i : ℕ) (d : _) → i < l.object-index → SharedVisit g.J.Naming.base (get_or l.initial.objects i d)
