use Rattle.std.proofs.Common.{◌≡◌, ℕ, ◌<◌, ◌≤◌, get_or}
use Rattle.server.specs.Attending.{HasSettled}
use Rattle.server.proofs.settling.settle_all.Given as goal

-- those that came have met the drive, which is as it was, and the others are as they were
abbrev pub invariant-loop-client : goal.invariant-loop-client
invariant-loop-client g l = (l.drive ≡ l.initial.drive)
    × ((i : ℕ) (d : _) → i < l.client-index → HasSettled l.initial.drive.ledger (get_or l.initial.clients i d) (get_or l.clients i d))
    × ((i : ℕ) (d : _) → l.client-index ≤ i → get_or l.clients i d ≡ get_or l.initial.clients i d)
