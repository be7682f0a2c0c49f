use Rattle.std.proofs.Common.{map, length, ◌-◌}
use Rattle.update_log.proofs.Following.{Found}
use Rattle.update_log.proofs.accepting.accept.Given as goal

abbrev pub invariant-loop-why : goal.invariant-loop-why
invariant-loop-why l = Found l.image (map (λ v. v.items) l.payloads.items) l.bytes l.place

abbrev pub decreases-loop-why : goal.decreases-loop-why
decreases-loop-why l = length l.bytes - l.place.at
