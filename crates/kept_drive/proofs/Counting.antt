-- No more changes are accepted than moments pass.
use Rattle.std.proofs.Common.{◌≡◌, ◌+◌, ◌-◌, ◌^◌, ◌<◌, ◌≤◌, ℕ, List, [], ◌∷◌, length, min, arith}
use Rattle.s4_types.specs.declared.changes.Accepted.{Accepted}
use Rattle.s4_model.specs.Sound.{Ascends, IsSound}
use Rattle.s4_model.specs.State.{State}

ascends_count : (low : ℕ) (changes : List Accepted) (high : ℕ) → Ascends low changes high → length changes + low ≤ high
ascends_count low [] high h = omega (arith, h)
ascends_count low (a ∷ changes) high h = let first : low < a.moment = h.0 in let rest = ascends_count a.moment changes high h.1 in omega (arith, first, rest)

-- so a count of 64 bits that stops at its last number is how many were accepted
pub counted : (s : State) (number : ℕ) → IsSound s → s.clock < 2 ^ 64 → number ≡ min (length s.changes) (2 ^ 64 - 1) → number ≡ length s.changes
counted s number sound fits is = let few = ascends_count s.opened s.changes s.clock sound.stamped in omega (arith, few, fits, is)
