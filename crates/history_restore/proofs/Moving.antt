-- Where a clock is by changes that are asked for at one moment.
use Rattle.std.proofs.Common.{◌≡◌, ◌+◌, ◌-◌, ◌<◌, ℕ, zero, suc, min, max, ap, arith}
use Rattle.s4_model.specs.Refusals.{last_number}
use Rattle.s4_model.specs.State.{State}
use Rattle.history_restore.specs.Asking.{clock_by}
use Rattle.history_restore.specs.Widening.{window_for}

-- by some
pub clock_by_some : (clock now n : ℕ) → 0 < n → clock_by clock now n ≡ max now (clock + 1) + (n - 1)
clock_by_some clock now zero some = omega (arith, some)
clock_by_some clock now (suc n) some = omega arith

-- by some and then by others
pub clock_by_more : (n m clock now : ℕ) → clock_by (clock_by clock now n) now m ≡ clock_by clock now (n + m)
clock_by_more n zero clock now = let same : n ≡ n + 0 = omega arith in ap (clock_by clock now) same
clock_by_more zero (suc m) clock now = omega (arith, clock_by_some clock now (zero + suc m) (omega arith))
clock_by_more (suc n) (suc m) clock now = omega (arith, clock_by_some clock now (suc n + suc m) (omega arith))

-- by one, and then by others
pub stamped_more : (clock now stamped n : ℕ) → stamped ≡ max now (clock + 1) → clock_by stamped now n ≡ clock_by clock now (n + 1)
stamped_more clock now stamped zero is = omega (arith, is, clock_by_some clock now (0 + 1) (omega arith))
stamped_more clock now stamped (suc n) is = omega (arith, is, clock_by_some clock now (suc n + 1) (omega arith))

-- as many as there may be are as good as one more than that
pub window_saturated : (s : State) (now at n m : ℕ) → m ≡ min last_number (n + 1) → window_for s now at m ≡ window_for s now at (n + 1)
window_saturated s now at n m is =
    let some : 0 < m = omega (arith, is) in
    omega (arith, is, clock_by_some s.clock now m some, clock_by_some s.clock now (n + 1) (omega arith))
