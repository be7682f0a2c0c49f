-- No moment that is drawn is below the one before.
use Rattle.std.proofs.Common.{ℕ, ◌≤◌, List, [], ◌∷◌, Option, Some, None, arith}
use Rattle.serving.specs.Drawing.{Drawn}
use Rattle.service_time.specs.Drawing.{Ascends, Draws, moment_after}
use Rattle.service_time.specs.declared.clock.ServiceClock.{ServiceClock}

never_back : (began first last : ℕ) (reading : Option ℕ) → last ≤ moment_after began first last reading
never_back began first last None = omega arith
never_back began first last (Some reading) = omega arith

pub ascending : {R : Type 0} (reads : R → Option ℕ → R → Type 0) (moments : List ℕ) (old new : ServiceClock R) (low : ℕ) → low ≤ old.last
    → Drawn (Draws reads) old moments new → Ascends low moments
ascending reads [] old new low above drawn = tt
ascending reads (now ∷ moments) old new low above drawn =
    let up : low ≤ now = omega (arith, drawn.1.drawn, never_back old.began old.first old.last drawn.1.reading) in
    let last : now ≤ drawn.0.last = omega (arith, drawn.1.last) in
    (up, ascending reads moments drawn.0 new now last drawn.2)
