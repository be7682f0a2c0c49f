-- What places that were taken leave of the sum of those and of the ones ahead.
use Rattle.std.proofs.Common.{◌≡◌, ℕ, ◌+◌, ◌-◌, ◌≤◌, List, length, drop, ap, ◌∙◌, arith}
use Rattle.std.proofs.lemmas.List.{length-drop}
use Rattle.s4_types.specs.Pointer.{Place}
use Rattle.block_log.specs.Log.{Log}
use Rattle.block_log.specs.Taken.{TakesPlaces}

-- blocks that were taken are ahead no longer
taken_places : (before after : List Place) (n : ℕ) → after ≡ drop n before → n ≤ length before → length after + n ≡ length before
taken_places before after n e room =
    let count : length after ≡ length before - n = ap length e ∙ length-drop n before in
    omega (arith, count, room)

-- so the sum stays
pub sum_stays : (n : ℕ) (before after : Log) → TakesPlaces n before after → n ≤ length before.ahead → after.spent + length after.ahead ≡ before.spent + length before.ahead
sum_stays n before after takes room =
    let count : length after.ahead + n ≡ length before.ahead = taken_places before.ahead after.ahead n takes.ahead room in
    let more : after.spent ≡ n + before.spent = takes.spent in
    omega (arith, count, more)

-- nothing and this many are this many
pub none_more : (n : ℕ) → 0 + n ≡ n
none_more n = omega arith
