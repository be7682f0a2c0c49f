-- Runs that are joined are no more than those that aren't.
use Rattle.std.proofs.Common.{◌≡◌, ◌+◌, ◌≤◌, nat_le, ℕ, zero, suc, Bool, true, false, cond, List, [], ◌∷◌, length, refl, arith}
use Rattle.std.proofs.lemmas.Bool.Decides.{nat_tests}
use Rattle.block_runs.specs.declared.running.Run.{Run}
use Rattle.block_runs.specs.Runs.{JoinedRunsAreFewer, blocks_between, is_put, runs_below, with_byte}

-- Of two lists of runs the first are no more, and both begin at the same byte.
abbrev AreFewer : List Run → List Run → Type 0
AreFewer [] [] = Unit {0}
AreFewer [] (r ∷ rs) = ⊥
AreFewer (q ∷ qs) [] = ⊥
AreFewer (q ∷ qs) (r ∷ rs) = (q.offset ≡ r.offset) × (length qs ≤ length rs)

-- one more byte in front of both, by whether it is of the first runs
fewer_put : (i : ℕ) (q r : Run) (qs rs : List Run) (near close : Bool) → (close ≡ true → near ≡ true) → length qs ≤ length rs
    → AreFewer (cond near (record { offset = i; end = q.end } ∷ qs) (record { offset = i; end = i + 1 } ∷ (q ∷ qs))) (cond close (record { offset = i; end = r.end } ∷ rs) (record { offset = i; end = i + 1 } ∷ (r ∷ rs)))
fewer_put i q r qs rs true true wider few = (refl, few)
fewer_put i q r qs rs true false wider few = (refl, omega arith)
fewer_put i q r qs rs false false wider few = (refl, omega arith)
fewer_put i q r qs rs false true wider few = let none : false ≡ true = wider refl in absurd (cc)

-- few blocks between are no more than that many
wider_near : (gap between : ℕ) → nat_le between 0 ≡ true → nat_le between gap ≡ true
wider_near gap between near = grind (arith, nat_tests)

fewer_with : (gap i : ℕ) (qs rs : List Run) → AreFewer qs rs → AreFewer (with_byte gap i qs) (with_byte 0 i rs)
fewer_with gap i [] [] are = (refl, omega arith)
fewer_with gap i [] (r ∷ rs) are = absurd are
fewer_with gap i (q ∷ qs) [] are = absurd are
fewer_with gap i (q ∷ qs) (r ∷ rs) are =
    fewer_put i q r qs rs (nat_le (blocks_between i q.offset) gap) (nat_le (blocks_between i r.offset) 0)
    (λ near. rw are.0 (wider_near gap (blocks_between i r.offset) near)) are.1

fewer_step : (gap i : ℕ) (qs rs : List Run) (b : Bool) → AreFewer qs rs → AreFewer (cond b (with_byte gap i qs) qs) (cond b (with_byte 0 i rs) rs)
fewer_step gap i qs rs true are = fewer_with gap i qs rs are
fewer_step gap i qs rs false are = are

fewer_below : (d : ℕ → Bool) (gap n : ℕ) (qs rs : List Run) → AreFewer qs rs → AreFewer (runs_below d gap n qs) (runs_below d 0 n rs)
fewer_below d gap zero qs rs are = are
fewer_below d gap (suc n) qs rs are = fewer_below d gap n (cond (d n) (with_byte gap n qs) qs) (cond (d n) (with_byte 0 n rs) rs) (fewer_step gap n qs rs (d n) are)

fewer_length : (qs rs : List Run) → AreFewer qs rs → length qs ≤ length rs
fewer_length [] [] are = omega arith
fewer_length [] (r ∷ rs) are = absurd are
fewer_length (q ∷ qs) [] are = absurd are
fewer_length (q ∷ qs) (r ∷ rs) are = omega (arith, are.1)

pub joined_runs_are_fewer : JoinedRunsAreFewer
joined_runs_are_fewer gap bytes now = fewer_length (runs_below (is_put bytes now) gap (length bytes) []) (runs_below (is_put bytes now) 0 (length bytes) []) (fewer_below (is_put bytes now) gap (length bytes) [] [] tt)
