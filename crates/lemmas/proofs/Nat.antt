-- Lemmas about numbers.
use Rattle.std.proofs.Common.{◌≡◌, ℕ, ◌+◌, ◌-◌, ◌≤◌, false, ◌==◌, sym, arith}
use Rattle.std.proofs.lemmas.Bool.{ne_eqb, eqb-false}

pub eqb_false_back : (m n : ℕ) → (m == n) ≡ false → (n == m) ≡ false
eqb_false_back m n apart = ne_eqb n m (λ (e : n ≡ m). eqb-false m n apart (sym e))

pub add_rest : (m n : ℕ) → m ≤ n → m + (n - m) ≡ n
add_rest m n le = omega arith
