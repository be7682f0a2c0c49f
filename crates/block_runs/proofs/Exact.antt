-- Runs are exact.
use Rattle.std.proofs.Common.{◌≡◌, ◌⊎◌, inl, inr, ◌+◌, ◌-◌, ◌/◌, ◌<◌, ◌≤◌, nat_le, ℕ, zero, suc, Bool, true, false, cond, List, [], ◌∷◌, length, refl, sym, subst, arith}
use Rattle.std.proofs.lemmas.Bool.{cases_eq, cases_lt, leb-true}
use Rattle.std.proofs.lemmas.Bool.Decides.{nat_tests}
use Rattle.s4_types.specs.declared.limits.TheConstants.{BLOCK_BYTES}
use Rattle.block_runs.specs.declared.running.Run.{Run}
use Rattle.block_runs.specs.Runs.{AreRuns, HasByte, IsRun, LiesBetween, RunsAreExact, blocks_between, is_put, runs_below, with_byte}

-- which of two
pub same_or_past : (i j : ℕ) → i ≤ j → (i ≡ j) ⊎ (i + 1 ≤ j)
same_or_past i j le = elim (cases_eq i j) [ inl is ↦ inl is | inr apart ↦ inr (omega (arith, apart)) ]

-- a byte of another kind makes no difference
pub passed : (d : ℕ → Bool) (gap n i : ℕ) (rs : List Run) → d i ≡ false → AreRuns d gap n (i + 1) 0 rs → AreRuns d gap n i 0 rs
passed d gap n i [] same are = λ j from below. elim (same_or_past i j from) [ inl is ↦ subst (λ k. d k ≡ false) is same | inr past ↦ are j past below ]
passed d gap n i (r ∷ rs) same are = (
  record {
    from = omega (arith, are.0.from);
    block_from = omega arith;
    some = are.0.some;
    within = are.0.within;
    before = λ j from below. elim (same_or_past i j from) [ inl is ↦ subst (λ k. d k ≡ false) is same | inr past ↦ are.0.before j past below ];
    first = are.0.first;
    last = are.0.last;
    filled = are.0.filled;
  },
  are.1,
)

-- a run of one byte
single : (d : ℕ → Bool) (gap n i : ℕ) → i < n → d i ≡ true → IsRun d gap n i 0 (record { offset = i; end = i + 1 })
single d gap n i below is = record {
  from = omega arith;
  block_from = omega arith;
  some = omega arith;
  within = omega arith;
  before = λ j from less. absurd (omega arith);
  first = is;
  last = let e : i ≡ i + 1 - 1 = omega arith in subst (λ k. d k ≡ true) e is;
  filled = λ k low high. inl (i, (let e : i + 1 - 1 ≡ i = omega arith in let h : k ≤ i / BLOCK_BYTES = subst (λ m. k ≤ m / BLOCK_BYTES) e high in omega arith), below, is);
}

-- a block of a run that got one more byte in front
filled_longer : (d : ℕ → Bool) (gap n i : ℕ) (r : Run) (k : ℕ) → d i ≡ true → blocks_between i r.offset ≤ gap → IsRun d gap n (i + 1) 0 r → i / BLOCK_BYTES ≤ k → k ≤ (r.end - 1) / BLOCK_BYTES
    → HasByte d n k ⊎ LiesBetween d gap n k
filled_longer d gap n i r k is near run low high =
    let from : i + 1 ≤ r.offset = run.from in
    let some : r.offset < r.end = run.some in
    let within : r.end ≤ n = run.within in
    let below : i < n = omega arith in
    elim (same_or_past (i / BLOCK_BYTES) k low) [
      | inl e ↦ inl (i, e, below, is)
      | inr past ↦ elim (cases_lt k (r.offset / BLOCK_BYTES)) [
        | inl under ↦ inr (record { low = i; high = r.offset; low_is = is; high_is = run.first; above = omega arith; below = under; near = near; within = omega arith })
        | inr inside ↦ run.filled k inside high
      ]
    ]

-- a run with one more byte in front
longer : (d : ℕ → Bool) (gap n i : ℕ) (r : Run) → d i ≡ true → blocks_between i r.offset ≤ gap → IsRun d gap n (i + 1) 0 r → IsRun d gap n i 0 (record { offset = i; end = r.end })
longer d gap n i r is near run =
    let from : i + 1 ≤ r.offset = run.from in
    let some : r.offset < r.end = run.some in
    record {
      from = omega arith;
      block_from = omega arith;
      some = omega arith;
      within = run.within;
      before = λ j low less. absurd (omega arith);
      first = is;
      last = run.last;
      filled = λ k low high. filled_longer d gap n i r k is near run low high;
    }

-- a run past the blocks after an earlier one's
apart : (d : ℕ → Bool) (gap n i : ℕ) (r : Run) (block : ℕ) → block ≤ r.offset / BLOCK_BYTES → IsRun d gap n i 0 r → IsRun d gap n i block r
apart d gap n i r block past run = record {
  from = run.from;
  block_from = past;
  some = run.some;
  within = run.within;
  before = run.before;
  first = run.first;
  last = run.last;
  filled = run.filled;
}

-- one more byte in front, by whether it is of the first run
put : (d : ℕ → Bool) (gap n i : ℕ) (r : Run) (rs : List Run) (near : Bool) → near ≡ nat_le (blocks_between i r.offset) gap → i < n → d i ≡ true → AreRuns d gap n (i + 1) 0 (r ∷ rs)
    → AreRuns d gap n i 0 (cond near (record { offset = i; end = r.end } ∷ rs) (record { offset = i; end = i + 1 } ∷ (r ∷ rs)))
put d gap n i r rs true near below is are = (longer d gap n i r is (leb-true _ _ (sym near)) are.0, are.1)
put d gap n i r rs false near below is are =
    let far : gap < r.offset / BLOCK_BYTES - (i / BLOCK_BYTES + 1) = grind (arith, nat_tests) in
    let e : i ≡ i + 1 - 1 = omega arith in
    let past : (i + 1 - 1) / BLOCK_BYTES + (gap + 2) ≤ r.offset / BLOCK_BYTES = subst (λ m. m / BLOCK_BYTES + (gap + 2) ≤ r.offset / BLOCK_BYTES) e (omega arith) in
    (single d gap n i below is, (apart d gap n (i + 1) r _ past are.0, are.1))

pub taken : (d : ℕ → Bool) (gap n i : ℕ) (rs : List Run) → i < n → d i ≡ true → AreRuns d gap n (i + 1) 0 rs → AreRuns d gap n i 0 (with_byte gap i rs)
taken d gap n i [] below is are = (single d gap n i below is, are)
taken d gap n i (r ∷ rs) below is are = put d gap n i r rs _ refl below is are

stepped : (d : ℕ → Bool) (gap n i : ℕ) (rs : List Run) (b : Bool) → d i ≡ b → i < n → AreRuns d gap n (i + 1) 0 rs → AreRuns d gap n i 0 (cond b (with_byte gap i rs) rs)
stepped d gap n i rs true is below are = taken d gap n i rs below is are
stepped d gap n i rs false is below are = passed d gap n i rs is are

runs_on : (d : ℕ → Bool) (gap n i : ℕ) (rs : List Run) → i ≤ n → AreRuns d gap n i 0 rs → AreRuns d gap n 0 0 (runs_below d gap i rs)
runs_on d gap n zero rs le are = are
runs_on d gap n (suc i) rs le are =
    let e : suc i ≡ i + 1 = omega arith in
    runs_on d gap n i (cond (d i) (with_byte gap i rs) rs) (omega arith) (stepped d gap n i rs (d i) refl (omega arith) (subst (λ k. AreRuns d gap n k 0 rs) e are))

-- whatever is written
pub exact_by : (d : ℕ → Bool) (gap n : ℕ) → AreRuns d gap n 0 0 (runs_below d gap n [])
exact_by d gap n = runs_on d gap n n [] (omega arith) (λ j from below. absurd (omega arith))

pub runs_are_exact : RunsAreExact
runs_are_exact gap bytes now = exact_by (is_put bytes now) gap (length bytes)
