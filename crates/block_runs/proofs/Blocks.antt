-- Which blocks runs write: each that differs once, and of the others those that lie between two that do, near each other.
use Rattle.std.proofs.Common.{◌≡◌, ◌≢◌, ◌∙◌, inl, inr, ◌+◌, ◌-◌, ◌/◌, ◌<◌, ◌≤◌, nat_le, ◌==◌, ◌&&◌, ℕ, Bool, true, false, cond, List, [], ◌∷◌, ◌++◌, length, take, get_or, refl, sym, ap, arith}
use Rattle.std.proofs.lemmas.Bool.{cases_Bool, cases_lt, eqb-true, or_cases, or_left, true≢false}
use Rattle.std.proofs.lemmas.List.{get_or-take}
use Rattle.std.proofs.lemmas.Bool.Decides.{nat_tests}
use Rattle.s4_types.specs.declared.limits.TheConstants.{BLOCK_BYTES}
use Rattle.block_runs.specs.declared.running.Run.{Run}
use Rattle.block_runs.specs.Blocks.{DiffersIn, IsBetween, JoinedRunsWriteEachOnce, NoCutBlockIsWritten, RunsWriteEachOnce, blocks_in, blocks_in_all, times_written}
use Rattle.block_runs.specs.Runs.{AreRuns, HasByte, LiesBetween, differs, end_block, is_cut_whole, is_put, runs_to}
use Rattle.block_runs.proofs.Exact.{runs_are_exact}
use Rattle.block_runs.proofs.Cutting.{any_found, cut_by, none_found, put_whole, put_within, when_whole, when_within}
use Rattle.block_runs.proofs.Whole.{last_put}

-- whether a run writes a block
abbrev covers : Run → ℕ → Bool
covers r k = nat_le (r.offset / BLOCK_BYTES) k && nat_le k ((r.end - 1) / BLOCK_BYTES)

in_order : (i j : ℕ) → i ≤ j → i / BLOCK_BYTES ≤ j / BLOCK_BYTES
in_order i j le = omega arith

counted : (r : Run) (rs : List Run) (k : ℕ) (b : Bool) → covers r k ≡ b → times_written k (r ∷ rs) ≡ cond b 1 0 + times_written k rs
counted r rs k b is = ap (λ (c : Bool). cond c 1 0 + times_written k rs) is

covered : (r : Run) (k : ℕ) → r.offset / BLOCK_BYTES ≤ k → k ≤ (r.end - 1) / BLOCK_BYTES → covers r k ≡ true
covered r k low high = grind (arith, nat_tests)

in_front : (r : Run) (k : ℕ) → k < r.offset / BLOCK_BYTES → covers r k ≡ false
in_front r k less = grind (arith, nat_tests)

past : (r : Run) (k : ℕ) → (r.end - 1) / BLOCK_BYTES < k → covers r k ≡ false
past r k more = grind (arith, nat_tests)

-- no run writes a block in front of those that it is from
none_below : (d : ℕ → Bool) (gap n i b : ℕ) (rs : List Run) (k : ℕ) → AreRuns d gap n i b rs → k < b → times_written k rs ≡ 0
none_below d gap n i b [] k are less = refl
none_below d gap n i b (r ∷ rs) k are less =
    let from : b ≤ r.offset / BLOCK_BYTES = are.0.block_from in
    let some : r.offset < r.end = are.0.some in
    let wide : r.offset / BLOCK_BYTES ≤ (r.end - 1) / BLOCK_BYTES = in_order r.offset (r.end - 1) (omega arith) in
    let rest : times_written k rs ≡ 0 = none_below d gap n r.end _ rs k are.1 (omega arith) in
    counted r rs k false (in_front r k (omega arith)) ∙ ap (λ m. 0 + m) rest

-- nor has one of those in front of it a byte
bytes_from : (d : ℕ → Bool) (gap n i b : ℕ) (rs : List Run) (j : ℕ) → AreRuns d gap n i b rs → i ≤ j → j < n → d j ≡ true → b ≤ j / BLOCK_BYTES
bytes_from d gap n i b [] j are from below is = absurd (true≢false (sym is ∙ are j from below))
bytes_from d gap n i b (r ∷ rs) j are from below is =
    let first : b ≤ r.offset / BLOCK_BYTES = are.0.block_from in
    elim (cases_lt j r.offset) [
      | inl less ↦ absurd (true≢false (sym is ∙ are.0.before j from less))
      | inr low ↦ let after : r.offset / BLOCK_BYTES ≤ j / BLOCK_BYTES = in_order r.offset j low in omega arith
    ]

-- A block is written once that is one of those from a byte to another, near it.
once : (d : ℕ → Bool) (gap n i b : ℕ) (rs : List Run) (low high k : ℕ) → AreRuns d gap n i b rs → i ≤ low → low ≤ high → high < n → d low ≡ true → d high ≡ true → high / BLOCK_BYTES - (low / BLOCK_BYTES + 1) ≤ gap → low / BLOCK_BYTES ≤ k → k ≤ high / BLOCK_BYTES
    → times_written k rs ≡ 1
once d gap n i b [] low high k are from order below low_is high_is near above under = absurd (true≢false (sym low_is ∙ are low from (omega arith)))
once d gap n i b (r ∷ rs) low high k are from order below low_is high_is near above under =
    let some : r.offset < r.end = are.0.some in
    elim (cases_lt low r.offset) [
      | inl less ↦ absurd (true≢false (sym low_is ∙ are.0.before low from less))
      | inr first ↦ elim (cases_lt low r.end) [
        | inl inside ↦
            let begins : r.offset / BLOCK_BYTES ≤ low / BLOCK_BYTES = in_order r.offset low first in
            let ends : low / BLOCK_BYTES ≤ (r.end - 1) / BLOCK_BYTES = in_order low (r.end - 1) (omega arith) in
            elim (cases_lt high r.end) [
              | inl all ↦
                  let last : high / BLOCK_BYTES ≤ (r.end - 1) / BLOCK_BYTES = in_order high (r.end - 1) (omega arith) in
                  counted r rs k true (covered r k (omega arith) (omega arith)) ∙ ap (λ m. 1 + m) (none_below d gap n r.end _ rs k are.1 (omega arith))
              | inr later ↦
                  let far : (r.end - 1) / BLOCK_BYTES + (gap + 2) ≤ high / BLOCK_BYTES = bytes_from d gap n r.end _ rs high are.1 later below high_is in
                  absurd (omega arith)
            ]
        | inr end ↦
            let far : (r.end - 1) / BLOCK_BYTES + (gap + 2) ≤ low / BLOCK_BYTES = bytes_from d gap n r.end _ rs low are.1 end (omega arith) low_is in
            let one : times_written k rs ≡ 1 = once d gap n r.end _ rs low high k are.1 end order below low_is high_is near above under in
            counted r rs k false (past r k (omega arith)) ∙ ap (λ m. 0 + m) one
      ]
    ]

never : (d : ℕ → Bool) (gap n i b : ℕ) (rs : List Run) (k : ℕ) → AreRuns d gap n i b rs → (HasByte d n k → ⊥) → (LiesBetween d gap n k → ⊥) → times_written k rs ≡ 0
never d gap n i b [] k are same apart = refl
never d gap n i b (r ∷ rs) k are same apart =
    let rest : times_written k rs ≡ 0 = never d gap n r.end _ rs k are.1 same apart in
    elim (cases_lt k (r.offset / BLOCK_BYTES)) [
      | inl less ↦ counted r rs k false (in_front r k less) ∙ ap (λ m. 0 + m) rest
      | inr low ↦ elim (cases_lt ((r.end - 1) / BLOCK_BYTES) k) [
        | inl more ↦ counted r rs k false (past r k more) ∙ ap (λ m. 0 + m) rest
        | inr high ↦ elim (are.0.filled k low high) [ inl has ↦ absurd (same has) | inr lies ↦ absurd (apart lies) ]
      ]
    ]

is_other : (bytes now : List ℕ) (j : ℕ) → get_or bytes j 0 ≢ get_or now j 0 → differs bytes now j ≡ true
is_other bytes now j apart = let h : get_or bytes j 0 ≡ get_or now j 0 → ⊥ = apart in grind (arith, nat_tests)

other_is : (bytes now : List ℕ) (j : ℕ) → differs bytes now j ≡ true → get_or bytes j 0 ≡ get_or now j 0 → ⊥
other_is bytes now j is same = grind (arith, nat_tests)

-- ---- a block has a byte that is written exactly where it differs

-- where no block is cut off
within_differs : (bytes now : List ℕ) (k : ℕ) → is_cut_whole bytes now ≡ false → HasByte (is_put bytes now) (length bytes) k → DiffersIn bytes now k
within_differs bytes now k wrong has = (has.0, has.1, has.2, other_is bytes now has.0 (sym (put_within bytes now has.0 wrong) ∙ has.3))

differs_within : (bytes now : List ℕ) (k : ℕ) → is_cut_whole bytes now ≡ false → DiffersIn bytes now k → HasByte (is_put bytes now) (length bytes) k
differs_within bytes now k wrong other = (other.0, other.1, other.2, put_within bytes now other.0 wrong ∙ is_other bytes now other.0 other.3)

abbrev front_of : List ℕ → List ℕ → List ℕ
front_of bytes now = take (end_block (length bytes)) now

-- where one is
whole_differs : (bytes now : List ℕ) (k : ℕ) → is_cut_whole bytes now ≡ true → HasByte (is_put bytes now) (length bytes) k → DiffersIn bytes now k
whole_differs bytes now k right has =
    let at : has.0 / BLOCK_BYTES ≡ k = has.1 in
    let below : has.0 < length bytes = has.2 in
    let found = any_found (differs bytes now) (end_block (length bytes)) (length bytes - end_block (length bytes)) (when_whole bytes now right).1 in
    let from : end_block (length bytes) ≤ found.0 = found.1 in
    let until : found.0 < end_block (length bytes) + (length bytes - end_block (length bytes)) = found.2 in
    elim (cases_lt has.0 (end_block (length bytes))) [
      | inl less ↦ elim (or_cases (differs bytes (front_of bytes now) has.0) (has.0 + 1 == length bytes) (sym (put_whole bytes now has.0 right) ∙ has.3)) [
        | inl other ↦ (has.0, has.1, has.2, λ same. other_is bytes (front_of bytes now) has.0 other (same ∙ sym (get_or-take (end_block (length bytes)) now has.0 0 less)))
        | inr last ↦ let end : has.0 + 1 ≡ length bytes = eqb-true (has.0 + 1) (length bytes) last in absurd (omega arith)
      ]
      | inr past ↦ (found.0, omega arith, omega arith, other_is bytes now found.0 found.3)
    ]

differs_whole : (bytes now : List ℕ) (k : ℕ) → is_cut_whole bytes now ≡ true → DiffersIn bytes now k → HasByte (is_put bytes now) (length bytes) k
differs_whole bytes now k right other =
    let at : other.0 / BLOCK_BYTES ≡ k = other.1 in
    let below : other.0 < length bytes = other.2 in
    elim (cases_lt other.0 (end_block (length bytes))) [
      | inl less ↦
          let apart : differs bytes (front_of bytes now) other.0 ≡ true = is_other bytes (front_of bytes now) other.0 (λ same. other.3 (same ∙ get_or-take (end_block (length bytes)) now other.0 0 less)) in
          (other.0, other.1, other.2, put_whole bytes now other.0 right ∙ or_left (differs bytes (front_of bytes now) other.0) (other.0 + 1 == length bytes) apart)
      | inr past ↦ (length bytes - 1, omega arith, omega arith, last_put bytes now right (omega arith))
    ]

pub byte_differs : (bytes now : List ℕ) (k : ℕ) → HasByte (is_put bytes now) (length bytes) k → DiffersIn bytes now k
byte_differs bytes now k has = elim (cases_Bool (is_cut_whole bytes now)) [ inl right ↦ whole_differs bytes now k right has | inr wrong ↦ within_differs bytes now k wrong has ]

pub differs_byte : (bytes now : List ℕ) (k : ℕ) → DiffersIn bytes now k → HasByte (is_put bytes now) (length bytes) k
differs_byte bytes now k other = elim (cases_Bool (is_cut_whole bytes now)) [ inl right ↦ differs_whole bytes now k right other | inr wrong ↦ differs_within bytes now k wrong other ]

-- so one lies between two that have exactly where it does between two that differ
lies_between : (bytes now : List ℕ) (gap k : ℕ) → LiesBetween (is_put bytes now) gap (length bytes) k → IsBetween bytes now gap k
lies_between bytes now gap k lies =
    let under : k < lies.high / BLOCK_BYTES = lies.below in
    let over : lies.low / BLOCK_BYTES < k = lies.above in
    let within : lies.high < length bytes = lies.within in
    let order : lies.low < length bytes = omega arith in
    record {
      low = lies.low / BLOCK_BYTES;
      high = lies.high / BLOCK_BYTES;
      low_differs = byte_differs bytes now (lies.low / BLOCK_BYTES) (lies.low, refl, order, lies.low_is);
      high_differs = byte_differs bytes now (lies.high / BLOCK_BYTES) (lies.high, refl, within, lies.high_is);
      above = over;
      below = under;
      near = lies.near;
    }

-- ---- what is written

one_differs : (gap : ℕ) (bytes now : List ℕ) (k : ℕ) → DiffersIn bytes now k → times_written k (runs_to gap bytes now) ≡ 1
one_differs gap bytes now k other =
    let has = differs_byte bytes now k other in
    let at : has.0 / BLOCK_BYTES ≡ k = has.1 in
    once (is_put bytes now) gap (length bytes) 0 0 (runs_to gap bytes now) has.0 has.0 k (runs_are_exact gap bytes now) (omega arith) (omega arith) has.2 has.3 has.3 (omega arith) (omega arith) (omega arith)

one_between : (gap : ℕ) (bytes now : List ℕ) (k : ℕ) → IsBetween bytes now gap k → times_written k (runs_to gap bytes now) ≡ 1
one_between gap bytes now k is =
    let low = differs_byte bytes now is.low is.low_differs in
    let high = differs_byte bytes now is.high is.high_differs in
    let low_at : low.0 / BLOCK_BYTES ≡ is.low = low.1 in
    let high_at : high.0 / BLOCK_BYTES ≡ is.high = high.1 in
    let above : is.low < k = is.above in
    let below : k < is.high = is.below in
    let near : is.high - (is.low + 1) ≤ gap = is.near in
    once (is_put bytes now) gap (length bytes) 0 0 (runs_to gap bytes now) low.0 high.0 k (runs_are_exact gap bytes now) (omega arith) (omega arith) high.2 low.3 high.3 (omega arith) (omega arith) (omega arith)

none_else : (gap : ℕ) (bytes now : List ℕ) (k : ℕ) → (DiffersIn bytes now k → ⊥) → (IsBetween bytes now gap k → ⊥) → times_written k (runs_to gap bytes now) ≡ 0
none_else gap bytes now k same apart =
    never (is_put bytes now) gap (length bytes) 0 0 (runs_to gap bytes now) k (runs_are_exact gap bytes now)
    (λ has. same (byte_differs bytes now k has)) (λ lies. apart (lies_between bytes now gap k lies))

pub joined_write_each_once : JoinedRunsWriteEachOnce
joined_write_each_once gap bytes now k = (one_differs gap bytes now k, one_between gap bytes now k, none_else gap bytes now k)

-- none lies between two that are neighbours
none_between : (bytes now : List ℕ) (k : ℕ) → IsBetween bytes now 0 k → ⊥
none_between bytes now k is = omega (arith, is.above, is.below, is.near)

pub runs_write_each_once : RunsWriteEachOnce
runs_write_each_once bytes now k = (one_differs 0 bytes now k, λ same. none_else 0 bytes now k same (none_between bytes now k))

pub no_cut_block_is_written : NoCutBlockIsWritten
no_cut_block_is_written gap bytes now size (inr is) less midst = absurd (omega (arith, is.0))
no_cut_block_is_written gap bytes now size (inl is) less midst = elim (cases_Bool (is_cut_whole bytes now)) [
  | inl right ↦ let whole : size ≡ end_block (length bytes) = is.1 ∙ cut_by bytes now true right in absurd (omega arith)
  | inr wrong ↦
      let all : size ≡ length bytes = is.1 ∙ cut_by bytes now false wrong in
      none_else gap bytes now (size / BLOCK_BYTES)
      (λ other.
      let at : other.0 / BLOCK_BYTES ≡ size / BLOCK_BYTES = other.1 in
      let below : other.0 < length bytes = other.2 in
      let same = none_found (differs bytes now) (end_block (length bytes)) (length bytes - end_block (length bytes)) other.0 (when_within bytes now wrong less) (omega arith) (omega arith) in
      true≢false (sym (is_other bytes now other.0 other.3) ∙ same))
      (λ lies.
      let at : lies.high_differs.0 / BLOCK_BYTES ≡ lies.high = lies.high_differs.1 in
      let below : lies.high_differs.0 < length bytes = lies.high_differs.2 in
      let under : size / BLOCK_BYTES < lies.high = lies.below in
      omega arith)
]

-- one run more
pub blocks_more : (rs : List Run) (r : Run) → blocks_in_all (rs ++ r ∷ []) ≡ blocks_in_all rs + blocks_in r
blocks_more [] r = omega arith
blocks_more (q ∷ rs) r = omega (arith, blocks_more rs r)
