-- What stays of bytes that are cut.
use Rattle.std.proofs.Common.{◌≡◌, ◌∙◌, refl, inl, inr, ◌+◌, ◌-◌, ◌<◌, ◌≤◌, ◌==◌, nat_lt, ◌&&◌, ◌||◌, ℕ, zero, suc, Bool, true, false, cond, List, length, take, ap, arith}
use Rattle.std.proofs.lemmas.Bool.{and_left, and_parts, cases_Bool, cases_eq, false≢true, le-ltb, ltb-true, lt-ltb, or_cases, or_parts}
use Rattle.block_runs.specs.Runs.{any_between, cut_size, differs, end_block, is_cut_whole, is_put, kept}

-- ---- one of some indexes

pub any_found : (d : ℕ → Bool) (first n : ℕ) → any_between d first n ≡ true → (j : ℕ) × (first ≤ j) × (j < first + n) × (d j ≡ true)
any_found d first zero is = absurd (false≢true is)
any_found d first (suc n) is = elim (or_cases (d (first + n)) (any_between d first n) is) [
  | inl here ↦ (first + n, omega arith, omega arith, here)
  | inr there ↦ let found = any_found d first n there in (found.0, found.1, omega (arith, found.2), found.3)
]

pub none_found : (d : ℕ → Bool) (first n j : ℕ) → any_between d first n ≡ false → first ≤ j → j < first + n → d j ≡ false
none_found d first zero j is from below = absurd (omega arith)
none_found d first (suc n) j is from below =
    let parts = or_parts (d (first + n)) (any_between d first n) is in
    elim (cases_eq j (first + n)) [
      | inl same ↦ ap d same ∙ parts.0
      | inr apart ↦ none_found d first n j parts.1 from (omega (arith, apart))
    ]

-- those below one more
pub any_more : (d : ℕ → Bool) (first i : ℕ) → first ≤ i → any_between d first (i + 1 - first) ≡ (d i || any_between d first (i - first))
any_more d first i le =
    let more : i + 1 - first ≡ suc (i - first) = omega arith in
    let at : first + (i - first) ≡ i = omega arith in
    ap (any_between d first) more ∙ ap (λ k. d k || any_between d first (i - first)) at

-- ---- the block that is cut off

abbrev some_differs : List ℕ → List ℕ → Bool
some_differs bytes now = any_between (differs bytes now) (end_block (length bytes)) (length bytes - end_block (length bytes))

pub when_whole : (bytes now : List ℕ) → is_cut_whole bytes now ≡ true → (length bytes < length now) × (some_differs bytes now ≡ true)
when_whole bytes now is =
    let parts = and_parts (nat_lt (length bytes) (length now)) (some_differs bytes now) is in
    (ltb-true (length bytes) (length now) parts.0, parts.1)

-- of longer bytes whose block isn't cut off none of it differs
pub when_within : (bytes now : List ℕ) → is_cut_whole bytes now ≡ false → length bytes < length now → some_differs bytes now ≡ false
when_within bytes now is less = second (nat_lt (length bytes) (length now)) (some_differs bytes now) is (lt-ltb (length bytes) (length now) less)
  where
    second : (a b : Bool) → (a && b) ≡ false → a ≡ true → b ≡ false
    second true b is first = is
    second false b is first = absurd (false≢true first)

pub kept_by : (bytes now : List ℕ) (b : Bool) → is_cut_whole bytes now ≡ b → kept bytes now ≡ cond b (take (end_block (length bytes)) now) now
kept_by bytes now b is = ap (λ (whole : Bool). cond whole (take (end_block (length bytes)) now) now) is

pub cut_by : (bytes now : List ℕ) (b : Bool) → is_cut_whole bytes now ≡ b → cut_size bytes now ≡ cond b (end_block (length bytes)) (length bytes)
cut_by bytes now b is = ap (λ (whole : Bool). cond whole (end_block (length bytes)) (length bytes)) is

-- no more are left than these are
pub few_cut : (bytes now : List ℕ) → cut_size bytes now ≤ length bytes
few_cut bytes now = elim (cases_Bool (is_cut_whole bytes now)) [
  | inl right ↦ omega (arith, cut_by bytes now true right)
  | inr wrong ↦ omega (arith, cut_by bytes now false wrong)
]

-- of no more bytes than these no block is cut off, and all are kept
pub never_whole : (bytes now : List ℕ) → length now ≤ length bytes → is_cut_whole bytes now ≡ false
never_whole bytes now few = and_left (nat_lt (length bytes) (length now)) (some_differs bytes now) (le-ltb (length bytes) (length now) few)

pub kept_all : (bytes now : List ℕ) → length now ≤ length bytes → kept bytes now ≡ now
kept_all bytes now few = kept_by bytes now false (never_whole bytes now few)

-- ---- what is written

-- where no block is cut off, what differs
pub put_within : (bytes now : List ℕ) (i : ℕ) → is_cut_whole bytes now ≡ false → is_put bytes now i ≡ differs bytes now i
put_within bytes now i wrong =
    ap (λ there. differs bytes there i || (is_cut_whole bytes now && i + 1 == length bytes)) (kept_by bytes now false wrong)
    ∙ ap (λ (whole : Bool). differs bytes now i || (whole && i + 1 == length bytes)) wrong
    ∙ or_none (differs bytes now i)
  where
    or_none : (b : Bool) → (b || false) ≡ b
    or_none true = refl
    or_none false = refl

-- where one is, what differs from what is left, and the last
pub put_whole : (bytes now : List ℕ) (i : ℕ) → is_cut_whole bytes now ≡ true → is_put bytes now i ≡ (differs bytes (take (end_block (length bytes)) now) i || i + 1 == length bytes)
put_whole bytes now i right =
    ap (λ there. differs bytes there i || (is_cut_whole bytes now && i + 1 == length bytes)) (kept_by bytes now true right)
    ∙ ap (λ (whole : Bool). differs bytes (take (end_block (length bytes)) now) i || (whole && i + 1 == length bytes)) right

pub same_unput : (bytes now : List ℕ) (i : ℕ) → is_put bytes now i ≡ false → differs bytes (kept bytes now) i ≡ false
same_unput bytes now i is = (or_parts (differs bytes (kept bytes now) i) (is_cut_whole bytes now && i + 1 == length bytes) is).0
