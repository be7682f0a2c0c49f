-- Which blocks a write touches.
use Rattle.std.proofs.Common.{◌≡◌, ℕ, ◌+◌, ◌-◌, ◌*◌, ◌/◌, ◌<◌, ◌≤◌, ◌↔◌, true, eqb, nat_le, nat_lt, inl, inr, arith}
use Rattle.std.proofs.lemmas.Bool.{cases_lt, and_parts, and_from, leb-true, ltb-true, le-leb, lt-ltb, cond-true, cond-false, eq-eqb, ne_eqb}
use Rattle.inode.specs.Touched.{touched_count, is_touched, HasByteIn}

pub touched_none : (offset len : ℕ) → len ≡ 0 → touched_count offset len ≡ 0
touched_none offset len e = cond-true (eqb len 0) 0 ((offset + len - 1) / 512 + 1 - offset / 512) (eq-eqb len 0 e)

pub touched_some : (offset len : ℕ) → 0 < len → touched_count offset len ≡ (offset + len - 1) / 512 + 1 - offset / 512
touched_some offset len lt = cond-false (eqb len 0) 0 ((offset + len - 1) / 512 + 1 - offset / 512) (ne_eqb len 0 (λ e. omega arith))

-- the first and the last touched block, by the places of the bytes
pub touched_within : (offset len k : ℕ) → offset / 512 ≤ k → k < offset / 512 + touched_count offset len → (0 < len) × ((offset < 512 * k + 512) × (512 * k < offset + len))
touched_within offset len k low high =
    elim (cases_lt 0 len) [
      | inl some ↦ let count = touched_some offset len some in (some, (omega arith, omega arith))
      | inr none ↦ let empty = touched_none offset len (omega arith) in absurd (omega arith)
    ]

pub touched_by : (offset len k : ℕ) → 0 < len → offset < 512 * k + 512 → 512 * k < offset + len → (offset / 512 ≤ k) × (k < offset / 512 + touched_count offset len)
touched_by offset len k some low high = let count = touched_some offset len some in (omega arith, omega arith)

pub is_touched-true : (offset len k : ℕ) → is_touched offset len k ≡ true → (offset / 512 ≤ k) × (k < offset / 512 + touched_count offset len)
is_touched-true offset len k e =
    let parts = and_parts (nat_le (offset / 512) k) (nat_lt k (offset / 512 + touched_count offset len)) e in
    (leb-true (offset / 512) k parts.0, ltb-true k (offset / 512 + touched_count offset len) parts.1)

pub is_touched-from : (offset len k : ℕ) → offset / 512 ≤ k → k < offset / 512 + touched_count offset len → is_touched offset len k ≡ true
is_touched-from offset len k low high =
    and_from (nat_le (offset / 512) k) (nat_lt k (offset / 512 + touched_count offset len)) (le-leb (offset / 512) k low) (lt-ltb k (offset / 512 + touched_count offset len) high)

has_byte : (offset len k : ℕ) → is_touched offset len k ≡ true → HasByteIn offset len k
has_byte offset len k e =
    let bounds = is_touched-true offset len k e in
    let within = touched_within offset len k bounds.0 bounds.1 in
    elim (cases_lt offset (512 * k)) [
      | inl before ↦ (512 * k, omega arith, omega arith, omega arith)
      | inr past ↦ (offset, omega arith, omega arith, omega arith)
    ]

by_byte : (offset len k : ℕ) → HasByteIn offset len k → is_touched offset len k ≡ true
by_byte offset len k h =
    let n = h.0 in
    let low : offset ≤ n = h.1 in
    let high : n < offset + len = h.2 in
    let index : n / 512 ≡ k = h.3 in
    let touched = touched_by offset len k (omega arith) (omega arith) (omega arith) in
    is_touched-from offset len k touched.0 touched.1

pub touched_by_bytes : (offset len k : ℕ) → (is_touched offset len k ≡ true) ↔ HasByteIn offset len k
touched_by_bytes offset len k = (has_byte offset len k, by_byte offset len k)
