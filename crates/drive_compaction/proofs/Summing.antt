-- Sums over frames, and over objects.
use Rattle.std.proofs.Common.{◌≡◌, ℕ, zero, suc, ◌+◌, ◌-◌, ◌<◌, ◌≤◌, Option, None, ap, ◌∙◌, arith}
use Rattle.object_map.specs.declared.map.Row.{Row}
use Rattle.object_map.specs.Rows.{row_of}
use Rattle.object_map.specs.Objects.{IsNextAbove}
use Rattle.segment_table.specs.Room.{sum_over}
use Rattle.version_store.specs.Store.{StoreFields, IsStore}
use Rattle.version_store.specs.Versions.{inode_by}
use Rattle.drive_compaction.specs.Past.{blocks_of_inode, present_blocks}
use Rattle.drive_compaction.proofs.Counted.{has_none_0}

-- ---- sums

pub sum_more : (number : ℕ → ℕ) (f n : ℕ) → sum_over number f (n + 1) ≡ sum_over number f n + number (f + n)
sum_more number f zero = (let here : f ≡ f + 0 = omega arith in let same = ap number here in omega (arith, same))
sum_more number f (suc n) =
    let rest : sum_over number (f + 1) (n + 1) ≡ sum_over number (f + 1) n + number ((f + 1) + n) = sum_more number (f + 1) n in
    let long : sum_over number f (suc n + 1) ≡ number f + sum_over number (f + 1) (n + 1) = (let e : suc n + 1 ≡ suc (n + 1) = omega arith in ap (sum_over number f) e) in
    let last : number ((f + 1) + n) ≡ number (f + suc n) = (let e : (f + 1) + n ≡ f + suc n = omega arith in ap number e) in
    omega (arith, rest, long, last)

sum_flat : (number : ℕ → ℕ) (f n k : ℕ) → ((q : ℕ) → f + n ≤ q → q < (f + n) + k → number q ≡ 0) → sum_over number f (n + k) ≡ sum_over number f n
sum_flat number f n zero none = (let e : n + zero ≡ n = omega arith in ap (sum_over number f) e)
sum_flat number f n (suc k) none =
    let e : n + suc k ≡ (n + k) + 1 = omega arith in
    let more = sum_more number f (n + k) in
    let same : sum_over number f (n + suc k) ≡ sum_over number f ((n + k) + 1) = ap (sum_over number f) e in
    let before = sum_flat number f n k (λ q low high. none q low (omega (arith, high))) in
    let last : number (f + (n + k)) ≡ 0 = none (f + (n + k)) (omega arith) (omega arith) in
    omega (arith, more, same, before, last)

-- each of them is no more than the sum
pub sum_at : (number : ℕ → ℕ) (f n k : ℕ) → k < n → number (f + k) ≤ sum_over number f n
sum_at number f zero k h = absurd (omega (arith, h))
sum_at number f (suc n) zero h = (let here : number (f + 0) ≡ number f = (let e : f + 0 ≡ f = omega arith in ap number e) in omega (arith, here))
sum_at number f (suc n) (suc k) h =
    let rest = sum_at number (f + 1) n k (omega (arith, h)) in
    let here : number (f + suc k) ≡ number ((f + 1) + k) = (let e : f + suc k ≡ (f + 1) + k = omega arith in ap number e) in
    omega (arith, rest, here)

-- ---- over objects

no_blocks : (s : StoreFields) (t o : ℕ) → row_of s.rows o ≡ None → present_blocks s t o ≡ 0
no_blocks s t o none = ap (λ (r : Option Row). blocks_of_inode (inode_by s.log.held o t r)) none

pub summed_none : (s : StoreFields) (t object past held : ℕ) → IsStore s → object ≡ 0 → past ≡ held → past ≡ held - sum_over (present_blocks s t) 0 (object + 1)
summed_none s t object past held store start is =
    let none : present_blocks s t 0 ≡ 0 = no_blocks s t 0 (has_none_0 s store) in
    let one : sum_over (present_blocks s t) 0 (object + 1) ≡ sum_over (present_blocks s t) 0 1 = (let e : object + 1 ≡ 1 = omega (arith, start) in ap (sum_over (present_blocks s t) 0) e) in
    omega (arith, none, one, is)

pub summed_more : (s : StoreFields) (t object next past held more later : ℕ) → IsNextAbove s.rows object next → past ≡ held - sum_over (present_blocks s t) 0 (object + 1) → more ≡ present_blocks s t next → later ≡ past - more
    → later ≡ held - sum_over (present_blocks s t) 0 (next + 1)
summed_more s t object next past held more later above before is less =
    let higher : object < next = above.above in
    let here : next ≡ (object + 1) + (next - (object + 1)) = omega (arith, higher) in
    let last : sum_over (present_blocks s t) 0 (next + 1) ≡ sum_over (present_blocks s t) 0 next + present_blocks s t (0 + next) = sum_more (present_blocks s t) 0 next in
    let same : present_blocks s t (0 + next) ≡ present_blocks s t next = (let e : 0 + next ≡ next = omega arith in ap (present_blocks s t) e) in
    let flat : sum_over (present_blocks s t) 0 ((object + 1) + (next - (object + 1))) ≡ sum_over (present_blocks s t) 0 (object + 1) =
    sum_flat (present_blocks s t) 0 (object + 1) (next - (object + 1)) (λ q low high. no_blocks s t q (above.least q (omega (arith, low)) (omega (arith, high, higher)))) in
    let up : sum_over (present_blocks s t) 0 next ≡ sum_over (present_blocks s t) 0 (object + 1) = ap (sum_over (present_blocks s t) 0) here ∙ flat in
    omega (arith, last, same, up, before, is, less)

pub none_beyond : (s : StoreFields) (t object : ℕ) → ((q : ℕ) → object < q → row_of s.rows q ≡ None) → (o : ℕ) → object + 1 ≤ o → present_blocks s t o ≡ 0
none_beyond s t object none o above = no_blocks s t o (none o (omega (arith, above)))
