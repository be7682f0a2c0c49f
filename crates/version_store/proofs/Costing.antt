-- Sizes and counts as the code takes them.
use Rattle.std.proofs.Common.{◌≡◌, ℕ, zero, suc, ◌+◌, ◌-◌, ◌*◌, ◌/◌, ◌%◌, ◌<◌, ◌≤◌, ◌==◌, ◌&&◌, leb, min, true, false, cond, List, ◌∷◌, length, sum, get_or, Option, Some, None, sym, ap, ◌∙◌, arith}
use Rattle.std.specs.Prelude.{is_some}
use Rattle.std.specs.List.{AllByRecursion}
use Rattle.std.specs.Cmp.Lexicographic.{pointwise}
use Rattle.std.proofs.lemmas.Bool.{and_left, lt-leb, le-leb}
use Rattle.std.proofs.lemmas.List.Sums.{sum_by-cons}
use Rattle.std.proofs.lemmas.List.{get_or_default}
use Rattle.s4_types.specs.Pointer.{Place}
use Rattle.s4_types.specs.declared.limits.TheConstants.{ENTRY_TRIPLES, SHORTEST_ENTRY_BYTES, TRIPLE_BYTES, OBJECT_BLOCKS, ATTRIBUTE_PAIR_BYTES, CHANGE_ENTRY_BYTES, CHANGE_ENTRIES, JOURNAL_ENTRY_BYTES}
use Rattle.codec.specs.Checkpoint.{pointer_at}
use Rattle.codec.specs.Entry.{pair_length}
use Rattle.codec.specs.declared.inodes.Inode.{Inode}
use Rattle.undo_redo.specs.Between.{pair_between}
use Rattle.undo_redo.specs.Sizes.{later_sizes, entry_sizes}
use Rattle.version_store.specs.Costs.{is_past, past_count}
use Rattle.version_store.proofs.Counting.{tally, tally-none, tally-more}

-- ---- the bytes of entries

sum-cons : (n : ℕ) (ns : List ℕ) → sum (n ∷ ns) ≡ n + sum ns
sum-cons n ns = sum_by-cons (λ k. k) n ns

later_most : (n k count : ℕ) → count ≤ ENTRY_TRIPLES * k → sum (later_sizes n count) ≤ SHORTEST_ENTRY_BYTES * k + TRIPLE_BYTES * count
unfolding later_sizes
later_most zero k count few = omega arith
later_most (suc n) k zero few = omega arith
later_most (suc n) zero (suc count) few = absurd (omega arith)
later_most (suc n) (suc k) (suc count) few =
    let one : sum ((SHORTEST_ENTRY_BYTES + TRIPLE_BYTES * min ENTRY_TRIPLES (suc count)) ∷ later_sizes n (suc count - ENTRY_TRIPLES)) ≡ (SHORTEST_ENTRY_BYTES + TRIPLE_BYTES * min ENTRY_TRIPLES (suc count)) + sum (later_sizes n (suc count - ENTRY_TRIPLES)) = sum-cons (SHORTEST_ENTRY_BYTES + TRIPLE_BYTES * min ENTRY_TRIPLES (suc count)) (later_sizes n (suc count - ENTRY_TRIPLES)) in
    let rest = later_most n k (suc count - ENTRY_TRIPLES) (omega (arith, few)) in
    omega (arith, one, rest)

pub sizes_most : (count pair : ℕ) → count ≤ OBJECT_BLOCKS → pair ≤ ATTRIBUTE_PAIR_BYTES → sum (entry_sizes count pair) ≤ CHANGE_ENTRY_BYTES
unfolding entry_sizes
sizes_most count pair few short =
    let first : sum (entry_sizes count pair) ≡ (SHORTEST_ENTRY_BYTES + pair + TRIPLE_BYTES * min ENTRY_TRIPLES count) + sum (later_sizes (count - ENTRY_TRIPLES) (count - ENTRY_TRIPLES)) = sum-cons (SHORTEST_ENTRY_BYTES + pair + TRIPLE_BYTES * min ENTRY_TRIPLES count) (later_sizes (count - ENTRY_TRIPLES) (count - ENTRY_TRIPLES)) in
    let rest = later_most (count - ENTRY_TRIPLES) (CHANGE_ENTRIES - 1) (count - ENTRY_TRIPLES) (omega (arith, few)) in
    omega (arith, few, short, first, rest)

-- each entry fits a block
later_fit : (n count : ℕ) → AllByRecursion (λ size. size ≤ JOURNAL_ENTRY_BYTES) (later_sizes n count)
unfolding later_sizes
later_fit zero count = tt
later_fit (suc n) zero = tt
later_fit (suc n) (suc count) = (omega arith, later_fit n (suc count - ENTRY_TRIPLES))

pub sizes_fit : (count pair : ℕ) → pair ≤ ATTRIBUTE_PAIR_BYTES → AllByRecursion (λ size. size ≤ JOURNAL_ENTRY_BYTES) (entry_sizes count pair)
unfolding entry_sizes
sizes_fit count pair short = (omega (arith, short), later_fit (count - ENTRY_TRIPLES) (count - ENTRY_TRIPLES))

-- ---- the bytes of attributes

pub pair_found : (a b : List ℕ) → pointwise ◌==◌ a b ≡ true → pair_length (pair_between a b) ≡ 0
unfolding pair_length
pair_found a b e = ap (λ same. pair_length (cond same None (Some (record { before = a; after = b })))) e

-- ---- the blocks past a size

pub past_more : (i : Inode) (size n : ℕ) → tally (is_past i size) 0 (n + 1) ≡ tally (is_past i size) 0 n + cond (is_past i size n) 1 0
past_more i size n = tally-more (is_past i size) 0 n n (omega arith)

pub past_none : (i : Inode) (size n : ℕ) → 512 * n < size + 512 → tally (is_past i size) 0 n ≡ 0
past_none i size n low = tally-none (is_past i size) 0 n (λ k from below. and_left (leb size (512 * k)) (is_some (pointer_at i k)) (lt-leb size (512 * k) (omega (arith, below, low))))

pub past_start : (i : Inode) (size first : ℕ) → first ≡ size / 512 + min 1 (size % 512) → (0 ≡ tally (is_past i size) 0 first) × (size ≤ 512 * first)
past_start i size first e = (sym (past_none i size first (omega (arith, e))), omega (arith, e))

-- one block more: it is there, or it is a hole
past_slot : (i : Inode) (size k : ℕ) (slot : Option Place) → size ≤ 512 * k → k < length i.pointers → is_past i size k ≡ is_some (get_or i.pointers k slot)
past_slot i size k slot le lt = ap (λ b. b && is_some (pointer_at i k)) (le-leb size (512 * k) le) ∙ ap is_some (get_or_default i.pointers k None slot lt)

pub past_some : (i : Inode) (size k count : ℕ) (slot : Option Place) → size ≤ 512 * k → k < length i.pointers → is_some (get_or i.pointers k slot) ≡ true → count ≡ tally (is_past i size) 0 k → count + 1 ≡ tally (is_past i size) 0 (k + 1)
past_some i size k count slot le lt some e =
    let one : ◌≡◌ {A = ℕ} (cond (is_past i size k) 1 0) 1 = ap (λ b. cond b 1 0) (past_slot i size k slot le lt ∙ some) in
    let more = past_more i size k in
    omega (arith, one, more, e)

pub past_hole : (i : Inode) (size k count : ℕ) (slot : Option Place) → size ≤ 512 * k → k < length i.pointers → is_some (get_or i.pointers k slot) ≡ false → count ≡ tally (is_past i size) 0 k → count ≡ tally (is_past i size) 0 (k + 1)
past_hole i size k count slot le lt hole e =
    let none : ◌≡◌ {A = ℕ} (cond (is_past i size k) 1 0) 0 = ap (λ b. cond b 1 0) (past_slot i size k slot le lt ∙ hole) in
    let more = past_more i size k in
    omega (arith, none, more, e)

pub past_all : (i : Inode) (size n : ℕ) → n ≡ OBJECT_BLOCKS → tally (is_past i size) 0 n ≡ past_count i size
unfolding past_count
past_all i size n e = ap (tally (is_past i size) 0) e
