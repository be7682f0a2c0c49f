-- How many bytes of entries changes have.
use Rattle.std.proofs.Common.{inl, inr, nat_lt, ◌≡◌, ◌∙◌, ◌+◌, ◌-◌, ◌*◌, ◌/◌, ◌<◌, ◌≤◌, ◌==◌, min, ℕ, zero, suc, Bool, true, false, cond, List, [], ◌∷◌, ◌++◌, length, sum, Option, None, Some, refl, sym, ap, arith}
use Rattle.std.proofs.lemmas.Bool.{cases_lt, le-ltb, lt-ltb, ne_eqb}
use Rattle.std.proofs.lemmas.List.Sums.{sum_by-cons}
use Rattle.std.proofs.lemmas.List.{length-drop, length-take-le}
use Rattle.std.specs.Prelude.{drop}
use Rattle.s4_types.specs.declared.changes.Change.{Change as ChangeOf}
use Rattle.s4_model.specs.Refusals.{last_number}
use Rattle.object_map.specs.declared.map.Row.{Row}
use Rattle.s4_types.specs.declared.limits.TheConstants.{CHAIN_ENTRY_BYTES, ENTRY_TRIPLES, SHORTEST_ENTRY_BYTES, TRIPLE_BYTES}
use Rattle.codec.specs.Entry.{pair_length}
use Rattle.codec.specs.declared.inodes.Inode.{Inode}
use Rattle.chain_rewriting.proofs.Bytes.{pair_none}
use Rattle.inode.specs.Touched.{cut_count, touched_count}
use Rattle.s4_model.specs.Step.{part}
use Rattle.block_runs.specs.declared.running.Run.{Run}
use Rattle.block_runs.specs.Blocks.{blocks_in}
use Rattle.undo_redo.specs.Between.{pair_between}
use Rattle.undo_redo.specs.Sizes.{later_sizes, entry_sizes}
use Rattle.version_store.specs.Costs.{past_count}
use Rattle.history_restore.specs.Joining.{entry_bytes, is_too_long_by, run_bytes}
use Rattle.history_restore.specs.Plans.{AreWithin, attribute_changes, cut_changes, runs_changes}

-- ---- the entries of one change

sum-cons : (n : ℕ) (ns : List ℕ) → sum (n ∷ ns) ≡ n + sum ns
sum-cons n ns = sum_by-cons (λ k. k) n ns

later_are : (n count : ℕ) → count ≤ n → sum (later_sizes n count) ≡ SHORTEST_ENTRY_BYTES * ((count + 15) / ENTRY_TRIPLES) + TRIPLE_BYTES * count
unfolding later_sizes
later_are zero count few = omega (arith, few)
later_are (suc n) zero few = omega arith
later_are (suc n) (suc count) few =
    let one : sum ((SHORTEST_ENTRY_BYTES + TRIPLE_BYTES * min ENTRY_TRIPLES (suc count)) ∷ later_sizes n (suc count - ENTRY_TRIPLES)) ≡ (SHORTEST_ENTRY_BYTES + TRIPLE_BYTES * min ENTRY_TRIPLES (suc count)) + sum (later_sizes n (suc count - ENTRY_TRIPLES)) = sum-cons (SHORTEST_ENTRY_BYTES + TRIPLE_BYTES * min ENTRY_TRIPLES (suc count)) (later_sizes n (suc count - ENTRY_TRIPLES)) in
    let rest = later_are n (suc count - ENTRY_TRIPLES) (omega (arith, few)) in
    omega (arith, one, rest)

pub sizes_are : (count pair : ℕ) → sum (entry_sizes count pair) ≡ SHORTEST_ENTRY_BYTES * ((count - 1) / ENTRY_TRIPLES + 1) + pair + TRIPLE_BYTES * count
unfolding entry_sizes
sizes_are count pair =
    let first : sum (entry_sizes count pair) ≡ (SHORTEST_ENTRY_BYTES + pair + TRIPLE_BYTES * min ENTRY_TRIPLES count) + sum (later_sizes (count - ENTRY_TRIPLES) (count - ENTRY_TRIPLES)) = sum-cons (SHORTEST_ENTRY_BYTES + pair + TRIPLE_BYTES * min ENTRY_TRIPLES count) (later_sizes (count - ENTRY_TRIPLES) (count - ENTRY_TRIPLES)) in
    let rest = later_are (count - ENTRY_TRIPLES) (count - ENTRY_TRIPLES) (omega arith) in
    omega (arith, first, rest)

-- ---- of changes that leave the attribute

same_pair : (i : Inode) (count : ℕ) → sum (entry_sizes count (pair_length (pair_between i.attribute i.attribute))) ≡ sum (entry_sizes count 0)
same_pair i count = ap (λ pair. sum (entry_sizes count pair)) (pair_none i.attribute i.attribute refl)

pub cut_takes : (o size : ℕ) (i : Inode) → sum (entry_sizes (past_count i size + cut_count i size) 0) ≡ entry_bytes (cut_changes o (Some size)) i
cut_takes o size i = omega (arith, same_pair i (past_count i size + cut_count i size))

-- and of one that replaces it
pub name_takes : (o : ℕ) (attribute : List ℕ) (i : Inode) → sum (entry_sizes 0 (pair_length (pair_between i.attribute attribute))) ≡ entry_bytes (attribute_changes o attribute true) i
name_takes o attribute i = omega arith

-- ---- of several changes

pub entries_append : (cs ds : List ChangeOf) (i : Inode) → entry_bytes (cs ++ ds) i ≡ entry_bytes cs i + entry_bytes ds i
entries_append [] ds i = omega arith
entries_append (c ∷ cs) ds i = omega (arith, entries_append cs ds i)

-- the blocks of a run are those that its write touches
touches_run : (bytes : List ℕ) (r : Run) → r.offset < r.end → r.end ≤ length bytes → touched_count r.offset (length (part bytes r.offset (r.end - r.offset))) ≡ blocks_in r
touches_run bytes r some within =
    let size : length (part bytes r.offset (r.end - r.offset)) ≡ r.end - r.offset = length-take-le (r.end - r.offset) (drop r.offset bytes) (omega (arith, length-drop r.offset bytes)) in
    let many : (r.end - r.offset == 0) ≡ false = ne_eqb (r.end - r.offset) 0 (omega arith) in
    ap (touched_count r.offset) size ∙ ap (λ (none : Bool). cond none 0 ((r.offset + (r.end - r.offset) - 1) / 512 + 1 - r.offset / 512)) many ∙ omega arith

pub runs_take : (o : ℕ) (bytes : List ℕ) (rs : List Run) (i : Inode) → AreWithin bytes rs → entry_bytes (runs_changes o bytes rs) i ≡ run_bytes rs
runs_take o bytes [] i are = refl
runs_take o bytes (r ∷ rs) i are =
    let one : sum (entry_sizes (touched_count r.offset (length (part bytes r.offset (r.end - r.offset)))) (pair_length (pair_between i.attribute i.attribute))) ≡ sum (entry_sizes (blocks_in r) 0) =
    same_pair i (touched_count r.offset (length (part bytes r.offset (r.end - r.offset)))) ∙ ap (λ n. sum (entry_sizes n 0)) (touches_run bytes r are.0 are.1) in
    omega (arith, one, runs_take o bytes rs i are.2)

-- so those of all changes
pub changes_take : (o : ℕ) (bytes attribute : List ℕ) (cut : Option ℕ) (wanted : Bool) (rs : List Run) (i : Inode) → AreWithin bytes rs
    → entry_bytes (cut_changes o cut ++ (runs_changes o bytes rs ++ attribute_changes o attribute wanted)) i ≡ entry_bytes (cut_changes o cut) i + (run_bytes rs + entry_bytes (attribute_changes o attribute wanted) i)
changes_take o bytes attribute cut wanted rs i are =
    omega (arith, entries_append (cut_changes o cut) (runs_changes o bytes rs ++ attribute_changes o attribute wanted) i, entries_append (runs_changes o bytes rs) (attribute_changes o attribute wanted) i, runs_take o bytes rs i are)

-- one run more
pub run_bytes_more : (rs : List Run) (r : Run) → run_bytes (rs ++ r ∷ []) ≡ run_bytes rs + sum (entry_sizes (blocks_in r) 0)
run_bytes_more [] r = omega arith
run_bytes_more (q ∷ rs) r = omega (arith, run_bytes_more rs r)

-- ---- whether they are too many for a journal

long_is : (bytes held : ℕ) → nat_lt CHAIN_ENTRY_BYTES (min last_number (min last_number bytes + held)) ≡ nat_lt CHAIN_ENTRY_BYTES (held + bytes)
long_is bytes held = elim (cases_lt CHAIN_ENTRY_BYTES (held + bytes)) [
  | inl more ↦ lt-ltb CHAIN_ENTRY_BYTES (min last_number (min last_number bytes + held)) (omega (arith, more)) ∙ sym (lt-ltb CHAIN_ENTRY_BYTES (held + bytes) more)
  | inr most ↦ le-ltb CHAIN_ENTRY_BYTES (min last_number (min last_number bytes + held)) (omega (arith, most)) ∙ sym (le-ltb CHAIN_ENTRY_BYTES (held + bytes) most)
]

pub long_by : (found : Option Row) (there : Option Inode) (row : Row) (i : Inode) (cs : List ChangeOf) (bytes : ℕ) → found ≡ Some row → there ≡ Some i → bytes ≡ min last_number (entry_bytes cs i)
    → nat_lt CHAIN_ENTRY_BYTES (min last_number (bytes + row.journal_bytes)) ≡ is_too_long_by found there cs
long_by found there row i cs bytes found_is there_is bytes_are =
    ap (λ (n : ℕ). nat_lt CHAIN_ENTRY_BYTES (min last_number (n + row.journal_bytes))) bytes_are
    ∙ long_is (entry_bytes cs i) row.journal_bytes
    ∙ ap (λ (r : Option Row). is_too_long_by r (Some i) cs) (sym found_is)
    ∙ ap (λ (o : Option Inode). is_too_long_by found o cs) (sym there_is)

pub no_row : (found : Option Row) (there : Option Inode) (cs : List ChangeOf) → found ≡ None → false ≡ is_too_long_by found there cs
no_row found there cs is = ap (λ (r : Option Row). is_too_long_by r there cs) (sym is)

pub no_inode : (found : Option Row) (there : Option Inode) (cs : List ChangeOf) → there ≡ None → false ≡ is_too_long_by found there cs
no_inode None there cs is = refl
no_inode (Some row) there cs is = ap (λ (i : Option Inode). is_too_long_by (Some row) i cs) (sym is)
