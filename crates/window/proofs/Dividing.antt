-- Runs in order fall in chunks.
use Rattle.std.proofs.Common.{◌≡◌, ℕ, zero, suc, true, false, ◌+◌, ◌-◌, ◌<◌, ◌≤◌, ◌^◌, nat_le, List, [], ◌∷◌, ◌++◌, length, get_or, take, drop, inl, inr, length-drop, refl, sym, ap, subst, ◌∙◌, append_assoc, append-nil, arith}
use Rattle.std.specs.List.{AllByRecursion}
use Rattle.std.specs.List.Sorted.{IsPartitionPoint}
use Rattle.std.proofs.lemmas.Bool.{leb-true, leb-false, le-leb, cases_lt, both_ways}
use Rattle.s4_types.specs.declared.spans.Span.{Span}
use Rattle.window.specs.declared.chunks.Chunk.{Chunk}
use Rattle.window.specs.Runs.{Ascend, AllEndFrom}
use Rattle.window.proofs.Ordering.{before_parts}
use Rattle.window.specs.Chunks.{flat, AreWithin, Parted, AllNumbered, AllDated, IsCutOff}

take_and_drop : (i : ℕ) (runs : List Span) → runs ≡ take i runs ++ drop i runs
take_and_drop zero runs = refl
take_and_drop (suc i) [] = refl
take_and_drop (suc i) (run ∷ runs) = ap (λ xs. run ∷ xs) (take_and_drop i runs)

take_within : (list i : ℕ) (runs : List Span) → IsPartitionPoint (λ run. nat_le run.object list ≡ true) (λ run. nat_le run.object list ≡ false) runs i → AllByRecursion (λ run. run.object ≤ list) (take i runs)
take_within list zero runs point = tt
take_within list (suc i) [] point = tt
take_within list (suc i) (run ∷ runs) point =
    (leb-true _ _ (point.0 0 run (omega arith) (omega arith)), take_within list i runs (λ k d low high. point.0 (suc k) d (omega arith) (omega arith), λ k d low high. point.1 (suc k) d (omega arith) (omega arith)))

drop_behind : (list i : ℕ) (runs : List Span) → IsPartitionPoint (λ run. nat_le run.object list ≡ true) (λ run. nat_le run.object list ≡ false) runs i → AllByRecursion (λ run. list + 1 ≤ run.object) (drop i runs)
drop_behind list zero [] point = tt
drop_behind list zero (run ∷ runs) point =
    (let lt : list < run.object = leb-false _ _ (point.1 0 run (omega arith) (omega arith)) in omega arith, drop_behind list zero runs (λ k d low high. absurd (omega arith), λ k d low high. point.1 (suc k) d (omega arith) (omega arith)))
drop_behind list (suc i) [] point = tt
drop_behind list (suc i) (run ∷ runs) point = drop_behind list i runs (λ k d low high. point.0 (suc k) d (omega arith) (omega arith), λ k d low high. point.1 (suc k) d (omega arith) (omega arith))

at_least : (low k : ℕ) (runs : List Span) (d : Span) → k < length runs → AllByRecursion (λ run. low ≤ run.object) runs → low ≤ (get_or runs k d).object
at_least low k [] d lt all = absurd (omega arith)
at_least low zero (run ∷ runs) d lt all = all.0
at_least low (suc k) (run ∷ runs) d lt all = at_least low k runs d (omega arith) all.1

-- a search for the end of a list cuts runs in two
pub cut_off : (runs : List Span) (i k list : ℕ) (d : Span) → IsPartitionPoint (λ run. nat_le run.object list ≡ true) (λ run. nat_le run.object list ≡ false) runs i → k < length runs → (get_or runs k d).object ≡ list
    → list + 1 < 2 ^ 64 → IsCutOff runs list (take i runs) (drop i runs)
cut_off runs i k list d point lt is below = record {
  is = take_and_drop i runs;
  within = take_within list i runs point;
  behind = drop_behind list i runs point;
  from = λ low all. let le : low ≤ (get_or runs k d).object = at_least low k runs d lt all in omega arith;
  below = below;
  shorter = elim (cases_lt k i) as (λ _. length (drop i runs) < length runs) [
    | inl later ↦ omega (arith, length-drop i runs)
    | inr early ↦ absurd (both_ways (nat_le (get_or runs k d).object list) (point.1 k d early lt) (le-leb (get_or runs k d).object list (omega arith)))
  ];
}

first_is : (P : Span → Type 0) (runs : List Span) (d : Span) → 0 < length runs → AllByRecursion P runs → P (get_or runs 0 d)
first_is P [] d lt all = absurd (omega arith)
first_is P (run ∷ runs) d lt all = all.0

-- the same, where parts and ends are given
pub cut_off_at : (runs front back : List Span) (i k list : ℕ) (d e next : Span) → IsPartitionPoint (λ run. nat_le run.object list ≡ true) (λ run. nat_le run.object list ≡ false) runs i → front ≡ take i runs → back ≡ drop i runs → k < length runs → (get_or runs k d).object ≡ list
    → 0 < length back → get_or back 0 e ≡ next → next.object < 2 ^ 64 → IsCutOff runs list front back
cut_off_at runs front back i k list d e next point f b lt is some first below =
    let P : List Span → List Span → Type 0 = λ x y. IsCutOff runs list x y in
    let behind : AllByRecursion (λ run. list + 1 ≤ run.object) back = subst (AllByRecursion (λ run. list + 1 ≤ run.object)) (sym b) (drop_behind list i runs point) in
    let le : list + 1 ≤ (get_or back 0 e).object = first_is (λ run. list + 1 ≤ run.object) back e some behind in
    let object : (get_or back 0 e).object ≡ next.object = ap (λ (x : Span). x.object) first in
    subst (λ x. P x back) (sym f) (subst (λ y. P (take i runs) y) (sym b) (cut_off runs i k list d point lt is (omega arith)))

-- chunks from one number on that end before another
abbrev pub PartedTo : ℕ → List Chunk → ℕ → Type 0
PartedTo low [] next = low ≤ next
PartedTo low (c ∷ cs) next = (low ≤ c.up_to) × AreWithin low c.up_to c.runs.items × PartedTo (c.up_to + 1) cs next

-- the chunks so far and the runs that are left
pub record Divides (runs : List Span) (chunks : List Chunk) (rest : List Span) : Type 0 where
  pub next : ℕ
  pub is : flat chunks ++ rest ≡ runs
  pub parted : PartedTo 0 chunks next
  pub behind : AllByRecursion (λ run. next ≤ run.object) rest
  pub below : next < 2 ^ 64
  pub ordered : Ascend rest
  pub numbered : AllNumbered rest
  pub dated : AllDated chunks

all_from_zero : (runs : List Span) → AllByRecursion (λ run. 0 ≤ run.object) runs
all_from_zero [] = tt
all_from_zero (run ∷ runs) = (omega arith, all_from_zero runs)

pub divides_first : (runs : List Span) → Ascend runs → AllNumbered runs → Divides runs [] runs
divides_first runs ordered numbered = record {
  next = 0;
  is = refl;
  parted = omega arith;
  behind = all_from_zero runs;
  below = omega arith;
  ordered = ordered;
  numbered = numbered;
  dated = tt;
}

within_from : (low next high : ℕ) (runs : List Span) → low ≤ next → AllByRecursion (λ run. next ≤ run.object) runs → AllByRecursion (λ run. run.object ≤ high) runs → AreWithin low high runs
within_from low next high [] le from to = tt
within_from low next high (run ∷ runs) le from to = ((let a : next ≤ run.object = from.0 in omega arith, to.0), within_from low next high runs le from.1 to.1)

flat_push : (cs : List Chunk) (c : Chunk) → flat (cs ++ c ∷ []) ≡ flat cs ++ c.runs.items
flat_push [] c = append-nil c.runs.items
flat_push (d ∷ cs) c = ap (λ xs. d.runs.items ++ xs) (flat_push cs c) ∙ sym (append_assoc d.runs.items (flat cs) c.runs.items)

parted_push : (low : ℕ) (cs : List Chunk) (next : ℕ) (c : Chunk) → PartedTo low cs next → next ≤ c.up_to → AllByRecursion (λ run. next ≤ run.object) c.runs.items → AllByRecursion (λ run. run.object ≤ c.up_to) c.runs.items → PartedTo low (cs ++ c ∷ []) (c.up_to + 1)
parted_push low [] next c parted le from to = (let a : low ≤ next = parted in omega arith, within_from low next c.up_to c.runs.items parted from to, omega arith)
parted_push low (d ∷ cs) next c parted le from to = (parted.0, parted.1, parted_push (d.up_to + 1) cs next c parted.2 le from to)

dated_push : (cs : List Chunk) (c : Chunk) → AllDated cs → AllEndFrom c.earliest c.runs.items → AllDated (cs ++ c ∷ [])
dated_push [] c dated from = (from, tt)
dated_push (d ∷ cs) c dated from = (dated.0, dated_push cs c dated.1 from)

parted_at_last : (low : ℕ) (cs : List Chunk) (next : ℕ) → PartedTo low cs next → Parted low cs
parted_at_last low [] next parted = tt
parted_at_last low (c ∷ cs) next parted = (parted.0, parted.1, parted_at_last (c.up_to + 1) cs next parted.2)

pub all_front : (P : Span → Type 0) (xs ys : List Span) → AllByRecursion P (xs ++ ys) → AllByRecursion P xs
all_front P [] ys all = tt
all_front P (x ∷ xs) ys all = (all.0, all_front P xs ys all.1)

pub all_back : (P : Span → Type 0) (xs ys : List Span) → AllByRecursion P (xs ++ ys) → AllByRecursion P ys
all_back P [] ys all = all
all_back P (x ∷ xs) ys all = all_back P xs ys all.1

pub ordered_front : (xs ys : List Span) → Ascend (xs ++ ys) → Ascend xs
ordered_front [] ys h = tt
ordered_front (x ∷ xs) ys h = (h.0, all_front _ xs ys h.1, ordered_front xs ys h.2)

pub ordered_back : (xs ys : List Span) → Ascend (xs ++ ys) → Ascend ys
ordered_back [] ys h = h
ordered_back (x ∷ xs) ys h = ordered_back xs ys h.2

pub divides_on : (runs : List Span) (chunks : List Chunk) (rest behind : List Span) (list : ℕ) (part : List Span) (c : Chunk) → Divides runs chunks rest → IsCutOff rest list part behind → c.up_to ≡ list → c.runs.items ≡ part → AllEndFrom c.earliest c.runs.items → Divides runs (chunks ++ c ∷ []) behind
divides_on runs chunks rest behind list part c divides cut up is from_end =
    let from : AllByRecursion (λ run. divides.next ≤ run.object) (part ++ behind) = subst (AllByRecursion (λ run. divides.next ≤ run.object)) cut.is divides.behind in
    let le : divides.next ≤ list = cut.from divides.next divides.behind in
    let P : ℕ → Type 0 = λ n. PartedTo 0 (chunks ++ c ∷ []) (n + 1) in
    let front : AllByRecursion (λ run. divides.next ≤ run.object) c.runs.items = subst (AllByRecursion (λ run. divides.next ≤ run.object)) (sym is) (all_front (λ run. divides.next ≤ run.object) part behind from) in
    let to : AllByRecursion (λ run. run.object ≤ c.up_to) c.runs.items =
    subst (λ xs. AllByRecursion (λ run. run.object ≤ c.up_to) xs) (sym is) (subst (λ n. AllByRecursion (λ run. run.object ≤ n) part) (sym up) cut.within) in
    record {
      next = list + 1;
      is = ap (λ xs. xs ++ behind) (flat_push chunks c) ∙ append_assoc (flat chunks) c.runs.items behind ∙ ap (λ xs. flat chunks ++ (xs ++ behind)) is ∙ ap (λ xs. flat chunks ++ xs) (sym cut.is) ∙ divides.is;
      parted = subst P up (parted_push 0 chunks divides.next c divides.parted (omega arith) front to);
      behind = cut.behind;
      below = cut.below;
      ordered = ordered_back part behind (subst Ascend cut.is divides.ordered);
      numbered = all_back (λ run. run.object < 2 ^ 64) part behind (subst AllNumbered cut.is divides.numbered);
      dated = dated_push chunks c divides.dated from_end;
    }

numbered_to : (runs : List Span) → AllNumbered runs → AllByRecursion (λ run. run.object ≤ 2 ^ 64 - 1) runs
numbered_to [] all = tt
numbered_to (run ∷ runs) all = (let lt : run.object < 2 ^ 64 = all.0 in omega arith, numbered_to runs all.1)

-- the last chunk has what is left
pub divides_last : (runs : List Span) (chunks : List Chunk) (rest : List Span) (c : Chunk) → Divides runs chunks rest → c.up_to ≡ 2 ^ 64 - 1 → c.runs.items ≡ rest → AllEndFrom c.earliest c.runs.items → (flat (chunks ++ c ∷ []) ≡ runs) × Parted 0 (chunks ++ c ∷ []) × AllDated (chunks ++ c ∷ [])
divides_last runs chunks rest c divides up is from_end =
    let below : divides.next < 2 ^ 64 = divides.below in
    let front : AllByRecursion (λ run. divides.next ≤ run.object) c.runs.items = subst (AllByRecursion (λ run. divides.next ≤ run.object)) (sym is) divides.behind in
    let to : AllByRecursion (λ run. run.object ≤ c.up_to) c.runs.items =
    subst (λ xs. AllByRecursion (λ run. run.object ≤ c.up_to) xs) (sym is) (subst (λ n. AllByRecursion (λ run. run.object ≤ n) rest) (sym up) (numbered_to rest divides.numbered)) in (
      flat_push chunks c ∙ ap (λ xs. flat chunks ++ xs) is ∙ divides.is,
      parted_at_last 0 (chunks ++ c ∷ []) (c.up_to + 1) (parted_push 0 chunks divides.next c divides.parted (omega arith) front to),
      dated_push chunks c divides.dated from_end,
    )

-- runs in order are of numbers up to that of the last
pub numbered_to_last : (runs : List Span) (k : ℕ) (d : Span) → Ascend runs → suc k ≡ length runs → (get_or runs k d).object < 2 ^ 64 → AllNumbered runs
numbered_to_last [] k d h is below = tt
numbered_to_last (run ∷ []) zero d h is below = (below, tt)
numbered_to_last (run ∷ []) (suc k) d h is below = absurd (omega arith)
numbered_to_last (run ∷ next ∷ runs) zero d h is below = absurd (omega arith)
numbered_to_last (run ∷ next ∷ runs) (suc k) d h is below =
    let rest : AllNumbered (next ∷ runs) = numbered_to_last (next ∷ runs) k d h.2 (omega arith) below in
    let lt : next.object < 2 ^ 64 = rest.0 in (
      elim (before_parts run next h.1.0) as (λ _. run.object < 2 ^ 64) [
        | inl less ↦ omega arith
        | inr apart ↦ (let same : run.object ≡ next.object = apart.0 in omega arith)
      ],
      rest,
    )
