-- Runs in chunks: where a list's runs stand, and what one chunk that is made anew makes of all.
use Rattle.std.proofs.Common.{◌≡◌, ℕ, zero, suc, true, false, ◌+◌, ◌<◌, ◌≤◌, ◌==◌, ◌-◌, ◌&&◌, nat_lt, nat_le, List, [], ◌∷◌, ◌++◌, length, get_or, set, count_by, filter, Option, None, Some, inl, inr, refl, sym, ap, subst, ◌∙◌, append-nil, arith}
use Rattle.std.specs.List.{AllByRecursion}
use Rattle.std.specs.List.Sorted.{IsPartitionPoint, IsNonDecreasingBy}
use Rattle.std.proofs.lemmas.Bool.{cond_both, cond-true, cond-false, cases_Bool, ltb-true, ltb-false, le-ltb, or_from, and_left, ne_eqb}
use Rattle.s4_types.specs.declared.spans.Span.{Span}
use Rattle.window.specs.declared.chunks.Chunk.{Chunk}
use Rattle.window.specs.Runs.{is_before, Ascend, joined_span, with_span, AllEndFrom, is_live, is_live_in, span_is_of}
use Rattle.window.specs.Chunks.{flat, AreWithin, Parted, AllDated, holder, put}
use Rattle.window.proofs.Ordering.{before_from, with_span_past, with_span_before, with_span_joined, all_with_span, all_filter}
use Rattle.window.proofs.Counting.{count_cons}
use Rattle.window.proofs.Dividing.{ordered_front, ordered_back, all_front, all_back}
use Rattle.window.proofs.Live.{all_live}
use Rattle.std.proofs.lemmas.List.Elements.{filter-append}
use Rattle.std.proofs.lemmas.List.{length-append}
use Rattle.lemmas.proofs.Range.{tally}

-- a span goes past runs of earlier lists
past_earlier : (span : Span) (front back : List Span) → AllByRecursion (λ run. run.object < span.object) front → with_span span (front ++ back) ≡ front ++ with_span span back
past_earlier span [] back all = refl
past_earlier span (run ∷ front) back all =
    with_span_past span run (front ++ back) (before_from run span (inl all.0)) ∙ ap (λ xs. run ∷ xs) (past_earlier span front back all.1)

not_before : (span run : Span) → span.object < run.object → is_before run span ≡ false
not_before span run less =
    or_from (nat_lt run.object span.object) (run.object == span.object && nat_lt 1 (span.first - run.last)) (le-ltb run.object span.object (omega arith))
    (and_left (run.object == span.object) (nat_lt 1 (span.first - run.last)) (ne_eqb run.object span.object (λ (e : run.object ≡ span.object). omega arith)))

-- and stops before runs of later ones
before_later : (span : Span) (back : List Span) → AllByRecursion (λ run. span.object < run.object) back → with_span span back ≡ span ∷ back
before_later span [] all = refl
before_later span (run ∷ back) all = with_span_before span run back (not_before span run all.0) (before_from span run (inl all.0))

-- so what comes after stays as it is
before_back : (span : Span) (runs back : List Span) → AllByRecursion (λ run. span.object < run.object) back → with_span span (runs ++ back) ≡ with_span span runs ++ back
before_back span [] back all = before_later span back all
before_back span (run ∷ runs) back all = elim (cases_Bool (is_before run span)) [
  | inl past ↦ with_span_past span run (runs ++ back) past ∙ ap (λ xs. run ∷ xs) (before_back span runs back all) ∙ sym (ap (λ xs. xs ++ back) (with_span_past span run runs past))
  | inr later ↦ elim (cases_Bool (is_before span run)) as (λ _. with_span span (run ∷ (runs ++ back)) ≡ with_span span (run ∷ runs) ++ back) [
    | inl earlier ↦ with_span_before span run (runs ++ back) later earlier ∙ sym (ap (λ xs. xs ++ back) (with_span_before span run runs later earlier))
    | inr touch ↦ with_span_joined span run (runs ++ back) later touch ∙ before_back (joined_span span run) runs back all ∙ sym (ap (λ xs. xs ++ back) (with_span_joined span run runs later touch))
  ]
]

pub all_append : (P : Span → Type 0) (xs ys : List Span) → AllByRecursion P xs → AllByRecursion P ys → AllByRecursion P (xs ++ ys)
all_append P [] ys a b = b
all_append P (x ∷ xs) ys a b = (a.0, all_append P xs ys a.1 b)

all_earlier : (low high list : ℕ) (runs : List Span) → high < list → AreWithin low high runs → AllByRecursion (λ run. run.object < list) runs
all_earlier low high list [] lt all = tt
all_earlier low high list (run ∷ runs) lt all = let le : run.object ≤ high = all.0.1 in (omega arith, all_earlier low high list runs lt all.1)

all_later : (low high list : ℕ) (runs : List Span) → list < low → AreWithin low high runs → AllByRecursion (λ run. list < run.object) runs
all_later low high list [] lt all = tt
all_later low high list (run ∷ runs) lt all = let le : low ≤ run.object = all.0.0 in (omega arith, all_later low high list runs lt all.1)

behind_later : (low list : ℕ) (cs : List Chunk) → list < low → Parted low cs → AllByRecursion (λ run. list < run.object) (flat cs)
behind_later low list [] lt parted = tt
behind_later low list (c ∷ cs) lt parted =
    let le : low ≤ c.up_to = parted.0 in
    all_append (λ run. list < run.object) c.runs.items (flat cs) (all_later low c.up_to list c.runs.items lt parted.1) (behind_later (c.up_to + 1) list cs (omega arith) parted.2)

held_here : (list : ℕ) (d c : Chunk) (cs : List Chunk) → nat_lt d.up_to list ≡ false → holder list (d ∷ cs) ≡ Some c → d ≡ c
held_here list d c cs here h = let e : Some d ≡ Some c = sym (cond-false (nat_lt d.up_to list) (holder list cs) (Some d) here) ∙ h in cc

held_behind : (list : ℕ) (d : Chunk) (cs : List Chunk) (found : Option Chunk) → nat_lt d.up_to list ≡ true → holder list (d ∷ cs) ≡ found → holder list cs ≡ found
held_behind list d cs found before h = sym (cond-true (nat_lt d.up_to list) (holder list cs) (Some d) before) ∙ h

-- a chunk made anew with a span makes all runs with it
pub put_is : (span : Span) (low : ℕ) (cs : List Chunk) (c fresh : Chunk) → Parted low cs → holder span.object cs ≡ Some c → fresh.runs.items ≡ with_span span c.runs.items → flat (put span.object fresh cs) ≡ with_span span (flat cs)
put_is span low [] c fresh parted h is = cc
put_is span low (d ∷ cs) c fresh parted h is = elim (cases_Bool (nat_lt d.up_to span.object)) [
  | inl before ↦
      ap flat (cond-true (nat_lt d.up_to span.object) _ _ before)
      ∙ ap (λ xs. d.runs.items ++ xs) (put_is span (d.up_to + 1) cs c fresh parted.2 (held_behind span.object d cs (Some c) before h) is)
      ∙ sym (past_earlier span d.runs.items (flat cs) (all_earlier low d.up_to span.object d.runs.items (ltb-true _ _ before) parted.1))
  | inr here ↦ (let same : d ≡ c = held_here span.object d c cs here h in
      let le : span.object ≤ d.up_to = ltb-false _ _ here in
      ap flat (cond-false (nat_lt d.up_to span.object) _ _ here)
      ∙ ap (λ xs. xs ++ flat cs) (is ∙ ap (λ (x : Chunk). with_span span x.runs.items) (sym same))
      ∙ sym (before_back span d.runs.items (flat cs) (behind_later (d.up_to + 1) span.object cs (omega arith) parted.2)))
]

pub put_parted : (span : Span) (low : ℕ) (cs : List Chunk) (c fresh : Chunk) → low ≤ span.object → Parted low cs → holder span.object cs ≡ Some c → fresh.up_to ≡ c.up_to → fresh.runs.items ≡ with_span span c.runs.items → Parted low (put span.object fresh cs)
put_parted span low [] c fresh le parted h up is = tt
put_parted span low (d ∷ cs) c fresh le parted h up is = elim (cases_Bool (nat_lt d.up_to span.object)) [
  | inl before ↦ (let lt : d.up_to < span.object = ltb-true _ _ before in
      subst (Parted low) (sym (cond-true (nat_lt d.up_to span.object) _ _ before))
      (parted.0, parted.1, put_parted span (d.up_to + 1) cs c fresh (omega arith) parted.2 (held_behind span.object d cs (Some c) before h) up is))
  | inr here ↦ (let same : d ≡ c = held_here span.object d c cs here h in
      let high : span.object ≤ d.up_to = ltb-false _ _ here in
      let top : d.up_to ≡ fresh.up_to = ap (λ (x : Chunk). x.up_to) same ∙ sym up in
      let runs : with_span span d.runs.items ≡ fresh.runs.items = ap (λ (x : Chunk). with_span span x.runs.items) same ∙ sym is in
      let within : AreWithin low d.up_to (with_span span d.runs.items) = all_with_span (λ run. (low ≤ run.object) × (run.object ≤ d.up_to)) span d.runs.items (λ x y p q. p) (le, high) parted.1 in
      let P : ℕ → List Span → Type 0 = λ n xs. (low ≤ n) × AreWithin low n xs × Parted (n + 1) cs in
      subst (Parted low) (sym (cond-false (nat_lt d.up_to span.object) _ _ here))
      (subst (λ xs. P fresh.up_to xs) runs (subst (λ n. P n (with_span span d.runs.items)) top (parted.0, within, parted.2))))
]

none_earlier : (list : ℕ) (runs : List Span) → AllByRecursion (λ run. run.object < list) runs → filter (span_is_of list) runs ≡ []
none_earlier list [] all = refl
none_earlier list (run ∷ runs) all =
    let lt : run.object < list = all.0 in
    cond-false (run.object == list) _ _ (ne_eqb run.object list (λ (e : run.object ≡ list). omega arith)) ∙ none_earlier list runs all.1

none_later : (list : ℕ) (runs : List Span) → AllByRecursion (λ run. list < run.object) runs → filter (span_is_of list) runs ≡ []
none_later list [] all = refl
none_later list (run ∷ runs) all =
    let lt : list < run.object = all.0 in
    cond-false (run.object == list) _ _ (ne_eqb run.object list (λ (e : run.object ≡ list). omega arith)) ∙ none_later list runs all.1

-- a list's runs are in the chunk that holds it
pub of_holder : (list low : ℕ) (cs : List Chunk) (c : Chunk) → Parted low cs → holder list cs ≡ Some c → filter (span_is_of list) (flat cs) ≡ filter (span_is_of list) c.runs.items
of_holder list low [] c parted h = cc
of_holder list low (d ∷ cs) c parted h = elim (cases_Bool (nat_lt d.up_to list)) [
  | inl before ↦
      filter-append (span_is_of list) d.runs.items (flat cs)
      ∙ ap (λ xs. xs ++ filter (span_is_of list) (flat cs)) (none_earlier list d.runs.items (all_earlier low d.up_to list d.runs.items (ltb-true _ _ before) parted.1))
      ∙ of_holder list (d.up_to + 1) cs c parted.2 (held_behind list d cs (Some c) before h)
  | inr here ↦ (let same : d ≡ c = held_here list d c cs here h in
      let le : list ≤ d.up_to = ltb-false _ _ here in
      filter-append (span_is_of list) d.runs.items (flat cs)
      ∙ ap (λ xs. filter (span_is_of list) d.runs.items ++ xs) (none_later list (flat cs) (behind_later (d.up_to + 1) list cs (omega arith) parted.2))
      ∙ append-nil (filter (span_is_of list) d.runs.items)
      ∙ ap (λ (x : Chunk). filter (span_is_of list) x.runs.items) same)
]

pub of_none : (list low : ℕ) (cs : List Chunk) → Parted low cs → holder list cs ≡ None → filter (span_is_of list) (flat cs) ≡ []
of_none list low [] parted h = refl
of_none list low (d ∷ cs) parted h = elim (cases_Bool (nat_lt d.up_to list)) [
  | inl before ↦
      filter-append (span_is_of list) d.runs.items (flat cs)
      ∙ ap (λ xs. xs ++ filter (span_is_of list) (flat cs)) (none_earlier list d.runs.items (all_earlier low d.up_to list d.runs.items (ltb-true _ _ before) parted.1))
      ∙ of_none list (d.up_to + 1) cs parted.2 (held_behind list d cs None before h)
  | inr here ↦ (let e : Some d ≡ None = sym (cond-false (nat_lt d.up_to list) (holder list cs) (Some d) here) ∙ h in cc)
]

holder_put : (list : ℕ) (cs : List Chunk) (c fresh : Chunk) → holder list cs ≡ Some c → fresh.up_to ≡ c.up_to → holder list (put list fresh cs) ≡ Some fresh
holder_put list [] c fresh h up = cc
holder_put list (d ∷ cs) c fresh h up = elim (cases_Bool (nat_lt d.up_to list)) [
  | inl before ↦ ap (holder list) (cond-true (nat_lt d.up_to list) _ _ before) ∙ cond-true (nat_lt d.up_to list) _ _ before ∙ holder_put list cs c fresh (held_behind list d cs (Some c) before h) up
  | inr here ↦ (let same : d ≡ c = held_here list d c cs here h in
      ap (holder list) (cond-false (nat_lt d.up_to list) _ _ here)
      ∙ cond-false (nat_lt fresh.up_to list) _ _ (ap (λ n. nat_lt n list) (up ∙ ap (λ (x : Chunk). x.up_to) (sym same)) ∙ here))
]

count_own : (floor list : ℕ) (runs : List Span) → count_by (is_live_in floor list) runs ≡ count_by (is_live_in floor list) (filter (span_is_of list) runs)
count_own floor list [] = refl
count_own floor list (run ∷ runs) =
    let rest : count_by (is_live_in floor list) runs ≡ count_by (is_live_in floor list) (filter (span_is_of list) runs) = count_own floor list runs in
    let a : count_by (is_live_in floor list) (run ∷ runs) ≡ tally (is_live_in floor list run) + count_by (is_live_in floor list) runs = count_cons (is_live_in floor list) run runs in
    elim (cases_Bool (run.object == list)) [
      | inl own ↦ (let b : count_by (is_live_in floor list) (run ∷ filter (span_is_of list) runs) ≡ tally (is_live_in floor list run) + count_by (is_live_in floor list) (filter (span_is_of list) runs) = count_cons (is_live_in floor list) run (filter (span_is_of list) runs) in
          let whole : count_by (is_live_in floor list) (filter (span_is_of list) (run ∷ runs)) ≡ count_by (is_live_in floor list) (run ∷ filter (span_is_of list) runs) = ap (count_by (is_live_in floor list)) (cond-true (run.object == list) _ _ own) in
          omega arith)
      | inr other ↦ (let none : tally (is_live_in floor list run) ≡ 0 = ap tally (and_left (run.object == list) (nat_le floor run.last) other) in
          let whole : count_by (is_live_in floor list) (filter (span_is_of list) (run ∷ runs)) ≡ count_by (is_live_in floor list) (filter (span_is_of list) runs) = ap (count_by (is_live_in floor list)) (cond-false (run.object == list) _ _ other) in
          omega arith)
    ]

-- a list's runs are counted in the chunk that is put for it
pub count_in_put : (floor list : ℕ) (cs : List Chunk) (c fresh : Chunk) → holder list cs ≡ Some c → fresh.up_to ≡ c.up_to → Parted 0 (put list fresh cs) → count_by (is_live_in floor list) (flat (put list fresh cs)) ≡ count_by (is_live_in floor list) fresh.runs.items
count_in_put floor list cs c fresh h up parted =
    count_own floor list (flat (put list fresh cs))
    ∙ ap (count_by (is_live_in floor list)) (of_holder list 0 (put list fresh cs) fresh parted (holder_put list cs c fresh h up))
    ∙ sym (count_own floor list fresh.runs.items)

-- how many runs another chunk makes
pub put_length : (list : ℕ) (cs : List Chunk) (c fresh : Chunk) → holder list cs ≡ Some c → length (flat (put list fresh cs)) + length c.runs.items ≡ length (flat cs) + length fresh.runs.items
put_length list [] c fresh h = cc
put_length list (d ∷ cs) c fresh h = elim (cases_Bool (nat_lt d.up_to list)) [
  | inl before ↦ (let rest : length (flat (put list fresh cs)) + length c.runs.items ≡ length (flat cs) + length fresh.runs.items = put_length list cs c fresh (held_behind list d cs (Some c) before h) in
      let a : length (flat (put list fresh (d ∷ cs))) ≡ length d.runs.items + length (flat (put list fresh cs)) = ap (λ xs. length (flat xs)) (cond-true (nat_lt d.up_to list) _ _ before) ∙ length-append d.runs.items (flat (put list fresh cs)) in
      let b : length (flat (d ∷ cs)) ≡ length d.runs.items + length (flat cs) = length-append d.runs.items (flat cs) in
      omega arith)
  | inr here ↦ (let same : length d.runs.items ≡ length c.runs.items = ap (λ (x : Chunk). length x.runs.items) (held_here list d c cs here h) in
      let a : length (flat (put list fresh (d ∷ cs))) ≡ length fresh.runs.items + length (flat cs) = ap (λ xs. length (flat xs)) (cond-false (nat_lt d.up_to list) _ _ here) ∙ length-append fresh.runs.items (flat cs) in
      let b : length (flat (d ∷ cs)) ≡ length d.runs.items + length (flat cs) = length-append d.runs.items (flat cs) in
      omega arith)
]

pub held_length : (list : ℕ) (cs : List Chunk) (c : Chunk) → holder list cs ≡ Some c → length c.runs.items ≤ length (flat cs)
held_length list [] c h = cc
held_length list (d ∷ cs) c h =
    let b : length (flat (d ∷ cs)) ≡ length d.runs.items + length (flat cs) = length-append d.runs.items (flat cs) in
    elim (cases_Bool (nat_lt d.up_to list)) [
      | inl before ↦ (let rest : length c.runs.items ≤ length (flat cs) = held_length list cs c (held_behind list d cs (Some c) before h) in omega arith)
      | inr here ↦ (let same : length d.runs.items ≡ length c.runs.items = ap (λ (x : Chunk). length x.runs.items) (held_here list d c cs here h) in omega arith)
    ]

-- A chunk without the runs below the floor, put in place of one: where no other run is below it, all runs are those
-- that reach it.
pub put_sifted : (floor list : ℕ) (cs : List Chunk) (whole fresh : Chunk) → AllEndFrom floor (flat cs) → fresh.runs.items ≡ filter (is_live floor) whole.runs.items → flat (put list fresh cs) ≡ filter (is_live floor) (flat (put list whole cs))
put_sifted floor list [] whole fresh from is = refl
put_sifted floor list (d ∷ cs) whole fresh from is =
    let front : AllEndFrom floor d.runs.items = all_front _ d.runs.items (flat cs) from in
    let back : AllEndFrom floor (flat cs) = all_back _ d.runs.items (flat cs) from in
    elim (cases_Bool (nat_lt d.up_to list)) [
      | inl before ↦
          ap flat (cond-true (nat_lt d.up_to list) _ _ before)
          ∙ ap (λ xs. d.runs.items ++ xs) (put_sifted floor list cs whole fresh back is)
          ∙ ap (λ xs. xs ++ filter (is_live floor) (flat (put list whole cs))) (sym (all_live floor d.runs.items front))
          ∙ sym (filter-append (is_live floor) d.runs.items (flat (put list whole cs)))
          ∙ ap (λ xs. filter (is_live floor) (flat xs)) (sym (cond-true (nat_lt d.up_to list) _ _ before))
      | inr here ↦
          ap flat (cond-false (nat_lt d.up_to list) _ _ here)
          ∙ ap (λ xs. xs ++ flat cs) is
          ∙ ap (λ xs. filter (is_live floor) whole.runs.items ++ xs) (sym (all_live floor (flat cs) back))
          ∙ sym (filter-append (is_live floor) whole.runs.items (flat cs))
          ∙ ap (λ xs. filter (is_live floor) (flat xs)) (sym (cond-false (nat_lt d.up_to list) _ _ here))
    ]

pub put_within : (low list : ℕ) (cs : List Chunk) (floor : ℕ) (whole fresh : Chunk) → fresh.up_to ≡ whole.up_to → fresh.runs.items ≡ filter (is_live floor) whole.runs.items → Parted low (put list whole cs) → Parted low (put list fresh cs)
put_within low list [] floor whole fresh up is parted = tt
put_within low list (d ∷ cs) floor whole fresh up is parted = elim (cases_Bool (nat_lt d.up_to list)) [
  | inl before ↦ (let p : Parted low (d ∷ put list whole cs) = subst (Parted low) (cond-true (nat_lt d.up_to list) _ _ before) parted in
      subst (Parted low) (sym (cond-true (nat_lt d.up_to list) _ _ before)) (p.0, p.1, put_within (d.up_to + 1) list cs floor whole fresh up is p.2))
  | inr here ↦ (let p : Parted low (whole ∷ cs) = subst (Parted low) (cond-false (nat_lt d.up_to list) _ _ here) parted in
      let P : ℕ → List Span → Type 0 = λ n xs. (low ≤ n) × AreWithin low n xs × Parted (n + 1) cs in
      let within : AreWithin low whole.up_to (filter (is_live floor) whole.runs.items) = all_filter (λ run. (low ≤ run.object) × (run.object ≤ whole.up_to)) (is_live floor) whole.runs.items p.1 in
      subst (Parted low) (sym (cond-false (nat_lt d.up_to list) _ _ here))
      (subst (λ xs. P fresh.up_to xs) (sym is) (subst (λ n. P n (filter (is_live floor) whole.runs.items)) (sym up) (p.0, within, p.2))))
]

pub put_dated : (list : ℕ) (cs : List Chunk) (fresh : Chunk) → AllDated cs → AllEndFrom fresh.earliest fresh.runs.items → AllDated (put list fresh cs)
put_dated list [] fresh dated from = tt
put_dated list (d ∷ cs) fresh dated from = cond_both (nat_lt d.up_to list) _ _ AllDated (λ _. (dated.0, put_dated list cs fresh dated.1 from)) (λ _. (from, dated.1))

-- where the search comes to
pub held_at : (list : ℕ) (cs : List Chunk) (i : ℕ) (d : Chunk) → IsPartitionPoint (λ c. nat_lt c.up_to list ≡ true) (λ c. nat_lt c.up_to list ≡ false) cs i → i < length cs → holder list cs ≡ Some (get_or cs i d)
held_at list [] i d point lt = absurd (omega arith)
held_at list (c ∷ cs) zero d point lt = cond-false (nat_lt c.up_to list) _ _ (point.1 0 c (omega arith) (omega arith))
held_at list (c ∷ cs) (suc i) d point lt =
    cond-true (nat_lt c.up_to list) _ _ (point.0 0 c (omega arith) (omega arith))
    ∙ held_at list cs i d (λ k e low high. point.0 (suc k) e (omega arith) (omega arith), λ k e low high. point.1 (suc k) e (omega arith) (omega arith)) (omega arith)

pub held_nowhere : (list : ℕ) (cs : List Chunk) (i : ℕ) → IsPartitionPoint (λ c. nat_lt c.up_to list ≡ true) (λ c. nat_lt c.up_to list ≡ false) cs i → length cs ≤ i → holder list cs ≡ None
held_nowhere list [] i point le = refl
held_nowhere list (c ∷ cs) zero point le = absurd (omega arith)
held_nowhere list (c ∷ cs) (suc i) point le =
    cond-true (nat_lt c.up_to list) _ _ (point.0 0 c (omega arith) (omega arith))
    ∙ held_nowhere list cs i (λ k e low high. point.0 (suc k) e (omega arith) (omega arith), λ k e low high. point.1 (suc k) e (omega arith) (omega arith)) (omega arith)

pub put_at : (list : ℕ) (cs : List Chunk) (i : ℕ) (fresh : Chunk) → IsPartitionPoint (λ c. nat_lt c.up_to list ≡ true) (λ c. nat_lt c.up_to list ≡ false) cs i → set cs i fresh ≡ put list fresh cs
put_at list [] i fresh point = refl
put_at list (c ∷ cs) zero fresh point = sym (cond-false (nat_lt c.up_to list) _ _ (point.1 0 c (omega arith) (omega arith)))
put_at list (c ∷ cs) (suc i) fresh point =
    ap (λ xs. c ∷ xs) (put_at list cs i fresh (λ k e low high. point.0 (suc k) e (omega arith) (omega arith), λ k e low high. point.1 (suc k) e (omega arith) (omega arith)))
    ∙ sym (cond-true (nat_lt c.up_to list) _ _ (point.0 0 c (omega arith) (omega arith)))

reaches : (low : ℕ) (cs : List Chunk) (k : ℕ) (d : Chunk) → Parted low cs → k < length cs → low ≤ (get_or cs k d).up_to
reaches low [] k d parted lt = absurd (omega arith)
reaches low (c ∷ cs) zero d parted lt = parted.0
reaches low (c ∷ cs) (suc k) d parted lt =
    let le : c.up_to + 1 ≤ (get_or cs k d).up_to = reaches (c.up_to + 1) cs k d parted.2 (omega arith) in
    let first : low ≤ c.up_to = parted.0 in
    omega arith

pub chunks_rise : (low : ℕ) (cs : List Chunk) → Parted low cs → IsNonDecreasingBy (λ c. c.up_to) cs
chunks_rise low [] parted i j d le lt = absurd (omega arith)
chunks_rise low (c ∷ cs) parted zero zero d le lt = omega arith
chunks_rise low (c ∷ cs) parted zero (suc j) d le lt = let more : c.up_to + 1 ≤ (get_or cs j d).up_to = reaches (c.up_to + 1) cs j d parted.2 (omega arith) in omega arith
chunks_rise low (c ∷ cs) parted (suc i) zero d le lt = absurd (omega arith)
chunks_rise low (c ∷ cs) parted (suc i) (suc j) d le lt = chunks_rise (c.up_to + 1) cs parted.2 i j d (omega arith) (omega arith)

pub put_past : (list : ℕ) (cs : List Chunk) (i : ℕ) (fresh : Chunk) → IsPartitionPoint (λ c. nat_lt c.up_to list ≡ true) (λ c. nat_lt c.up_to list ≡ false) cs i → length cs ≤ i → cs ≡ put list fresh cs
put_past list [] i fresh point le = refl
put_past list (c ∷ cs) zero fresh point le = absurd (omega arith)
put_past list (c ∷ cs) (suc i) fresh point le =
    ap (λ xs. c ∷ xs) (put_past list cs i fresh (λ k e low high. point.0 (suc k) e (omega arith) (omega arith), λ k e low high. point.1 (suc k) e (omega arith) (omega arith)) (omega arith))
    ∙ sym (cond-true (nat_lt c.up_to list) _ _ (point.0 0 c (omega arith) (omega arith)))

pub ordered_holder : (list : ℕ) (cs : List Chunk) (c : Chunk) → Ascend (flat cs) → holder list cs ≡ Some c → Ascend c.runs.items
ordered_holder list [] c ordered h = cc
ordered_holder list (d ∷ cs) c ordered h = elim (cases_Bool (nat_lt d.up_to list)) [
  | inl before ↦ ordered_holder list cs c (ordered_back d.runs.items (flat cs) ordered) (held_behind list d cs (Some c) before h)
  | inr here ↦ subst (λ (x : Chunk). Ascend x.runs.items) (held_here list d c cs here h) (ordered_front d.runs.items (flat cs) ordered)
]

-- what holds of all runs holds of those of a chunk
pub all_in_holder : (P : Span → Type 0) (list : ℕ) (cs : List Chunk) (c : Chunk) → AllByRecursion P (flat cs) → holder list cs ≡ Some c → AllByRecursion P c.runs.items
all_in_holder P list [] c all h = cc
all_in_holder P list (d ∷ cs) c all h = elim (cases_Bool (nat_lt d.up_to list)) [
  | inl before ↦ all_in_holder P list cs c (all_back P d.runs.items (flat cs) all) (held_behind list d cs (Some c) before h)
  | inr here ↦ subst (λ (x : Chunk). AllByRecursion P x.runs.items) (held_here list d c cs here h) (all_front P d.runs.items (flat cs) all)
]

-- and the runs of a chunk end from the moment on that it tells
pub dated_holder : (list : ℕ) (cs : List Chunk) (c : Chunk) → AllDated cs → holder list cs ≡ Some c → AllEndFrom c.earliest c.runs.items
dated_holder list [] c dated h = cc
dated_holder list (d ∷ cs) c dated h = elim (cases_Bool (nat_lt d.up_to list)) [
  | inl before ↦ dated_holder list cs c dated.1 (held_behind list d cs (Some c) before h)
  | inr here ↦ subst (λ (x : Chunk). AllEndFrom x.earliest x.runs.items) (held_here list d c cs here h) dated.0
]
