-- Pointers before entries, in two lists: as many as these have, put back one by one or each by a search.
use Rattle.std.proofs.Common.{◌≡◌, ℕ, zero, suc, ◌<◌, ◌≤◌, ◌+◌, ◌-◌, min, Bool, true, false, List, [], ◌∷◌, ◌++◌, length, take, drop, get_or, set, Option, None, inl, inr, refl, sym, ap, subst, ◌∙◌, arith, ⊎_elim}
use Rattle.std.specs.Prelude.{◌==◌, ◌⊎◌, reverse, slice_index}
use Rattle.std.proofs.lemmas.Bool.{cond-true, cond-false, eq-eqb, ne_eqb, cases_eq, cases_lt, cases_Bool}
use Rattle.std.proofs.lemmas.List.{take_all, drop_all, drop_more, length-drop, get_or-set_same, get_or-set_other, length-set, get_or_default, get_or_past}
use Rattle.memchr.specs.Find.{Nowhere, NoneBefore, Passes, is_byte}
use Rattle.s4_types.specs.Pointer.{Place}
use Rattle.time_read.specs.Earlier.{Earlier}
use Rattle.time_read.specs.Undoings.{put_back}
use Rattle.time_read.specs.Within.{IsIn}
use Rattle.time_read.specs.declared.block_ranges.BlockRange.{BlockRange}
use Rattle.time_read.specs.private.EarlierPointers.{joined, first_before}
use Rattle.time_read.proofs.PutBack.{put_back_length, put_back_last}

-- ---- two lists as one

pub joined_length : (ns : List ℕ) (bs : List (Option Place)) → length ns ≡ length bs → length (joined ns bs) ≡ length ns
joined_length [] bs same = refl
joined_length (n ∷ ns) [] same = absurd (omega (arith, same))
joined_length (n ∷ ns) (b ∷ bs) same = let rest = joined_length ns bs (omega (arith, same)) in omega (arith, rest)

pub joined_push : (ns : List ℕ) (bs : List (Option Place)) (n : ℕ) (b : Option Place) → length ns ≡ length bs → joined (ns ++ n ∷ []) (bs ++ b ∷ []) ≡ joined ns bs ++ (record { index = n; before = b }) ∷ []
joined_push [] [] n b same = refl
joined_push [] (c ∷ bs) n b same = absurd (omega (arith, same))
joined_push (m ∷ ns) [] n b same = absurd (omega (arith, same))
joined_push (m ∷ ns) (c ∷ bs) n b same = ap (λ (l : List Earlier). (record { index = m; before = c }) ∷ l) (joined_push ns bs n b (omega (arith, same)))

pub joined_take : (k : ℕ) (ns : List ℕ) (bs : List (Option Place)) → joined (take k ns) (take k bs) ≡ take k (joined ns bs)
joined_take zero [] bs = refl
joined_take zero (n ∷ ns) [] = refl
joined_take zero (n ∷ ns) (b ∷ bs) = refl
joined_take (suc k) [] bs = refl
joined_take (suc k) (n ∷ ns) [] = refl
joined_take (suc k) (n ∷ ns) (b ∷ bs) = ap (λ (l : List Earlier). (record { index = n; before = b }) ∷ l) (joined_take k ns bs)

pub joined_drop : (k : ℕ) (ns : List ℕ) (bs : List (Option Place)) → length ns ≡ length bs → joined (drop k ns) (drop k bs) ≡ drop k (joined ns bs)
joined_drop zero ns bs same = refl
joined_drop (suc k) [] [] same = refl
joined_drop (suc k) [] (b ∷ bs) same = absurd (omega (arith, same))
joined_drop (suc k) (n ∷ ns) [] same = absurd (omega (arith, same))
joined_drop (suc k) (n ∷ ns) (b ∷ bs) same = joined_drop k ns bs (omega (arith, same))

joined_at : (ns : List ℕ) (bs : List (Option Place)) (k m : ℕ) (d : Earlier) → length ns ≡ length bs → k < length ns → get_or (joined ns bs) k d ≡ record { index = get_or ns k m; before = get_or bs k None }
joined_at [] bs k m d same lt = absurd (omega (arith, lt))
joined_at (n ∷ ns) [] k m d same lt = absurd (omega (arith, same))
joined_at (n ∷ ns) (b ∷ bs) zero m d same lt = refl
joined_at (n ∷ ns) (b ∷ bs) (suc k) m d same lt = joined_at ns bs k m d (omega (arith, same)) (omega (arith, lt))

-- ---- put back one by one

-- from one place earlier on, one more is put back
pub one_more_back : (ns : List ℕ) (bs : List (Option Place)) (k m : ℕ) (pointers : List (Option Place)) → length ns ≡ length bs → k < length ns
    → put_back (reverse (drop k (joined ns bs))) pointers ≡ set (put_back (reverse (drop (k + 1) (joined ns bs))) pointers) (get_or ns k m) (get_or bs k None)
one_more_back ns bs k m pointers same lt =
    let here : Earlier = record { index = get_or ns k m; before = get_or bs k None } in
    let long = joined_length ns bs same in
    let split : drop k (joined ns bs) ≡ here ∷ drop (k + 1) (joined ns bs) =
    drop_more (joined ns bs) k here (omega (arith, lt, long)) ∙ ap (λ (p : Earlier). p ∷ drop (k + 1) (joined ns bs)) (joined_at ns bs k m here same lt) in
    ap (λ (l : List Earlier). put_back (reverse l) pointers) split ∙ put_back_last here (drop (k + 1) (joined ns bs)) pointers

rest_is : {X : Type 0} → (k : ℕ) (xs : List X) → take (length xs - k) (drop k xs) ≡ drop k xs
rest_is k xs = take_all (length xs - k) (drop k xs) (omega (arith, length-drop k xs))

-- the pointers from a place on, in two slices
pub joined_from : (k : ℕ) (ns ms : List ℕ) (bs cs : List (Option Place)) (now : List Earlier) → ms ≡ ns → cs ≡ bs → joined ns bs ≡ now → length ns ≡ length bs
    → joined (take (length ms - k) (drop k ms)) (take (length cs - k) (drop k cs)) ≡ drop k now
joined_from k ns ms bs cs now is_ns is_bs view same =
    ap (λ (l : List ℕ). joined l (take (length cs - k) (drop k cs))) (rest_is k ms ∙ ap (λ (l : List ℕ). drop k l) is_ns)
    ∙ ap (λ (l : List (Option Place)). joined (drop k ns) l) (rest_is k cs ∙ ap (λ (l : List (Option Place)). drop k l) is_bs)
    ∙ joined_drop k ns bs same ∙ ap (λ (l : List Earlier). drop k l) view

-- before the last place none is put back
pub back_none : (ns : List ℕ) (bs : List (Option Place)) (pointers : List (Option Place)) → length ns ≡ length bs → pointers ≡ put_back (reverse (drop (length ns) (joined ns bs))) pointers
back_none ns bs pointers same =
    let long : length (joined ns bs) ≡ length ns = joined_length ns bs same in
    sym (ap (λ (l : List Earlier). put_back (reverse l) pointers) (drop_all (length ns) (joined ns bs) (omega (arith, long))))

-- and at each place before one there is one more
pub back_on : (ns : List ℕ) (bs : List (Option Place)) (place m : ℕ) (b : Option Place) (initial pointers : List (Option Place)) → length ns ≡ length bs → 0 < place → place ≤ length ns → b ≡ get_or bs (place - 1) b
    → pointers ≡ put_back (reverse (drop place (joined ns bs))) initial → set pointers (get_or ns (place - 1) m) b ≡ put_back (reverse (drop (place - 1) (joined ns bs))) initial
back_on ns bs place m b initial pointers same positive le is was =
    let next : place - 1 + 1 ≡ place = omega (arith, positive) in
    let value : b ≡ get_or bs (place - 1) None = is ∙ get_or_default bs (place - 1) b None (omega (arith, same, positive, le)) in
    let back : pointers ≡ put_back (reverse (drop (place - 1 + 1) (joined ns bs))) initial = was ∙ ap (λ (n : ℕ). put_back (reverse (drop n (joined ns bs))) initial) (sym next) in
    ap (λ (l : List (Option Place)). set l (get_or ns (place - 1) m) b) back
    ∙ ap (λ (v : Option Place). set (put_back (reverse (drop (place - 1 + 1) (joined ns bs))) initial) (get_or ns (place - 1) m) v) value
    ∙ sym (one_more_back ns bs (place - 1) m initial same (omega (arith, positive, le)))

-- ---- put back by a search

-- where all are put back, at each index it is the first one that counts
pub first_counts : (ps : List Earlier) (n : ℕ) (pointers : List (Option Place)) → n < length pointers → get_or (put_back (reverse ps) pointers) n None ≡ first_before ps n (get_or pointers n None)
first_counts [] n pointers lt = refl
first_counts (p ∷ ps) n pointers lt =
    let rest = put_back (reverse ps) pointers in
    let long : length rest ≡ length pointers = put_back_length (reverse ps) pointers in
    ap (λ (l : List (Option Place)). get_or l n None) (put_back_last p ps pointers)
    ∙ ⊎_elim
    (λ (is : p.index ≡ n).
    ap (λ (k : ℕ). get_or (set rest k p.before) n None) is ∙ get_or-set_same rest n p.before None (omega (arith, lt, long))
    ∙ sym (cond-true (p.index == n) p.before (first_before ps n (get_or pointers n None)) (eq-eqb p.index n is)))
    (λ (other : p.index ≡ n → ⊥).
    get_or-set_other rest p.index n p.before None (λ is. other (sym is)) ∙ first_counts ps n pointers lt
    ∙ sym (cond-false (p.index == n) p.before (first_before ps n (get_or pointers n None)) (ne_eqb p.index n other)))
    (cases_eq p.index n)

not_yes : (b : Bool) → (b ≡ true → ⊥) → b ≡ false
not_yes b other = ⊎_elim (λ (is : b ≡ true). absurd (other is)) (λ (is : b ≡ false). is) (cases_Bool b)

pub none_counts : (ns : List ℕ) (bs : List (Option Place)) (n : ℕ) (present : Option Place) → ((k : ℕ) → k < length ns → (slice_index ns k == n) ≡ true → ⊥) → first_before (joined ns bs) n present ≡ present
none_counts [] bs n present none = refl
none_counts (m ∷ ns) [] n present none = refl
none_counts (m ∷ ns) (b ∷ bs) n present none =
    cond-false (m == n) b (first_before (joined ns bs) n present) (not_yes (m == n) (none 0 (omega arith))) ∙ none_counts ns bs n present (λ k lt. none (suc k) (omega (arith, lt)))

pub found_counts : (ns : List ℕ) (bs : List (Option Place)) (n k : ℕ) (present : Option Place) → length ns ≡ length bs → k < length ns → ((j : ℕ) → j < k → (slice_index ns j == n) ≡ true → ⊥) → (slice_index ns k == n) ≡ true
    → first_before (joined ns bs) n present ≡ get_or bs k None
found_counts [] bs n k present same lt none is = absurd (omega (arith, lt))
found_counts (m ∷ ns) [] n k present same lt none is = absurd (omega (arith, same))
found_counts (m ∷ ns) (b ∷ bs) n zero present same lt none is = cond-true (m == n) b (first_before (joined ns bs) n present) is
found_counts (m ∷ ns) (b ∷ bs) n (suc k) present same lt none is =
    cond-false (m == n) b (first_before (joined ns bs) n present) (not_yes (m == n) (none 0 (omega arith)))
    ∙ found_counts ns bs n k present (omega (arith, same)) (omega (arith, lt)) (λ j low. none (suc j) (omega (arith, low))) is

-- what a search for an index gives is the first one that counts
pub search_none : (ns : List ℕ) (bs : List (Option Place)) (n : ℕ) (present : Option Place) → Nowhere (Passes (is_byte n) ns) 0 (length ns) → present ≡ first_before (joined ns bs) n present
search_none ns bs n present none = sym (none_counts ns bs n present (λ k lt. none k (omega arith) lt))

pub search_found : (ns : List ℕ) (bs : List (Option Place)) (n k : ℕ) (present d : Option Place) → length ns ≡ length bs → NoneBefore (Passes (is_byte n) ns) 0 (length ns) k → Passes (is_byte n) ns k → get_or bs k d ≡ first_before (joined ns bs) n present
search_found ns bs n k present d same found is =
    get_or_default bs k d None (omega (arith, same, found.high)) ∙ sym (found_counts ns bs n k present same found.high (λ j lt. found.before j (omega arith) lt) is)

-- ---- put back by searches, index by index

-- From a first index up to another one each pointer was put back; those from there on are as they were, and each is one or the other.
pub record PutSome (ps : List Earlier) (first index : ℕ) (before now : List (Option Place)) : Type 0 where
  pub past : (k : ℕ) → first ≤ k → k < index → get_or now k None ≡ first_before ps k (get_or before k None)
  pub rest : (k : ℕ) → index ≤ k → get_or now k None ≡ get_or before k None
  pub some : (k : ℕ) → (get_or now k None ≡ first_before ps k (get_or before k None)) ⊎ (get_or now k None ≡ get_or before k None)
  pub count : length now ≡ length before

pub put_back_none : (ps : List Earlier) (first : ℕ) (before : List (Option Place)) → PutSome ps first first before before
put_back_none ps first before = record { past = λ k low high. absurd (omega (arith, low, high)); rest = λ k low. refl; some = λ k. inr refl; count = refl }

pub put_back_more : (ps : List Earlier) (first index : ℕ) (before now next : List (Option Place)) → index < length now → PutSome ps first index before now → next ≡ set now index (first_before ps index (get_or now index None)) → PutSome ps first (index + 1) before next
put_back_more ps first index before now next lt w is =
    let value : Option Place = first_before ps index (get_or now index None) in
    let here : get_or next index None ≡ first_before ps index (get_or before index None) =
    ap (λ (l : List (Option Place)). get_or l index None) is ∙ get_or-set_same now index value None lt ∙ ap (λ (p : Option Place). first_before ps index p) (w.rest index (omega arith)) in
    let other : (k : ℕ) → (k ≡ index → ⊥) → get_or next k None ≡ get_or now k None = λ k apart. ap (λ (l : List (Option Place)). get_or l k None) is ∙ get_or-set_other now index k value None apart in
    record {
      past = λ k low high. elim (cases_eq k index) [
        | inl same ↦ subst (λ (n : ℕ). get_or next n None ≡ first_before ps n (get_or before n None)) (sym same) here
        | inr apart ↦ other k apart ∙ w.past k low (omega arith)
      ];
      rest = λ k low. other k (λ same. omega (arith, low, same)) ∙ w.rest k (omega (arith, low));
      some = λ k. elim (cases_eq k index) [
        | inl same ↦ inl (subst (λ (n : ℕ). get_or next n None ≡ first_before ps n (get_or before n None)) (sym same) here)
        | inr apart ↦ elim (w.some k) [
          | inl was ↦ inl (other k apart ∙ was)
          | inr was ↦ inr (other k apart ∙ was)
        ]
      ];
      count = ap (λ (l : List (Option Place)). length l) is ∙ length-set now index value ∙ w.count;
    }

-- at an index where there is no pointer, none is put back
none_there : (ps : List Earlier) (before now : List (Option Place)) (k : ℕ) → length now ≡ length before → length before ≤ k → get_or now k None ≡ get_or (put_back (reverse ps) before) k None
none_there ps before now k count past =
    let long : length (put_back (reverse ps) before) ≡ length before = put_back_length (reverse ps) before in
    get_or_past now k None (omega (arith, count, past)) ∙ sym (get_or_past (put_back (reverse ps) before) k None (omega (arith, long, past)))

pub put_back_within : (ps : List Earlier) (range : BlockRange) (index end : ℕ) (before now : List (Option Place)) → PutSome ps range.first index before now → end ≡ min range.end (length before) → end ≤ index
    → (k : ℕ) → IsIn range k → get_or now k None ≡ get_or (put_back (reverse ps) before) k None
put_back_within ps range index end before now w is le k inside = elim (cases_lt k (length before)) [
  | inl there ↦ w.past k inside.0 (omega (arith, is, le, there, inside.1)) ∙ sym (first_counts ps k before there)
  | inr past ↦ none_there ps before now k w.count past
]

pub put_back_some : (ps : List Earlier) (first index : ℕ) (before now : List (Option Place)) → PutSome ps first index before now
    → (k : ℕ) → (get_or now k None ≡ get_or (put_back (reverse ps) before) k None) ⊎ (get_or now k None ≡ get_or before k None)
put_back_some ps first index before now w k = elim (cases_lt k (length before)) [
  | inl there ↦ elim (w.some k) [
    | inl was ↦ inl (was ∙ sym (first_counts ps k before there))
    | inr was ↦ inr was
  ]
  | inr past ↦ inl (none_there ps before now k w.count past)
]
