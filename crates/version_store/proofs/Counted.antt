-- The names that data blocks have: given one by one, and taken away.
use Rattle.std.proofs.Common.{◌≡◌, ◌⊎◌, inl, inr, ℕ, ◌+◌, ◌-◌, ◌≤◌, ◌<◌, ◌==◌, ◌&&◌, leb, cond, Bool, true, false, List, [], ◌∷◌, length, take, get_or, Option, Some, None, refl, sym, ap, subst, ◌∙◌, arith}
use Rattle.std.proofs.lemmas.Bool.{cases_Bool, cond-true, cond-false, eq-eqb, ne_eqb, ltb-true, ltb-false, leb-true, leb-false}
use Rattle.std.proofs.lemmas.List.Sums.{sum_by-cons, sum_by_more}
use Rattle.s4_types.specs.Pointer.{Place}
use Rattle.block_log.specs.Log.{Log, Stored, same_place, without, with_more, held_less, is_data, dropped, dropped_by, NamesAreOfData}
use Rattle.version_store.specs.Store.{is_at, times_led}

abbrev pub OnePlace : Type 0
OnePlace = (p q : Place) → same_place p q ≡ true → p ≡ q

-- ---- lists

-- one pointer
pub times_one : (q : Place) (x : Option Place) → times_led q (x ∷ []) ≡ cond (is_at x q) 1 0
times_one q x = sum_by-cons (λ (y : Option Place). cond (is_at y q) 1 0) x [] ∙ omega arith

-- one pointer more
pub times_more : (q : Place) (xs : List (Option Place)) (i : ℕ) → i < length xs → times_led q (take (i + 1) xs) ≡ times_led q (take i xs) + times_led q (get_or xs i None ∷ [])
times_more q xs i lt =
    sum_by_more (λ (y : Option Place). cond (is_at y q) 1 0) xs i None lt
    ∙ ap (λ (n : ℕ). times_led q (take i xs) + n) (sym (times_one q (get_or xs i None)))

-- ---- one name more

pub more_is : (b : Bool) (n : ℕ) → cond b (1 + n) n ≡ cond b 1 0 + n
more_is true n = omega arith
more_is false n = omega arith

pub held_one : (named : Place → ℕ) (p q : Place) → with_more named p q ≡ times_led q (Some p ∷ []) + named q
held_one named p q = more_is (same_place p q) (named q) ∙ ap (λ (n : ℕ). n + named q) (sym (times_one q (Some p)))

pub held_none : (named : Place → ℕ) (q : Place) → named q ≡ times_led q (None ∷ []) + named q
held_none named q = omega (arith, times_one q None)

-- ---- one name less

fewer_is : (b : Bool) (n : ℕ) → cond b (n - 1) n ≡ n - cond b 1 0
fewer_is true n = refl
fewer_is false n = omega arith

-- nothing is named where nothing of of_data is
pub unnamed : (log : Log) → NamesAreOfData log → (q : Place) → is_data (log.held q) ≡ false → log.named q ≡ 0
unnamed log rule q none = let at : log.named q ≤ 0 = ltb-false 0 (log.named q) (rule q ∙ none) in omega (arith, at)

pub held_data_is_named : (log : Log) → NamesAreOfData log → (q : Place) → is_data (log.held q) ≡ true → 0 < log.named q
held_data_is_named log rule q is = ltb-true 0 (log.named q) (rule q ∙ is)

-- nothing goes where nothing is
nothing_less : (b : Bool) (n : ℕ) → (b ≡ true → n ≡ 0) → n ≡ n - cond b 1 0
nothing_less true n none = let z = none refl in omega (arith, z)
nothing_less false n none = omega arith

module _ (one : OnePlace) (log : Log) (rule : NamesAreOfData log) (p : Place) where
  none_here : is_data (log.held p) ≡ false → (q : Place) → same_place p q ≡ true → log.named q ≡ 0
  none_here none q same = unnamed log rule q (subst (λ (r : Place). is_data (log.held r) ≡ false) (one p q same) none)

  pub fewer_named : (q : Place) → (dropped log p).named q ≡ log.named q - times_led q (Some p ∷ [])
  fewer_named q =
      elim (cases_Bool (is_data (log.held p))) [
        | inl is ↦ ap (λ (b : Bool). (dropped_by b log p).named q) is ∙ fewer_is (same_place p q) (log.named q)
        | inr none ↦ ap (λ (b : Bool). (dropped_by b log p).named q) none ∙ nothing_less (same_place p q) (log.named q) (none_here none q)
      ]
      ∙ ap (λ (n : ℕ). log.named q - n) (sym (times_one q (Some p)))

  -- what is held once a data block at p has one name less, seen at p
  less_here : (b : Bool) (q : Place) → same_place p q ≡ true → leb (log.named p) 1 ≡ b → is_data (log.held q) ≡ true → (cond b (without log.held p) log.held) q ≡ cond (is_data (log.held q) && (log.named q - 1) == 0) None (log.held q)
  less_here true q same few of_data =
      cond-true (same_place p q) None (log.held q) same
      ∙ sym (cond-true (is_data (log.held q) && (log.named q - 1) == 0) None (log.held q) (ap (λ (b : Bool). b && (log.named q - 1) == 0) of_data ∙ eq-eqb (log.named q - 1) 0 (let e : log.named p ≡ log.named q = ap log.named (one p q same) in let le = leb-true (log.named p) 1 few in omega (arith, e, le))))
  less_here false q same few of_data =
      sym (cond-false (is_data (log.held q) && (log.named q - 1) == 0) None (log.held q) (ap (λ (b : Bool). b && (log.named q - 1) == 0) of_data ∙ ne_eqb (log.named q - 1) 0 (λ (z : log.named q - 1 ≡ 0). let e : log.named p ≡ log.named q = ap log.named (one p q same) in let lt = leb-false (log.named p) 1 few in omega (arith, e, lt, z))))

  -- and elsewhere
  less_there : (b : Bool) (q : Place) → same_place p q ≡ false → (cond b (without log.held p) log.held) q ≡ log.held q
  less_there true q other = cond-false (same_place p q) None (log.held q) other
  less_there false q other = refl

  -- what is held where the names are as they were
  as_named : (q : Place) → cond (is_data (log.held q) && log.named q == 0) None (log.held q) ≡ log.held q
  as_named q = elim (cases_Bool (is_data (log.held q))) [
    | inl is ↦ cond-false (is_data (log.held q) && log.named q == 0) None (log.held q) (ap (λ (b : Bool). b && log.named q == 0) is ∙ ne_eqb (log.named q) 0 (λ (z : log.named q ≡ 0). let some = held_data_is_named log rule q is in omega (arith, some, z)))
    | inr none ↦ cond-false (is_data (log.held q) && log.named q == 0) None (log.held q) (ap (λ (b : Bool). b && log.named q == 0) none)
  ]

  abbrev Held : ℕ → Place → Option Stored
  Held n q = cond (is_data (log.held q) && n == 0) None (log.held q)

  fewer_held_data : is_data (log.held p) ≡ true → (q : Place) → (held_less log p).held q ≡ Held ((held_less log p).named q) q
  fewer_held_data is q = elim (cases_Bool (same_place p q)) [
    | inl same ↦ less_here (leb (log.named p) 1) q same refl (subst (λ (r : Place). is_data (log.held r) ≡ true) (one p q same) is)
        ∙ ap (λ (n : ℕ). Held n q) (sym (cond-true (same_place p q) (log.named q - 1) (log.named q) same))
    | inr other ↦ less_there (leb (log.named p) 1) q other ∙ sym (as_named q)
        ∙ ap (λ (n : ℕ). Held n q) (sym (cond-false (same_place p q) (log.named q - 1) (log.named q) other))
  ]

  fewer_held_none : log.held p ≡ None → (q : Place) → without log.held p q ≡ Held (log.named q) q
  fewer_held_none none q = elim (cases_Bool (same_place p q)) [
    | inl same ↦ cond-true (same_place p q) None (log.held q) same ∙ sym (ap log.held (sym (one p q same)) ∙ none) ∙ sym (as_named q)
    | inr other ↦ cond-false (same_place p q) None (log.held q) other ∙ sym (as_named q)
  ]

  pub fewer_held : (is_data (log.held p) ≡ true) ⊎ (log.held p ≡ None) → (q : Place) → (dropped log p).held q ≡ Held ((dropped log p).named q) q
  fewer_held it q = elim it [
    | inl is ↦ subst (λ (b : Bool). (dropped_by b log p).held q ≡ Held ((dropped_by b log p).named q) q) (sym is) (fewer_held_data is q)
    | inr none ↦ subst (λ (b : Bool). (dropped_by b log p).held q ≡ Held ((dropped_by b log p).named q) q) (sym (ap is_data none)) (fewer_held_none none q)
  ]

pub all_held : (log : Log) → NamesAreOfData log → (q : Place) → log.held q ≡ cond (is_data (log.held q) && log.named q == 0) None (log.held q)
all_held log rule q = elim (cases_Bool (is_data (log.held q))) [
  | inl is ↦ sym (cond-false (is_data (log.held q) && log.named q == 0) None (log.held q) (ap (λ (b : Bool). b && log.named q == 0) is ∙ ne_eqb (log.named q) 0 (λ (z : log.named q ≡ 0). let some = held_data_is_named log rule q is in omega (arith, some, z))))
  | inr none ↦ sym (cond-false (is_data (log.held q) && log.named q == 0) None (log.held q) (ap (λ (b : Bool). b && log.named q == 0) none))
]
