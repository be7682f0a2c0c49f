-- The places of a checkpoint: those of its parts, and the one of its first block.
use Rattle.std.proofs.Common.{◌≡◌, ◌⊎◌, inl, inr, ◌||◌, Bool, true, false, List, [], ◌∷◌, ◌++◌, Option, Some, None, sym, ap, ◌∙◌}
use Rattle.std.specs.Option.{option_to_list}
use Rattle.std.proofs.lemmas.Bool.{cases_Bool, false≢true, or_cases, or_left, or_right, or_parts}
use Rattle.std.proofs.lemmas.List.Folds.{list_any-append}
use Rattle.s4_types.specs.Pointer.{Place}
use Rattle.block_log.specs.Log.{same_place}
use Rattle.block_log.proofs.Places.{same_place_itself}
use Rattle.checkpoint.specs.Held.{is_one_of}

-- Places that the test finds to be one are equal.
abbrev pub OneName : Type 0
OneName = (p q : Place) → same_place p q ≡ true → p ≡ q

-- ---- what is in a list of places

pub in_left : (xs ys : List Place) (q : Place) → is_one_of xs q ≡ true → is_one_of (xs ++ ys) q ≡ true
in_left xs ys q is = list_any-append (λ p. same_place p q) xs ys ∙ or_left (is_one_of xs q) (is_one_of ys q) is

pub in_right : (xs ys : List Place) (q : Place) → is_one_of ys q ≡ true → is_one_of (xs ++ ys) q ≡ true
in_right xs ys q is = list_any-append (λ p. same_place p q) xs ys ∙ or_right (is_one_of xs q) (is_one_of ys q) is

pub in_either : (xs ys : List Place) (q : Place) → is_one_of (xs ++ ys) q ≡ true → (is_one_of xs q ≡ true) ⊎ (is_one_of ys q ≡ true)
in_either xs ys q is = or_cases (is_one_of xs q) (is_one_of ys q) (sym (list_any-append (λ p. same_place p q) xs ys) ∙ is)

pub in_neither : (xs ys : List Place) (q : Place) → is_one_of (xs ++ ys) q ≡ false → (is_one_of xs q ≡ false) × (is_one_of ys q ≡ false)
in_neither xs ys q is = or_parts (is_one_of xs q) (is_one_of ys q) (sym (list_any-append (λ p. same_place p q) xs ys) ∙ is)

-- whether a place is the one
pub tested : (p q : Place) (b : Bool) → is_one_of (p ∷ []) q ≡ b → same_place p q ≡ b
tested p q b is = elim (cases_Bool (same_place p q)) [
  | inl here ↦ here ∙ sym (ap (λ x. x || false) here) ∙ is
  | inr beside ↦ beside ∙ sym (ap (λ x. x || false) beside) ∙ is
]

pub alone : (p : Place) → is_one_of (p ∷ []) p ≡ true
alone p = ap (λ b. b || false) (same_place_itself p)

pub in_option : (a : Option Place) (q : Place) → a ≡ Some q → is_one_of (option_to_list a) q ≡ true
in_option a q is = ap (λ (x : Option Place). is_one_of (option_to_list x) q) is ∙ alone q

pub of_option : OneName → (a : Option Place) (q : Place) → is_one_of (option_to_list a) q ≡ true → a ≡ Some q
of_option one None q is = absurd (false≢true is)
of_option one (Some p) q is = ap (λ (x : Place). Some x) (one p q (tested p q true is))

-- ---- the places of a checkpoint

abbrev pub all_places : Option Place → Option Place → Option Place → Place → List Place
all_places a b c p = option_to_list a ++ (option_to_list b ++ (option_to_list c ++ p ∷ []))

module _ (a b c : Option Place) (p : Place) where
  pub in_one : (q : Place) → a ≡ Some q → is_one_of (all_places a b c p) q ≡ true
  in_one q is = in_left (option_to_list a) (option_to_list b ++ (option_to_list c ++ p ∷ [])) q (in_option a q is)

  pub in_two : (q : Place) → b ≡ Some q → is_one_of (all_places a b c p) q ≡ true
  in_two q is = in_right (option_to_list a) (option_to_list b ++ (option_to_list c ++ p ∷ [])) q (in_left (option_to_list b) (option_to_list c ++ p ∷ []) q (in_option b q is))

  pub in_three : (q : Place) → c ≡ Some q → is_one_of (all_places a b c p) q ≡ true
  in_three q is =
      in_right (option_to_list a) (option_to_list b ++ (option_to_list c ++ p ∷ [])) q
      (in_right (option_to_list b) (option_to_list c ++ p ∷ []) q (in_left (option_to_list c) (p ∷ []) q (in_option c q is)))

  pub in_last : is_one_of (all_places a b c p) p ≡ true
  in_last =
      in_right (option_to_list a) (option_to_list b ++ (option_to_list c ++ p ∷ [])) p
      (in_right (option_to_list b) (option_to_list c ++ p ∷ []) p (in_right (option_to_list c) (p ∷ []) p (alone p)))

  -- which of its places a place is
  pub among : OneName → (q : Place) → is_one_of (all_places a b c p) q ≡ true → (a ≡ Some q) ⊎ ((b ≡ Some q) ⊎ ((c ≡ Some q) ⊎ (p ≡ q)))
  among one q is = elim (in_either (option_to_list a) (option_to_list b ++ (option_to_list c ++ p ∷ [])) q is) [
    | inl here ↦ inl (of_option one a q here)
    | inr rest ↦ (elim (in_either (option_to_list b) (option_to_list c ++ p ∷ []) q rest) [
      | inl here ↦ inr (inl (of_option one b q here))
      | inr last ↦ (elim (in_either (option_to_list c) (p ∷ []) q last) [
        | inl here ↦ inr (inr (inl (of_option one c q here)))
        | inr own ↦ inr (inr (inr (one p q (tested p q true own))))
      ])
    ])
  ]
