-- What the texts for a drive that is made say.
use Rattle.std.proofs.Common.{◌≡◌, ◌*◌, ℕ, List, [], ◌∷◌, ◌++◌, Option, Some, None, Result, IfOk, refl, sym, ap, ap₂, ◌∙◌, subst, option_map}
use Rattle.std.specs.Prelude.{if◌then◌else◌, ◌==◌, OnErr}
use Rattle.std.specs.Str.Parse.{digits_value, without_leading_plus}
use Rattle.std.specs.Borrow.{Bor}
use Rattle.clap.specs.Walk.{Row, Text, first_of}
use Rattle.moment_words.specs.Words.{IsAgeIn, letter_of, micros_of}
use Rattle.moment_words.specs.declared.words.AgeUnit.{AgeUnit}
use Rattle.moment_words.specs.declared.words.AgeUnit.TheVariants.{Second, Minute, Hour, Day, Week}
use Rattle.service_time.specs.Durations.{IsDuration}
use Rattle.s4d_command.specs.CommandLine.{IsNumber}
use Rattle.s4serve_command.specs.CommandLine.{IsCreatedAt, IsCreation, IsDurationAsked, IsDurationAt, IsNumberAsked}
use Rattle.s4serve_command.specs.declared.creating.Creation.{Creation}

-- the microseconds of a unit, by its letter
abbrev micros_by : ℕ → ℕ
micros_by letter =
    if letter == 115 then 1_000_000
    else (if letter == 109 then 60_000_000
    else (if letter == 104 then 3_600_000_000
    else (if letter == 100 then 86_400_000_000
    else 604_800_000_000)))

by_letter : (unit : AgeUnit) → micros_of unit ≡ micros_by (letter_of unit)
by_letter Second = refl
by_letter Minute = refl
by_letter Hour = refl
by_letter Day = refl
by_letter Week = refl

cons_none : {X : Type 0} (x : X) (xs : List X) → x ∷ xs ≡ [] → ⊥
cons_none x xs h = absurd cc

-- lists that end in one element are the same before it, and in it
same_ends : (xs ys : List ℕ) (x y : ℕ) → xs ++ x ∷ [] ≡ ys ++ y ∷ [] → (xs ≡ ys) × (x ≡ y)
same_ends [] [] x y e = (refl, cc)
same_ends [] (z ∷ []) x y e = let none : [] ≡ y ∷ [] = cc in absurd (cons_none y [] (sym none))
same_ends [] (z ∷ (w ∷ ws)) x y e = let none : [] ≡ w ∷ (ws ++ y ∷ []) = cc in absurd (cons_none w (ws ++ y ∷ []) (sym none))
same_ends (z ∷ []) [] x y e = let none : x ∷ [] ≡ [] = cc in absurd (cons_none x [] none)
same_ends (z ∷ (w ∷ ws)) [] x y e = let none : w ∷ (ws ++ x ∷ []) ≡ [] = cc in absurd (cons_none w (ws ++ x ∷ []) none)
same_ends (z ∷ zs) (w ∷ ws) x y e =
    let tails : zs ++ x ∷ [] ≡ ws ++ y ∷ [] = cc in
    let heads : z ≡ w = cc in
    let more = same_ends zs ws x y tails in
    let same : zs ≡ ws = more.0 in (cc, more.1)

same_age : (text : Text) (u v : AgeUnit) (a b : ℕ) → IsAgeIn u text a → IsAgeIn v text b → a ≡ b
same_age text u v a b h k =
    let ends = same_ends h.0 k.0 (letter_of u) (letter_of v) (sym h.2 ∙ k.2) in
    let counts : h.1 ≡ k.1 = h.3.1 ∙ ap (λ d. digits_value 10 (without_leading_plus d)) ends.0 ∙ sym k.3.1 in
    let units : micros_of u ≡ micros_of v = by_letter u ∙ ap micros_by ends.1 ∙ sym (by_letter v) in
    h.4 ∙ ap₂ (λ n m. n * m) counts units ∙ sym k.4

-- a text says one duration
pub same_duration : (text : Text) (a b : ℕ) → IsDuration text a → IsDuration text b → a ≡ b
same_duration text a b h k = same_age text h.0 k.0 a b h.1 k.1

-- texts that say no drive make none
pub not_created : (frames keep : Text) → ((creation : Creation) → IsCreation frames keep creation → ⊥)
    → (creation : Option Creation) → IsCreatedAt (Some frames) (Some keep) creation → ⊥
not_created frames keep never None h = h
not_created frames keep never (Some creation) h = never creation h

-- the same of texts that were found
pub not_created_at : (o p : Option (Bor Text)) (frames keep : Bor Text) → o ≡ Some frames → p ≡ Some keep
    → ((creation : Creation) → IsCreation frames.now keep.now creation → ⊥)
    → (creation : Option Creation) → IsCreatedAt (option_map (λ t. t.now) o) (option_map (λ t. t.now) p) creation → ⊥
not_created_at o p frames keep is also never creation h =
    not_created frames.now keep.now never creation
    (subst (λ (x : Option (Bor Text)). IsCreatedAt (Some frames.now) (option_map (λ t. t.now) x) creation) also
    (subst (λ (x : Option (Bor Text)). IsCreatedAt (option_map (λ t. t.now) x) (option_map (λ t. t.now) p) creation) is h))

-- a text that says no duration is none that was asked for
pub no_duration : (name : Text) (rows : List Row) (word : Text) → first_of name rows ≡ Some word → ((micros : ℕ) → IsDuration word micros → ⊥)
    → (duration : Option ℕ) → IsDurationAsked name rows duration → ⊥
no_duration name rows word is never None h = let e : Some word ≡ None = sym is ∙ h in absurd cc
no_duration name rows word is never (Some micros) h = never micros (subst (λ (x : Option Text). IsDurationAt x micros) is h)

-- the same of a text that says no number
pub no_number : (name : Text) (rows : List Row) (word : Text) → first_of name rows ≡ Some word → ((n : ℕ) → IsNumber (Some word) n → ⊥)
    → (number : Option ℕ) → IsNumberAsked name rows number → ⊥
no_number name rows word is never None h = let e : Some word ≡ None = sym is ∙ h in absurd cc
no_number name rows word is never (Some n) h = never n (subst (λ (x : Option Text). IsNumber x n) is h)

module _ {E : Type 0} where
  pub asked_at : (o p q s : Option Text) (r : Result (Option Creation) E) → o ≡ q → p ≡ s → IfOk r (IsCreatedAt o p) → IfOk r (IsCreatedAt q s)
  asked_at o p q s r is also h =
      subst (λ (x : Option Text). IfOk r (IsCreatedAt q x)) also (subst (λ (x : Option Text). IfOk r (IsCreatedAt x p)) is h)

  pub usage_at : (o p q s : Option Text) (r : Result (Option Creation) E) → o ≡ q → p ≡ s → OnErr r ((creation : Option Creation) → IsCreatedAt o p creation → ⊥)
      → OnErr r ((creation : Option Creation) → IsCreatedAt q s creation → ⊥)
  usage_at o p q s r is also h =
      subst (λ (x : Option Text). OnErr r ((creation : Option Creation) → IsCreatedAt q x creation → ⊥)) also
      (subst (λ (x : Option Text). OnErr r ((creation : Option Creation) → IsCreatedAt x p creation → ⊥)) is h)
