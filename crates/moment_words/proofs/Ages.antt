-- What no text says.
use Rattle.std.proofs.Common.{◌≡◌, ◌<◌, ◌≤◌, ◌*◌, ◌==◌, arith, ℕ, List, [], ◌∷◌, ◌++◌, Some, None, Option, inl, inr, refl, sym, ap, ap₂, ◌∙◌}
use Rattle.std.proofs.lemmas.List.{append_cancel_right}
use Rattle.std.specs.Prelude.{if◌then◌else◌}
use Rattle.std.specs.Str.Parse.{digits_value, without_leading_plus}
use Rattle.moment_words.specs.Words.{IsAge, IsAgeIn, IsMomentWord, IsNo, IsNumber, letter_of, micros_of, time_of}
use Rattle.moment_words.specs.declared.words.AgeUnit.{AgeUnit}
use Rattle.moment_words.specs.declared.words.AgeUnit.TheVariants.{Second, Minute, Hour, Day, Week}
use Rattle.moment_words.specs.declared.words.MomentWord.{MomentWord}
use Rattle.moment_words.specs.declared.words.MomentWord.TheVariants.{Moment, Time}

-- a text that is no age in any unit is no age
pub no_age : (text : List ℕ) → IsNo (IsAgeIn Second text) → IsNo (IsAgeIn Minute text) → IsNo (IsAgeIn Hour text) → IsNo (IsAgeIn Day text)
    → IsNo (IsAgeIn Week text) → IsNo (IsAge text)
no_age text s m h d w n (Second, is) = s n is
no_age text s m h d w n (Minute, is) = m n is
no_age text s m h d w n (Hour, is) = h n is
no_age text s m h d w n (Day, is) = d n is
no_age text s m h d w n (Week, is) = w n is

-- a text that is no number and no time, and no age of a time, says no moment
pub no_word : (now : ℕ) (text : List ℕ) (time : Option ℕ) → IsNo (IsNumber text) → time ≡ time_of text → time ≡ None
    → ((age : ℕ) → IsAge text age → age ≤ now → ⊥) → (word : MomentWord) → IsMomentWord now text word → ⊥
no_word now text time number is none far (Moment moment) h = number moment h
no_word now text time number is none far (Time moment) (not, inl h) = let e : None ≡ Some moment = sym none ∙ is ∙ h in absurd cc
no_word now text time number is none far (Time moment) (not, inr h) = far h.1.0 h.1.1 (omega (arith, h.1.2))

-- the microseconds of a unit, by its letter
abbrev micros_by : ℕ → ℕ
micros_by letter =
    if letter == 115 then 1_000_000
    else (if letter == 109 then 60_000_000
    else (if letter == 104 then 3_600_000_000
    else (if letter == 100 then 86_400_000_000
    else 604_800_000_000)))

by_letter : (unit : AgeUnit) → micros_of unit ≡ micros_by (letter_of unit)
by_letter Second = refl
by_letter Minute = refl
by_letter Hour = refl
by_letter Day = refl
by_letter Week = refl

cons_none : {X : Type 0} (x : X) (xs : List X) → x ∷ xs ≡ [] → ⊥
cons_none x xs h = absurd cc

-- lists that end in one element are the same before it, and in it
same_ends : (xs ys : List ℕ) (x y : ℕ) → xs ++ x ∷ [] ≡ ys ++ y ∷ [] → (xs ≡ ys) × (x ≡ y)
same_ends [] [] x y e = (refl, cc)
same_ends [] (z ∷ []) x y e = let none : [] ≡ y ∷ [] = cc in absurd (cons_none y [] (sym none))
same_ends [] (z ∷ (w ∷ ws)) x y e = let none : [] ≡ w ∷ (ws ++ y ∷ []) = cc in absurd (cons_none w (ws ++ y ∷ []) (sym none))
same_ends (z ∷ []) [] x y e = let none : x ∷ [] ≡ [] = cc in absurd (cons_none x [] none)
same_ends (z ∷ (w ∷ ws)) [] x y e = let none : w ∷ (ws ++ x ∷ []) ≡ [] = cc in absurd (cons_none w (ws ++ x ∷ []) none)
same_ends (z ∷ zs) (w ∷ ws) x y e =
    let tails : zs ++ x ∷ [] ≡ ws ++ y ∷ [] = cc in
    let heads : z ≡ w = cc in
    let more = same_ends zs ws x y tails in
    let same : zs ≡ ws = more.0 in (cc, more.1)

same_age_in : (text : List ℕ) (u v : AgeUnit) (a b : ℕ) → IsAgeIn u text a → IsAgeIn v text b → a ≡ b
same_age_in text u v a b h k =
    let ends = same_ends h.0 k.0 (letter_of u) (letter_of v) (sym h.2 ∙ k.2) in
    let counts : h.1 ≡ k.1 = h.3.1 ∙ ap (λ d. digits_value 10 (without_leading_plus d)) ends.0 ∙ sym k.3.1 in
    let units : micros_of u ≡ micros_of v = by_letter u ∙ ap micros_by ends.1 ∙ sym (by_letter v) in
    h.4 ∙ ap₂ (λ n m. n * m) counts units ∙ sym k.4

-- a text says one age
pub same_age : (text : List ℕ) (a b : ℕ) → IsAge text a → IsAge text b → a ≡ b
same_age text a b h k = same_age_in text h.0 k.0 a b h.1 k.1

-- the digits before a unit's letter are what is before it
pub same_digits : (text digits others : List ℕ) (unit : AgeUnit) → text ≡ digits ++ letter_of unit ∷ [] → text ≡ others ++ letter_of unit ∷ [] → others ≡ digits
same_digits text digits others unit is also = append_cancel_right others digits (letter_of unit ∷ []) (sym also ∙ is)

-- each letter is one byte
pub letter_is_ascii : (unit : AgeUnit) → letter_of unit < 128
letter_is_ascii Second = omega arith
letter_is_ascii Minute = omega arith
letter_is_ascii Hour = omega arith
letter_is_ascii Day = omega arith
letter_is_ascii Week = omega arith
