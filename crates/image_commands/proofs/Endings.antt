-- What the numbers below `MOST_BESIDE` add to a name, by its bytes.
use Rattle.std.proofs.Common.{◌≡◌, ◌≢◌, ◌⊎◌, ◌∙◌, ◌<◌, ◌≤◌, ◌+◌, ◌-◌, ◌*◌, ◌/◌, ◌%◌, ◌==◌, ℕ, Bool, true, false, Decides, List, [], ◌∷◌, ◌++◌, length, drop, get_or, refl, subst, sym, ap, arith, inl, inr, append_assoc}
use Rattle.std.proofs.lemmas.Bool.{cond-true, cond-false, both_ways, eq-eqb, ne_eqb, cases_lt}
use Rattle.std.proofs.lemmas.Fmt.{decimal_digit, decimal_step}
use Rattle.std.proofs.lemmas.List.{append_cancel_left}
use Rattle.std.specs.Prelude.{decimal}
use Rattle.std.specs.Str.Pattern.{FindsTextPrefix, StripsPrefix}
use Rattle.image_commands.specs.Beside.{IsEnding, IsNumbered, numbered}

-- 0 adds nothing
pub by_nothing : (number : ℕ) → number ≡ 0 → numbered number ≡ []
by_nothing number none = cond-true (number == 0) [] (46 ∷ decimal number) (eq-eqb number 0 none)

-- and each other number a full stop and its digits
by_digits : (number : ℕ) → 0 < number → numbered number ≡ 46 ∷ decimal number
by_digits number some = cond-false (number == 0) [] (46 ∷ decimal number) (ne_eqb number 0 (λ e. omega arith))

-- one digit below 10
pub by_one : (number : ℕ) → 0 < number → number < 10 → numbered number ≡ 46 ∷ (48 + number) ∷ []
by_one number some few = by_digits number some ∙ ap (λ digits. 46 ∷ digits) (decimal_digit number few)

-- two below 100
pub by_two : (number : ℕ) → 10 ≤ number → number < 100 → numbered number ≡ 46 ∷ (48 + number / 10) ∷ (48 + number % 10) ∷ []
by_two number some few =
    let tens : decimal (number / 10) ≡ (48 + number / 10) ∷ [] = decimal_digit (number / 10) (omega arith) in
    let both : decimal number ≡ decimal (number / 10) ++ (48 + number % 10) ∷ [] = decimal_step number some (omega arith) in
    by_digits number (omega arith) ∙ ap (λ digits. 46 ∷ digits) (both ∙ ap (λ digits. digits ++ (48 + number % 10) ∷ []) tens)

-- so nothing is an ending
pub no_bytes : IsEnding []
no_bytes = record { number = 0; few = omega arith; ends = refl }

-- and a full stop with a digit from 1
pub one_digit : (digit : ℕ) → 49 ≤ digit → digit ≤ 57 → IsEnding (46 ∷ digit ∷ [])
one_digit digit low high =
    let same : 48 + (digit - 48) ≡ digit = omega arith in
    record { number = digit - 48; few = omega arith; ends = sym (by_one (digit - 48) (omega arith) (omega arith) ∙ ap (λ byte. 46 ∷ byte ∷ []) same) }

-- and one with two, of which the first is from 1
pub two_digits : (tens ones : ℕ) → 49 ≤ tens → tens ≤ 57 → 48 ≤ ones → ones ≤ 57 → IsEnding (46 ∷ tens ∷ ones ∷ [])
two_digits tens ones low high from to =
    let first : 48 + ((tens - 48) * 10 + (ones - 48)) / 10 ≡ tens = omega arith in
    let last : 48 + ((tens - 48) * 10 + (ones - 48)) % 10 ≡ ones = omega arith in
    record {
      number = (tens - 48) * 10 + (ones - 48);
      few = omega arith;
      ends = sym (by_two ((tens - 48) * 10 + (ones - 48)) (omega arith) (omega arith) ∙ ap (λ byte. 46 ∷ byte ∷ (48 + ((tens - 48) * 10 + (ones - 48)) % 10) ∷ []) first ∙ ap (λ byte. 46 ∷ tens ∷ byte ∷ []) last);
    }

-- the bytes that an ending has, and no others
pub record IsOneDigit (ending : List ℕ) : Type 0 where
  pub digit : ℕ
  pub low : 49 ≤ digit
  pub high : digit ≤ 57
  pub is : ending ≡ 46 ∷ digit ∷ []

pub record AreTwoDigits (ending : List ℕ) : Type 0 where
  pub tens : ℕ
  pub ones : ℕ
  pub low : 49 ≤ tens
  pub high : tens ≤ 57
  pub from : 48 ≤ ones
  pub to : ones ≤ 57
  pub is : ending ≡ 46 ∷ tens ∷ ones ∷ []

pub bytes_of_ending : (ending : List ℕ) → IsEnding ending → (ending ≡ []) ⊎ (IsOneDigit ending ⊎ AreTwoDigits ending)
bytes_of_ending ending is = by_size (cases_lt is.number 1) (cases_lt is.number 10)
  where
    by_size : (is.number < 1) ⊎ (1 ≤ is.number) → (is.number < 10) ⊎ (10 ≤ is.number) → (ending ≡ []) ⊎ (IsOneDigit ending ⊎ AreTwoDigits ending)
    by_size (inl none) few = inl (is.ends ∙ by_nothing is.number (omega arith))
    by_size (inr some) (inl few) = inr (inl (record { digit = 48 + is.number; low = omega arith; high = omega arith; is = is.ends ∙ by_one is.number (omega arith) few }))
    by_size (inr some) (inr more) = inr (inr (record {
      tens = 48 + is.number / 10;
      ones = 48 + is.number % 10;
      low = omega arith;
      high = omega (arith, is.few);
      from = omega arith;
      to = omega arith;
      is = is.ends ∙ by_two is.number more is.few;
    }))

-- a name with a number is its front and an ending
pub ended : (front name rest : List ℕ) → name ≡ front ++ rest → IsEnding rest → IsNumbered front name
ended front name rest split is = record { number = is.number; few = is.few; named = split ∙ ap (λ bytes. front ++ bytes) is.ends }

pub ending_of : (front name rest : List ℕ) → name ≡ front ++ rest → IsNumbered front name → IsEnding rest
ending_of front name rest split is = record { number = is.number; few = is.few; ends = append_cancel_left front rest (numbered is.number) (sym split ∙ is.named) }

-- and so is one that follows another front
pub numbered_after : (outer inner name rest : List ℕ) → name ≡ outer ++ rest → IsNumbered inner rest → IsNumbered (outer ++ inner) name
numbered_after outer inner name rest split is = record {
  number = is.number;
  few = is.few;
  named = split ∙ ap (λ bytes. outer ++ bytes) is.named ∙ sym (append_assoc outer inner (numbered is.number));
}

pub numbered_within : (outer inner name rest : List ℕ) → name ≡ outer ++ rest → IsNumbered (outer ++ inner) name → IsNumbered inner rest
numbered_within outer inner name rest split is = record {
  number = is.number;
  few = is.few;
  named = append_cancel_left outer rest (inner ++ numbered is.number) (sym split ∙ is.named ∙ append_assoc outer inner (numbered is.number));
}

-- what is left of a name is what follows its front
pub stripped : (front name rest : List ℕ) → StripsPrefix (FindsTextPrefix front) name rest → name ≡ front ++ rest
stripped front name rest strips =
    let split : name ≡ front ++ drop strips.0 name = strips.1.1 in
    split ∙ ap (λ bytes. front ++ bytes) (sym strips.2)

-- a name that doesn't begin with the front has none
pub other_front : (front name : List ℕ) → ((rest : List ℕ) → name ≢ front ++ rest) → IsNumbered front name → ⊥
other_front front name other is = other (numbered is.number) is.named

pub other_outer : (outer inner name : List ℕ) → ((rest : List ℕ) → name ≢ outer ++ rest) → IsNumbered (outer ++ inner) name → ⊥
other_outer outer inner name other is = other (inner ++ numbered is.number) (is.named ∙ append_assoc outer inner (numbered is.number))

-- what is no ending, by its length and its bytes
pub other_first : (ending : List ℕ) → 0 < length ending → get_or ending 0 0 ≢ 46 → IsEnding ending → ⊥
other_first ending some other is = elim (bytes_of_ending ending is) [
  | inl none ↦ absurd (omega (arith, some, ap length none))
  | inr more ↦ elim more [
    | inl one ↦ other (ap (λ bytes. get_or bytes 0 0) one.is)
    | inr two ↦ other (ap (λ bytes. get_or bytes 0 0) two.is)
  ]
]

pub other_length : (ending : List ℕ) → length ending ≢ 0 → length ending ≢ 2 → length ending ≢ 3 → IsEnding ending → ⊥
other_length ending some longer other is = elim (bytes_of_ending ending is) [
  | inl none ↦ some (ap length none)
  | inr more ↦ elim more [
    | inl one ↦ longer (ap length one.is)
    | inr two ↦ other (ap length two.is)
  ]
]

pub of_none : (ending : List ℕ) → length ending ≡ 0 → IsEnding ending
of_none [] none = no_bytes
of_none (byte ∷ bytes) none = absurd (grind (arith, none))

pub of_two : (ending : List ℕ) (answer : Bool) → length ending ≡ 2 → get_or ending 0 0 ≡ 46 → Decides answer ((49 ≤ get_or ending 1 0) × (get_or ending 1 0 ≤ 57)) → Decides answer (IsEnding ending)
of_two (dot ∷ digit ∷ []) answer two begins decides = (
  (λ right. subst (λ byte. IsEnding (byte ∷ digit ∷ [])) (sym begins) (one_digit digit (decides.0 right).0 (decides.0 right).1)),
  (λ is. elim (bytes_of_ending (dot ∷ digit ∷ []) is) [
    | inl none ↦ absurd (omega (arith, ap length none))
    | inr more ↦ elim more [
      | inl one ↦ decides.1 (omega (arith, one.low, ap (λ bytes. get_or bytes 1 0) one.is), omega (arith, one.high, ap (λ bytes. get_or bytes 1 0) one.is))
      | inr two ↦ absurd (omega (arith, ap length two.is))
    ]
  ]),
)
of_two [] answer two begins decides = absurd (grind (arith, two))
of_two (dot ∷ []) answer two begins decides = absurd (grind (arith, two))
of_two (dot ∷ digit ∷ other ∷ rest) answer two begins decides = absurd (grind (arith, two))

pub of_three : (ending : List ℕ) (answer : Bool) → length ending ≡ 3 → get_or ending 0 0 ≡ 46 → (49 ≤ get_or ending 1 0) × (get_or ending 1 0 ≤ 57) → Decides answer ((48 ≤ get_or ending 2 0) × (get_or ending 2 0 ≤ 57)) → Decides answer (IsEnding ending)
of_three (dot ∷ tens ∷ ones ∷ []) answer three begins first decides = (
  (λ right. subst (λ byte. IsEnding (byte ∷ tens ∷ ones ∷ [])) (sym begins) (two_digits tens ones first.0 first.1 (decides.0 right).0 (decides.0 right).1)),
  (λ is. elim (bytes_of_ending (dot ∷ tens ∷ ones ∷ []) is) [
    | inl none ↦ absurd (omega (arith, ap length none))
    | inr more ↦ elim more [
      | inl one ↦ absurd (omega (arith, ap length one.is))
      | inr two ↦ decides.1 (omega (arith, two.from, ap (λ bytes. get_or bytes 2 0) two.is), omega (arith, two.to, ap (λ bytes. get_or bytes 2 0) two.is))
    ]
  ]),
)
of_three [] answer three begins first decides = absurd (grind (arith, three))
of_three (dot ∷ []) answer three begins first decides = absurd (grind (arith, three))
of_three (dot ∷ tens ∷ []) answer three begins first decides = absurd (grind (arith, three))
of_three (dot ∷ tens ∷ ones ∷ other ∷ rest) answer three begins first decides = absurd (grind (arith, three))

pub not_three : (ending : List ℕ) → length ending ≡ 3 → ((49 ≤ get_or ending 1 0) × (get_or ending 1 0 ≤ 57) → ⊥) → IsEnding ending → ⊥
not_three ending three other is = elim (bytes_of_ending ending is) [
  | inl none ↦ absurd (omega (arith, three, ap length none))
  | inr more ↦ elim more [
    | inl one ↦ absurd (omega (arith, three, ap length one.is))
    | inr two ↦ other (omega (arith, two.low, ap (λ bytes. get_or bytes 1 0) two.is), omega (arith, two.high, ap (λ bytes. get_or bytes 1 0) two.is))
  ]
]

-- a false answer decides what isn't
pub denied : {P : Type 0} → (answer : Bool) → answer ≡ false → (P → ⊥) → Decides answer P
denied answer wrong other = ((λ right. absurd (both_ways answer wrong right)), (λ is. absurd (other is)))

-- and a true one what is
pub affirmed : {P : Type 0} → (answer : Bool) → answer ≡ true → P → Decides answer P
affirmed answer right is = ((λ _. is), (λ _. right))
