-- Of parts whose units ascend no unit is put that both have.
use Rattle.std.proofs.Common.{◌≡◌, inl, inr, ℕ, zero, suc, ◌+◌, ◌-◌, ◌*◌, ◌/◌, ◌<◌, ◌≤◌, nat_lt, false, List, [], ◌∷◌, length, take, drop, refl, sym, ap, subst, ◌∙◌, arith}
use Rattle.std.specs.Str.{bytes_eq}
use Rattle.std.proofs.Math.Nat.{mul-div_cancel_left}
use Rattle.std.proofs.lemmas.Bool.{cases_order, cond-true, cond-false, le-ltb, lt-ltb, true≢false}
use Rattle.std.proofs.lemmas.List.{length-drop, length-take, take-take}
use Rattle.std.proofs.lemmas.Slice.Eq.{bytes_eq-Decides}
use Rattle.image_parts.specs.Header.{number_in}
use Rattle.image_update.specs.declared.kinds.Kind.{Kind}
use Rattle.image_update.specs.declared.kinds.Kind.TheVariants.{Head, Word, Block, Row, Span, AuditRow}
use Rattle.image_update.specs.Bounds.{Ascend, HasUnit, PutNoneOf, PutsNoUnitAgain}
use Rattle.image_update.specs.Layout.{facing, key_in, pairs_in, size_of}
use Rattle.image_update.specs.Pairs.{Pair}
use Rattle.image_update.proofs.Loops.{one_pair, pairs_next}
use Rattle.image_update.proofs.Short.{some_size}

-- a unit has the key that the bytes have which it begins
key_taken : (k : Kind) (bytes : List ℕ) → key_in k (take (size_of k) bytes) ≡ key_in k bytes
unfolding key_in number_in
key_taken Head bytes = refl
key_taken Word bytes = refl
key_taken Block bytes = refl
key_taken Row bytes = rw (take-take 8 40 bytes (omega arith)) refl
key_taken Span bytes = rw (take-take 16 24 bytes (omega arith)) refl
key_taken AuditRow bytes = rw (take-take 8 33 bytes (omega arith)) refl

above : (k : Kind) (low n : ℕ) (bytes unit : List ℕ) → Ascend k low n bytes → HasUnit (size_of k) n bytes unit → low ≤ key_in k unit
above k low zero bytes unit up has = absurd has
above k low (suc n) bytes unit up (inl is) =
    let e : key_in k unit ≡ key_in k bytes = ap (key_in k) (sym is) ∙ key_taken k bytes in
    omega (arith, up.0, e)
above k low (suc n) bytes unit up (inr has) = omega (arith, up.0, above k (key_in k bytes + 1) n (drop (size_of k) bytes) unit up.1 has)

went : (k : Kind) (old new : List ℕ) → key_in k old < key_in k new → facing k old new ≡ (size_of k, 0)
went k old new lt = cond-true (nat_lt (key_in k old) (key_in k new)) _ _ (lt-ltb _ _ lt)

came : (k : Kind) (old new : List ℕ) → key_in k new < key_in k old → facing k old new ≡ (0, size_of k)
came k old new lt =
    cond-false (nat_lt (key_in k old) (key_in k new)) _ _ (le-ltb _ _ (omega arith)) ∙ cond-true (nat_lt (key_in k new) (key_in k old)) _ _ (lt-ltb _ _ lt)

both : (k : Kind) (old new : List ℕ) → key_in k old ≡ key_in k new → facing k old new ≡ (size_of k, size_of k)
both k old new is =
    cond-false (nat_lt (key_in k old) (key_in k new)) _ _ (le-ltb _ _ (omega arith)) ∙ cond-false (nat_lt (key_in k new) (key_in k old)) _ _ (le-ltb _ _ (omega arith))

-- the pairs, by how many bytes face how many
faced : (k : Kind) (f a b : ℕ) (old new : List ℕ) → size_of k ≤ length old → size_of k ≤ length new → facing k old new ≡ (a, b)
    → pairs_in k (suc f) old new ≡ record { old = take a old; new = take b new } ∷ pairs_in k f (drop a old) (drop b new)
faced k f a b old new p q is =
    let e : suc f - 1 ≡ f = omega arith in
    pairs_next k (suc f) old new (omega arith) p q ∙ rw (is, e) refl

no_units : (k : Kind) (unit : List ℕ) → HasUnit (size_of k) (0 / size_of k) [] unit → ⊥
no_units Head unit has = has
no_units Word unit has = has
no_units Block unit has = has
no_units Row unit has = has
no_units Span unit has = has
no_units AuditRow unit has = has

one_unit : (k : Kind) (bytes unit : List ℕ) → length bytes ≡ size_of k → HasUnit (size_of k) (length bytes / size_of k) bytes unit → take (size_of k) bytes ≡ unit
one_unit k bytes unit len has =
    let some = some_size k in
    let twice : length bytes ≡ size_of k * 1 = omega arith in
    let one : length bytes / size_of k ≡ 1 = ap (λ (l : ℕ). l / size_of k) twice ∙ mul-div_cancel_left 1 some in
    let so : HasUnit (size_of k) 1 bytes unit = subst (λ (m : ℕ). HasUnit (size_of k) m bytes unit) one has in
    elim so [ inl is ↦ is | inr none ↦ absurd none ]

-- what is put of one pair that has a unit of the new front
abbrev NotAgain : Kind → ℕ → List ℕ → Pair → Type 0
NotAgain k n old p = bytes_eq p.old p.new ≡ false → (unit : List ℕ) → HasUnit (size_of k) (length p.new / size_of k) p.new unit → HasUnit (size_of k) n old unit → ⊥

fresh : (k : Kind) (f m n : ℕ) (old new : List ℕ) (start low most : ℕ) (all : List ℕ) → m + n ≤ f → length old ≡ size_of k * m → length new ≡ size_of k * n → Ascend k start m old → Ascend k low n new
    → ((unit : List ℕ) → low ≤ key_in k unit → HasUnit (size_of k) most all unit → HasUnit (size_of k) m old unit) → PutNoneOf k most all (pairs_in k f old new)
fresh k f zero n old new start low most all fuel a b up rise has =
    let some = some_size k in
    let z : size_of k * 0 ≡ 0 = omega arith in
    let short : length old < size_of k = omega arith in
    let count : length new / size_of k ≡ n = ap (λ (l : ℕ). l / size_of k) b ∙ mul-div_cancel_left n some in
    subst (PutNoneOf k most all) (sym (one_pair k f old new (inr (inl short))))
    ((λ other unit is again. has unit (above k low n new unit rise (subst (λ (m : ℕ). HasUnit (size_of k) m new unit) count is)) again), tt)
fresh k f (suc m) zero old new start low most all fuel a b up rise has =
    let some = some_size k in
    let z : size_of k * 0 ≡ 0 = omega arith in
    let short : length new < size_of k = omega arith in
    let count : length new / size_of k ≡ 0 = ap (λ (l : ℕ). l / size_of k) b ∙ mul-div_cancel_left 0 some in
    subst (PutNoneOf k most all) (sym (one_pair k f old new (inr (inr short))))
    ((λ other unit is again. subst (λ (m : ℕ). HasUnit (size_of k) m new unit) count is), tt)
fresh k zero (suc m) (suc n) old new start low most all fuel a b up rise has = absurd (omega (arith, fuel))
fresh k (suc f) (suc m) (suc n) old new start low most all fuel a b up rise has =
    let s = size_of k in
    let x = key_in k old in
    let y = key_in k new in
    let sa : s * suc m ≡ s + s * m = omega arith in
    let sb : s * suc n ≡ s + s * n = omega arith in
    let la : s ≤ length old = omega (arith, a, sa) in
    let lb : s ≤ length new = omega (arith, b, sb) in
    let da : length (drop s old) ≡ s * m = omega (arith, length-drop s old, a, sa) in
    let db : length (drop s new) ≡ s * n = omega (arith, length-drop s new, b, sb) in
    let tb : length (take s new) ≡ s = omega (arith, length-take s new, lb) in
    let first_key : key_in k (take s new) ≡ y = key_taken k new in
    let new_key : (unit : List ℕ) → HasUnit s (length (take s new) / s) (take s new) unit → take s new ≡ unit =
    λ unit is. sym (take-take s s new (omega arith)) ∙ one_unit k (take s new) unit tb is in
    elim (cases_order x y) [
      | inl same ↦
          let next = fresh k f m n (drop s old) (drop s new) (x + 1) (y + 1) most all (omega (arith, fuel)) da db up.1 rise.1
          (λ unit low_unit again. elim (has unit (omega (arith, rise.0, low_unit)) again) [
            | inl is ↦ let e : key_in k unit ≡ x = ap (key_in k) (sym is) ∙ key_taken k old in absurd (omega (arith, e, same, low_unit))
            | inr later ↦ later
          ]) in
          let here : NotAgain k most all (record { old = take s old; new = take s new }) =
          λ other unit is again.
          let unit_is = new_key unit is in
          let e : key_in k unit ≡ y = ap (key_in k) (sym unit_is) ∙ first_key in
          elim (has unit (omega (arith, rise.0, e)) again) [
            | inl old_is ↦ true≢false (sym ((bytes_eq-Decides (take s old) (take s new)).1 (old_is ∙ sym unit_is)) ∙ other)
            | inr later ↦ let up_to = above k (x + 1) m (drop s old) unit up.1 later in absurd (omega (arith, e, same, up_to))
          ] in
          subst (PutNoneOf k most all) (sym (faced k f s s old new la lb (both k old new same))) (here, next)
      | inr apart ↦ elim apart [
        | inl less ↦
            let next = fresh k f m (suc n) (drop s old) new (x + 1) y most all (omega (arith, fuel)) da b up.1 (omega arith, rise.1)
            (λ unit low_unit again. elim (has unit (omega (arith, rise.0, low_unit)) again) [
              | inl is ↦ let e : key_in k unit ≡ x = ap (key_in k) (sym is) ∙ key_taken k old in absurd (omega (arith, e, less, low_unit))
              | inr later ↦ later
            ]) in
            subst (PutNoneOf k most all) (sym (faced k f s 0 old new la lb (went k old new less))) ((λ other unit is again. no_units k unit is), next)
        | inr more ↦
            let next = fresh k f (suc m) n old (drop s new) x (y + 1) most all (omega (arith, fuel)) a db (omega arith, up.1) rise.1
            (λ unit low_unit again. has unit (omega (arith, rise.0, low_unit)) again) in
            let here : NotAgain k most all (record { old = take 0 old; new = take s new }) =
            λ other unit is again.
            let unit_is = new_key unit is in
            let e : key_in k unit ≡ y = ap (key_in k) (sym unit_is) ∙ first_key in
            let high = above k x (suc m) old unit (omega arith, up.1) (has unit (omega (arith, rise.0, e)) again) in
            absurd (omega (arith, e, more, high)) in
            subst (PutNoneOf k most all) (sym (faced k f 0 s old new la lb (came k old new more))) (here, next)
      ]
    ]

pub puts_no_unit_again : PutsNoUnitAgain
puts_no_unit_again k m n old new a b up rise =
    let some = some_size k in
    let count_a : length old / size_of k ≡ m = ap (λ (l : ℕ). l / size_of k) a ∙ mul-div_cancel_left m some in
    let count_b : length new / size_of k ≡ n = ap (λ (l : ℕ). l / size_of k) b ∙ mul-div_cancel_left n some in
    fresh k (length old / size_of k + length new / size_of k) m n old new 0 0 m old (omega arith) a b up rise (λ unit low again. again)
