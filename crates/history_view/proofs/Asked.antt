-- Which entries of a journal are asked for, and what they tell.
use Rattle.std.proofs.Common.{◌≡◌, ◌∙◌, ◌+◌, ◌<◌, ◌++◌, ℕ, Bool, true, false, cond, List, [], ◌∷◌, length, map, filter, take, get_or, Some, ◌-◌, ◌≤◌, sym, ap, ap₂, subst, arith}
use Rattle.std.proofs.lemmas.Bool.{cond-true, cond-false}
use Rattle.std.proofs.lemmas.List.{map-append, append-nil}
use Rattle.std.proofs.lemmas.List.Elements.{filter_more}
use Rattle.codec.specs.declared.entries.Triple.{Triple}
use Rattle.history_view.specs.Changes.{last_index, blocks_of}

module _ {A B : Type 0} (f : A → B) (p : A → Bool) where
  one_more : (xs : List A) (i : ℕ) (d x : A) (made : List A) → i < length xs → get_or xs i d ≡ x → cond (p x) (x ∷ []) [] ≡ made → map f (filter p (take (i + 1) xs)) ≡ map f (filter p (take i xs)) ++ map f made
  one_more xs i d x made lt here is =
      ap (map f) (filter_more p xs i d lt ∙ ap (λ (y : A). filter p (take i xs) ++ cond (p y) (y ∷ []) []) here ∙ ap (λ (l : List A). filter p (take i xs) ++ l) is)
      ∙ map-append f (filter p (take i xs)) made

  -- one element more passes, and what it gives is after what the others gave
  pub passes_more : (xs : List A) (i : ℕ) (d x : A) (before after : List B) (y : B) → i < length xs → get_or xs i d ≡ x → p x ≡ true → before ≡ map f (filter p (take i xs)) → y ≡ f x → after ≡ before ++ y ∷ []
      → after ≡ map f (filter p (take (i + 1) xs))
  passes_more xs i d x before after y lt here passes so_far gives grown =
      grown ∙ ap (λ (b : List B). b ++ y ∷ []) so_far ∙ ap (λ (z : B). map f (filter p (take i xs)) ++ z ∷ []) gives
      ∙ sym (one_more xs i d x (x ∷ []) lt here (cond-true (p x) (x ∷ []) [] passes))

  -- one that doesn't pass gives nothing
  pub fails_more : (xs : List A) (i : ℕ) (d x : A) (before : List B) → i < length xs → get_or xs i d ≡ x → p x ≡ false → before ≡ map f (filter p (take i xs)) → before ≡ map f (filter p (take (i + 1) xs))
  fails_more xs i d x before lt here fails so_far =
      so_far ∙ sym (append-nil (map f (filter p (take i xs)))) ∙ sym (one_more xs i d x [] lt here (cond-false (p x) (x ∷ []) [] fails))

last_got : (t : Triple) (triples : List Triple) (e : Triple) → e ≡ get_or (t ∷ triples) (length triples) e → e.index ≡ last_index t.index triples
last_got t [] e is = ap (λ (u : Triple). u.index) is
last_got t (u ∷ triples) e is = last_got u triples e is

-- the first and the last of several pointers
pub blocks_are : (triples : List Triple) (d e : Triple) → 2 ≤ length triples → d ≡ get_or triples 0 d → e ≡ get_or triples (length triples - 1) e → Some (record { first = d.index; last = e.index }) ≡ blocks_of triples
blocks_are [] d e two first last = absurd (omega arith)
blocks_are (t ∷ triples) d e two first last =
    let behind : length (t ∷ triples) - 1 ≡ length triples = omega arith in
    let index : e.index ≡ last_index t.index triples = last_got t triples e (subst (λ n. e ≡ get_or (t ∷ triples) n e) behind last) in
    ap₂ (λ a b. Some (record { first = a; last = b })) (ap (λ (u : Triple). u.index) first) index
