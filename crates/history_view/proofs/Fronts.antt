-- A list that is made from its front on, of which each rest goes on from where the front ends.
use Rattle.std.proofs.Common.{◌≡◌, ◌++◌, ◌∙◌, ℕ, List, [], ◌∷◌, ap, sym, subst, append_assoc}
use Rattle.std.specs.List.{flat_map}
use Rattle.std.proofs.lemmas.List.{append-nil}
use Rattle.std.proofs.lemmas.List.Concat.{flat_map-append}

module _ {X : Type 0} (From : ℕ → List X → Type 0) where
  -- with each rest that goes on from a number, a front makes a list from 0 on
  abbrev pub IsFront : List X → ℕ → Type 0
  IsFront front last = (rest : List X) → From last rest → From 0 (front ++ rest)

  -- no element makes none
  pub front_begun : IsFront [] 0
  front_begun rest more = more

  -- an element more goes on from the number after it
  pub front_more : (front : List X) (x : X) (last next : ℕ) → IsFront front last → ((rest : List X) → From next rest → From last (x ∷ rest)) → IsFront (front ++ x ∷ []) next
  front_more front x last next whole here rest more = subst (From 0) (sym (append_assoc front (x ∷ []) rest)) (whole (x ∷ rest) (here rest more))

  -- a front that nothing follows is whole
  pub front_whole : (front : List X) (last : ℕ) → IsFront front last → From last [] → From 0 front
  front_whole front last whole over = subst (From 0) (append-nil front) (whole [] over)

-- what an element more gives comes after what the others give
pub flat_more : {X Y : Type 0} (f : X → List Y) (xs : List X) (x : X) → flat_map f (xs ++ x ∷ []) ≡ flat_map f xs ++ f x
flat_more f xs x = flat_map-append f xs (x ∷ []) ∙ ap (λ l. flat_map f xs ++ l) (append-nil (f x))
