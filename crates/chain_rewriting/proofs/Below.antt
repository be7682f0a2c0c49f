-- The loop over an inode's pointers: those below an index are mapped.
use Rattle.std.proofs.Common.{◌≡◌, ℕ, zero, suc, ◌+◌, ◌<◌, ◌≤◌, List, [], ◌∷◌, map, length, get_or, Option, None, refl, sym, ap, ◌∙◌, add-one, arith}
use Rattle.std.proofs.Math.ListN.{set}
use Rattle.std.proofs.lemmas.List.{get_or_default}
use Rattle.s4_types.specs.Pointer.{Place}
use Rattle.chain_rewriting.specs.Mapping.{mapped_slot}

-- the first this many mapped
pub mapped_below : (Place → Place) → ℕ → List (Option Place) → List (Option Place)
mapped_below f zero pointers = pointers
mapped_below f (suc n) [] = []
mapped_below f (suc n) (p ∷ pointers) = mapped_slot f p ∷ mapped_below f n pointers

pub none_below : (f : Place → Place) (pointers : List (Option Place)) → pointers ≡ mapped_below f 0 pointers
unfolding mapped_below
none_below f pointers = refl

at_below : (f : Place → Place) (n : ℕ) (pointers : List (Option Place)) → get_or (mapped_below f n pointers) n None ≡ get_or pointers n None
unfolding mapped_below
at_below f zero pointers = refl
at_below f (suc n) [] = refl
at_below f (suc n) (p ∷ pointers) = at_below f n pointers

set_below : (f : Place → Place) (n : ℕ) (pointers : List (Option Place)) → set (mapped_below f n pointers) n (mapped_slot f (get_or pointers n None)) ≡ mapped_below f (suc n) pointers
unfolding mapped_below
set_below f zero [] = refl
set_below f zero (p ∷ pointers) = refl
set_below f (suc n) [] = refl
set_below f (suc n) (p ∷ pointers) = ap (λ ps. mapped_slot f p ∷ ps) (set_below f n pointers)

-- one more
pub more_below : (f : Place → Place) (n : ℕ) (pointers slots : List (Option Place)) (was is : Option Place) → slots ≡ mapped_below f n pointers → n < length slots → was ≡ get_or slots n was → is ≡ mapped_slot f was → set slots n is ≡ mapped_below f (n + 1) pointers
more_below f n pointers slots was is below there at renamed =
    let before : was ≡ get_or pointers n None = at ∙ get_or_default slots n was None there ∙ ap (λ ps. get_or ps n None) below ∙ at_below f n pointers in
    ap (λ ps. set ps n is) below ∙ ap (λ p. set (mapped_below f n pointers) n p) (renamed ∙ ap (mapped_slot f) before) ∙ set_below f n pointers ∙ ap (λ (k : ℕ). mapped_below f k pointers) (sym (add-one n))

pub all_below : (f : Place → Place) (n : ℕ) (pointers : List (Option Place)) → length pointers ≤ n → mapped_below f n pointers ≡ map (mapped_slot f) pointers
unfolding mapped_below
all_below f zero [] h = refl
all_below f zero (p ∷ pointers) h = absurd (omega arith)
all_below f (suc n) [] h = refl
all_below f (suc n) (p ∷ pointers) h = ap (λ ps. mapped_slot f p ∷ ps) (all_below f n pointers (omega arith))
