-- Testing pointers one after the other, as a loop does.
use Rattle.std.proofs.Common.{◌≡◌, ℕ, ◌-◌, ◌+◌, ◌≤◌, ◌<◌, true, false, ltb, ◌||◌, List, length, get_or, drop, Option, refl, add-one, drop-cons}
use Rattle.std.specs.Prelude.{is_none}
use Rattle.std.proofs.lemmas.List.{drop_all}
use Rattle.s4_types.specs.Pointer.{Place}
use Rattle.codec.specs.Checkpoint.{holes_past}

module _ (left i : ℕ) (pointers : List (Option Place)) (p : Option Place) where
  pub holes_on : i < length pointers → p ≡ get_or pointers i p → (ltb 0 left || is_none p) ≡ true → holes_past left (drop i pointers) ≡ holes_past (left - 512) (drop (i + 1) pointers)
  unfolding holes_past
  holes_on lt is may = rw (drop-cons pointers i p lt, ← is, may, add-one) refl

  pub holes_bad : i < length pointers → p ≡ get_or pointers i p → (ltb 0 left || is_none p) ≡ false → holes_past left (drop i pointers) ≡ false
  unfolding holes_past
  holes_bad lt is may = rw (drop-cons pointers i p lt, ← is, may) refl

pub holes_end : (left i : ℕ) (pointers : List (Option Place)) → length pointers ≤ i → holes_past left (drop i pointers) ≡ true
unfolding holes_past
holes_end left i pointers le = rw (drop_all i pointers le) refl
