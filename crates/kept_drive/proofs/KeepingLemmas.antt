-- What a crash leaves of a keeper that was given an image.
use Rattle.std.proofs.Common.{◌≡◌, ◌⊎◌, ◌∙◌, ℕ, List, inl, inr, sym, subst}
use Rattle.image_keeping.specs.Leaving.{IsBeforeOrAfter, IsKept, Only}

module _ (Holds : List ℕ → Type 0) (image bytes : List ℕ) (same : image ≡ bytes) (holds : Holds bytes) where
  -- where it leaves that image alone, what holds of the image is kept
  pub only_keeps : (outcomes : List ℕ → Type 0) → Only image outcomes → IsKept outcomes Holds
  only_keeps outcomes only = λ c h. subst Holds (sym (only c h ∙ same)) holds

  or_holds : (Before : List ℕ → Type 0) (c : List ℕ) → Before c ⊎ (c ≡ image) → Before c ⊎ Holds c
  or_holds Before c (inl b) = inl b
  or_holds Before c (inr is) = inr (subst Holds (sym (is ∙ same)) holds)

  -- else each outcome is one before, or it holds of it
  pub before_or_holds : (before now : List ℕ → Type 0) → IsBeforeOrAfter image before now → (c : List ℕ) → now c → before c ⊎ Holds c
  before_or_holds before now either = λ c h. or_holds before c (either c h)
