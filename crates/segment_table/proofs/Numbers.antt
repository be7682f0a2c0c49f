-- The numbers of the frames that pass a test, after one frame has changed.
use Rattle.std.proofs.Common.{◌≡◌, inl, inr, ℕ, zero, suc, ◌+◌, ◌<◌, Bool, true, false, if◌then◌else◌, List, [], ◌∷◌, length, set, replicate, refl, sym, ap, ◌∙◌, arith}
use Rattle.std.specs.List.{range_with_len}
use Rattle.std.proofs.lemmas.Bool.{cases_Bool}
use Rattle.segment_word.specs.Frames.{Frame}
use Rattle.segment_word.specs.Layout.{frame_at}
use Rattle.segment_table.specs.Room.{numbers}

module _ (test : Frame → Bool) where
  pub numbers_in : (n : ℕ) (k : Frame) (ks : List Frame) → test k ≡ true → numbers test n (k ∷ ks) ≡ n ∷ numbers test (n + 1) ks
  numbers_in n k ks t = ap (λ (b : Bool). if b then n ∷ numbers test (n + 1) ks else numbers test (n + 1) ks) t

  pub numbers_out : (n : ℕ) (k : Frame) (ks : List Frame) → test k ≡ false → numbers test n (k ∷ ks) ≡ numbers test (n + 1) ks
  numbers_out n k ks t = ap (λ (b : Bool). if b then n ∷ numbers test (n + 1) ks else numbers test (n + 1) ks) t

  -- a frame that passes no more and no less leaves the numbers
  pub numbers_same : (n f : ℕ) (ks : List Frame) (k : Frame) → test k ≡ test (frame_at ks f) → numbers test n (set ks f k) ≡ numbers test n ks
  numbers_same n f [] k t = refl
  numbers_same n zero (x ∷ ks) k t = ap (λ (b : Bool). if b then n ∷ numbers test (n + 1) ks else numbers test (n + 1) ks) t
  numbers_same n (suc f) (x ∷ ks) k t =
      ap (λ (l : List ℕ). if test x then n ∷ l else l) (numbers_same (n + 1) f ks k t)

  -- the first of the numbers is that of a frame that passes
  pub numbers_first : (n m : ℕ) (ks : List Frame) (rest : List ℕ) → numbers test n ks ≡ m ∷ rest → (f : ℕ) × (m ≡ n + f) × (f < length ks) × (test (frame_at ks f) ≡ true)
  numbers_first n m [] rest e = absurd (cc)
  numbers_first n m (x ∷ ks) rest e = elim (cases_Bool (test x)) [
    | inl t ↦ (let is : n ∷ numbers test (n + 1) ks ≡ m ∷ rest = sym (numbers_in n x ks t) ∙ e in
        let same : m ≡ n = (cc) in
        (0, same ∙ omega arith, omega arith, t))
    | inr t ↦ (let later = numbers_first (n + 1) m ks rest (sym (numbers_out n x ks t) ∙ e) in
        let at : m ≡ n + 1 + later.0 = later.1 in
        let inside : later.0 < length ks = later.2 in
        (suc later.0, omega arith, omega arith, later.3))
  ]

  -- the first frame that passed does no more
  pub numbers_lost : (n f : ℕ) (ks : List Frame) (k : Frame) (rest : List ℕ) → numbers test n ks ≡ (n + f) ∷ rest → test k ≡ false → numbers test n (set ks f k) ≡ rest
  numbers_lost n f [] k rest e t = absurd (cc)
  numbers_lost n zero (x ∷ ks) k rest e t = elim (cases_Bool (test x)) [
    | inl here ↦ (let is : n ∷ numbers test (n + 1) ks ≡ (n + 0) ∷ rest = sym (numbers_in n x ks here) ∙ e in
        let tail : numbers test (n + 1) ks ≡ rest = (cc) in
        numbers_out n k ks t ∙ tail)
    | inr none ↦ (let later = numbers_first (n + 1) (n + 0) ks rest (sym (numbers_out n x ks none) ∙ e) in
        let at : n + 0 ≡ n + 1 + later.0 = later.1 in
        absurd (omega arith))
  ]
  numbers_lost n (suc f) (x ∷ ks) k rest e t = elim (cases_Bool (test x)) [
    | inl here ↦ (let is : n ∷ numbers test (n + 1) ks ≡ (n + suc f) ∷ rest = sym (numbers_in n x ks here) ∙ e in
        let same : n ≡ n + suc f = (cc) in
        absurd (omega arith))
    | inr none ↦ (let is : numbers test (n + 1) ks ≡ (n + 1 + f) ∷ rest = sym (numbers_out n x ks none) ∙ e ∙ ap (λ (m : ℕ). m ∷ rest) (omega arith) in
        numbers_out n x (set ks f k) none ∙ numbers_lost (n + 1) f ks k rest is t)
  ]

  -- none passed, and one does
  pub numbers_gained : (n f : ℕ) (ks : List Frame) (k : Frame) → numbers test n ks ≡ [] → f < length ks → test k ≡ true → numbers test n (set ks f k) ≡ (n + f) ∷ []
  numbers_gained n f [] k e h t = absurd (omega arith)
  numbers_gained n zero (x ∷ ks) k e h t = elim (cases_Bool (test x)) [
    | inl here ↦ (let is : n ∷ numbers test (n + 1) ks ≡ [] = sym (numbers_in n x ks here) ∙ e in absurd (cc))
    | inr none ↦ (let tail : numbers test (n + 1) ks ≡ [] = sym (numbers_out n x ks none) ∙ e in
        numbers_in n k ks t ∙ ap (λ (l : List ℕ). n ∷ l) tail ∙ ap (λ (m : ℕ). m ∷ []) (omega arith))
  ]
  numbers_gained n (suc f) (x ∷ ks) k e h t = elim (cases_Bool (test x)) [
    | inl here ↦ (let is : n ∷ numbers test (n + 1) ks ≡ [] = sym (numbers_in n x ks here) ∙ e in absurd (cc))
    | inr none ↦ (let tail : numbers test (n + 1) ks ≡ [] = sym (numbers_out n x ks none) ∙ e in
        numbers_out n x (set ks f k) none ∙ numbers_gained (n + 1) f ks k tail (omega arith) t ∙ ap (λ (m : ℕ). m ∷ []) (omega arith))
  ]

  -- where none passes, this one doesn't
  pub numbers_none : (n f : ℕ) (ks : List Frame) → numbers test n ks ≡ [] → f < length ks → test (frame_at ks f) ≡ true → ⊥
  numbers_none n f [] e h t = omega arith
  numbers_none n zero (x ∷ ks) e h t =
      let is : n ∷ numbers test (n + 1) ks ≡ [] = sym (numbers_in n x ks t) ∙ e in
      cc
  numbers_none n (suc f) (x ∷ ks) e h t = elim (cases_Bool (test x)) [
    | inl here ↦ (let is : n ∷ numbers test (n + 1) ks ≡ [] = sym (numbers_in n x ks here) ∙ e in (cc))
    | inr none ↦ numbers_none (n + 1) f ks (sym (numbers_out n x ks none) ∙ e) (omega arith) t
  ]

  -- where one alone passes, it is this one
  pub numbers_one : (n m f : ℕ) (ks : List Frame) → numbers test n ks ≡ m ∷ [] → f < length ks → test (frame_at ks f) ≡ true → m ≡ n + f
  numbers_one n m f [] e h t = absurd (omega arith)
  numbers_one n m zero (x ∷ ks) e h t =
      let is : n ∷ numbers test (n + 1) ks ≡ m ∷ [] = sym (numbers_in n x ks t) ∙ e in
      let same : m ≡ n = (cc) in
      same ∙ omega arith
  numbers_one n m (suc f) (x ∷ ks) e h t = elim (cases_Bool (test x)) [
    | inl here ↦ (let is : n ∷ numbers test (n + 1) ks ≡ m ∷ [] = sym (numbers_in n x ks here) ∙ e in
        let tail : numbers test (n + 1) ks ≡ [] = (cc) in
        absurd (numbers_none (n + 1) f ks tail (omega arith) t))
    | inr none ↦ numbers_one (n + 1) m f ks (sym (numbers_out n x ks none) ∙ e) (omega arith) t ∙ omega arith
  ]

  pub numbers_all : (n count : ℕ) (k : Frame) → test k ≡ true → numbers test n (replicate count k) ≡ range_with_len n count
  numbers_all n zero k t = refl
  numbers_all n (suc count) k t = numbers_in n k (replicate count k) t ∙ ap (λ (l : List ℕ). n ∷ l) (numbers_all (n + 1) count k t)

  pub numbers_nil : (n count : ℕ) (k : Frame) → test k ≡ false → numbers test n (replicate count k) ≡ []
  numbers_nil n zero k t = refl
  numbers_nil n (suc count) k t = numbers_out n k (replicate count k) t ∙ numbers_nil (n + 1) count k t
