-- The moments of a chain, told entry by entry.
use Rattle.std.proofs.Common.{◌≡◌, inl, inr, ℕ, ◌≤◌, cond, List, [], ◌∷◌, ◌++◌, map, sym, ap, ◌∙◌, arith}
use Rattle.std.specs.Prelude.{nat_eq}
use Rattle.std.specs.List.{dedup_from}
use Rattle.std.proofs.lemmas.Bool.{cases_Bool, eqb-true, ne_eqb}
use Rattle.codec.specs.Entry.{EntryFields}
use Rattle.undo_redo.specs.Runs.{last_moment}
use Rattle.image_objects.specs.Moments.{moments_of_chain}

-- a moment, where it is not the one before
abbrev pub told_behind : ℕ → ℕ → List ℕ
told_behind before m = cond (nat_eq m before) [] (m ∷ [])

moments : List EntryFields → List ℕ
moments entries = map (λ e. e.moment) entries

from : ℕ → List EntryFields → List ℕ
from k entries = dedup_from nat_eq k (moments entries)

from_one : (k : ℕ) (e : EntryFields) → from k (e ∷ []) ≡ k ∷ told_behind k e.moment
unfolding from moments
from_one k e = elim (cases_Bool (nat_eq e.moment k)) [
  | inl is ↦ ap (λ b. cond b (k ∷ []) (k ∷ e.moment ∷ [])) is ∙ sym (ap (λ b. k ∷ cond b [] (e.moment ∷ [])) is)
  | inr ne ↦ ap (λ b. cond b (k ∷ []) (k ∷ e.moment ∷ [])) ne ∙ sym (ap (λ b. k ∷ cond b [] (e.moment ∷ [])) ne)
]

from_more : (k : ℕ) (entries : List EntryFields) (e : EntryFields) → from k (entries ++ e ∷ []) ≡ from k entries ++ told_behind (last_moment k entries) e.moment
unfolding from moments
from_more k [] e = from_one k e
from_more k (x ∷ entries) e = elim (cases_Bool (nat_eq x.moment k)) [
  | inl is ↦
      ap (λ b. cond b (from k (entries ++ e ∷ [])) (k ∷ from x.moment (entries ++ e ∷ []))) is
      ∙ from_more k entries e
      ∙ ap (λ n. from k entries ++ told_behind (last_moment n entries) e.moment) (sym (eqb-true x.moment k is))
      ∙ sym (ap (λ b. cond b (from k entries) (k ∷ from x.moment entries) ++ told_behind (last_moment x.moment entries) e.moment) is)
  | inr ne ↦
      ap (λ b. cond b (from k (entries ++ e ∷ [])) (k ∷ from x.moment (entries ++ e ∷ []))) ne
      ∙ ap (λ (l : List ℕ). k ∷ l) (from_more x.moment entries e)
      ∙ sym (ap (λ b. cond b (from k entries) (k ∷ from x.moment entries) ++ told_behind (last_moment x.moment entries) e.moment) ne)
]

pub one_more : (entries : List EntryFields) (e : EntryFields) → 1 ≤ e.moment → moments_of_chain (entries ++ e ∷ []) ≡ moments_of_chain entries ++ told_behind (last_moment 0 entries) e.moment
unfolding from moments
one_more [] e some = sym (ap (λ b. cond b [] (e.moment ∷ [])) (ne_eqb e.moment 0 (λ (is : e.moment ≡ 0). omega (arith, some, is))))
one_more (x ∷ entries) e some = from_more x.moment entries e
