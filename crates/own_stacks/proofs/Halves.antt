-- What holds of both halves of a slice holds of the whole, and the other way round.
use mathlib.Core.Path.{◌≡◌, refl, sym, subst}
use mathlib.Core.List.{List, ◌++◌}
use mathlib.Core.Logic.{⊎_elim}
use Prim.Native.Nat.{ℕ, ◌+◌, ◌-◌, ◌<◌}
use native.Mathlib.Omega.{arith}
use lib.ListN.{length, get_or}
use Rattle.std.proofs.lemmas.List.{length-append, get_or_append_left, get_or-append_right}
use Rattle.std.proofs.lemmas.Bool.{cases_lt}
use Rattle.own_stacks.specs.Places.{AtEach, AcrossEach}

module _ {X : Type 0} (P : ℕ → X → Type 0) (base : ℕ) where
  pub at_front : (xs ys all : List X) → all ≡ xs ++ ys → AtEach P base all → AtEach P base xs
  at_front xs ys all is each =
      let whole : AtEach P base (xs ++ ys) = subst (AtEach P base) is each in
      record {
        at = λ k d inside. subst (P (base + k)) (get_or_append_left xs ys d k inside)
            (whole.at k d (omega (arith, length-append xs ys)));
      }

  pub at_back : (low : ℕ) (xs ys all : List X) → all ≡ xs ++ ys → length xs ≡ low → AtEach P base all → AtEach P (base + low) ys
  at_back low xs ys all is long each =
      let whole : AtEach P base (xs ++ ys) = subst (AtEach P base) is each in
      record {
        at = λ k d inside.
            let same : get_or (xs ++ ys) (low + k) d ≡ get_or ys (low + k - low) d = get_or-append_right xs ys low (low + k) d long (omega arith) in
            let back : low + k - low ≡ k = omega arith in
            subst (λ i. P i (get_or ys k d)) {x = base + (low + k)} (omega arith)
            (subst (λ i. P (base + (low + k)) (get_or ys i d)) back
            (subst (P (base + (low + k))) same (whole.at (low + k) d (omega (arith, length-append xs ys)))));
      }

module _ {X : Type 0} (R : ℕ → X → X → Type 0) (base : ℕ) where
  pub across_one : (xs ys : List X) → length xs ≡ 1 → ((d : X) → R base (get_or xs 0 d) (get_or ys 0 d)) → AcrossEach R base xs ys
  across_one xs ys one first =
      record {
        across = λ k d inside.
            let none : 0 ≡ k = omega arith in
            subst (λ i. R (base + i) (get_or xs i d) (get_or ys i d)) none
            (subst (λ i. R i (get_or xs 0 d) (get_or ys 0 d)) {x = base} (omega arith) (first d));
      }

  pub across_both : (low : ℕ) (xs ys xs' ys' all : List X) → all ≡ xs ++ ys → length xs ≡ low → length xs' ≡ low → AcrossEach R base xs xs' → AcrossEach R (base + low) ys ys' → AcrossEach R base all (xs' ++ ys')
  across_both low xs ys xs' ys' all is long long' front back =
      let whole : AcrossEach R base (xs ++ ys) (xs' ++ ys') = record {
        across = λ k d inside. ⊎_elim
            (λ before.
            let left = get_or_append_left xs ys d k (omega arith) in
            let left' = get_or_append_left xs' ys' d k (omega arith) in
            subst (λ x. R (base + k) x (get_or (xs' ++ ys') k d)) (sym left)
            (subst (R (base + k) (get_or xs k d)) (sym left') (front.across k d (omega arith))))
            (λ behind.
            let right = get_or-append_right xs ys low k d long behind in
            let right' = get_or-append_right xs' ys' low k d long' behind in
            subst (λ x. R (base + k) x (get_or (xs' ++ ys') k d)) (sym right)
            (subst (R (base + k) (get_or ys (k - low) d)) (sym right')
            (subst (λ i. R i (get_or ys (k - low) d) (get_or ys' (k - low) d)) {x = base + low + (k - low)} (omega arith)
            (back.across (k - low) d (omega (arith, length-append xs ys))))))
            (cases_lt k low);
      } in
      subst (λ l. AcrossEach R base l (xs' ++ ys')) (sym is) whole
