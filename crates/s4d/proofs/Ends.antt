-- What follows from what a call answers, and from what each of several answers.
use Rattle.std.proofs.Common.{◌≡◌, ◌↔◌, ◌<◌, ◌+◌, ◌&&◌, ℕ, All, Any, Bool, true, false, true≢false, List, Result, Ok, Err, IfErr, OnErr, IsTrue, arith, get_or, length, refl, sym, subst, take, ⊎_elim}
use Rattle.std.proofs.lemmas.Bool.{cases_lt}
use Rattle.std.proofs.lemmas.List.{get_or_default, get_or-take, length-take-le}

-- what follows from a fact of the error, and from one that holds where there is an error, holds of the error
pub if_err_with : {A E Q : Type 0} {P R : E → Type 0} → (result : Result A E) → ((error : E) → P error → Q → R error) → IfErr result P → OnErr result Q → IfErr result R
if_err_with (Ok value) f fact more = tt
if_err_with (Err error) f fact more = f error fact more

-- both are so where one is told of both
pub ended_there : (a b : Bool) → IsTrue (a && b) → IsTrue a × IsTrue b
ended_there true true t = (t, t)
ended_there true false t = absurd (true≢false (sym t))
ended_there false b t = absurd (true≢false (sym t))

pub there_ended : (a b : Bool) → IsTrue a → IsTrue b → IsTrue (a && b)
there_ended true b s t = t
there_ended false b s t = absurd (true≢false (sym s))

-- what holds of the first elements and of one more holds of one element more
pub one_more : {C : Type 0} (P : C → Type 0) (xs : List C) (n : ℕ) (e : C) → n < length xs → ((i : ℕ) (d : C) → i < n → P (get_or xs i d)) → P (get_or xs n e)
    → (i : ℕ) (d : C) → i < n + 1 → P (get_or xs i d)
one_more P xs n e in_xs first here i d lt = ⊎_elim
    (λ below. first i d below)
    (λ from. let last : n ≡ i = omega (arith, lt, from) in subst (λ (k : ℕ). P (get_or xs k d)) last (subst P (get_or_default xs n e d in_xs) here))
    (cases_lt i n)

-- so does what holds of elements side by side
pub sides_more : {A B : Type 0} (R : A → B → Type 0) (xs : List A) (ys : List B) (n : ℕ) (x : A) (y : B) → n < length xs → n < length ys
    → ((i : ℕ) (d : A) (e : B) → i < n → R (get_or xs i d) (get_or ys i e)) → R (get_or xs n x) (get_or ys n y) → (i : ℕ) (d : A) (e : B) → i < n + 1 → R (get_or xs i d) (get_or ys i e)
sides_more R xs ys n x y in_xs in_ys first here i d e lt = ⊎_elim
    (λ below. first i d e below)
    (λ from. let last : n ≡ i = omega (arith, lt, from) in
    subst (λ k. R (get_or xs k d) (get_or ys k e)) last
    (subst (λ a. R a (get_or ys n e)) (get_or_default xs n x d in_xs) (subst (λ b. R (get_or xs n x) b) (get_or_default ys n y e in_ys) here)))
    (cases_lt i n)

-- and what holds of pairs, where it holds of one more with each of the first ones
pub pairs_more : {C : Type 0} (R : C → C → Type 0) (xs : List C) (n : ℕ) (e : C) → n < length xs → ((i j : ℕ) (d : C) → i < j → j < n → R (get_or xs i d) (get_or xs j d))
    → All (λ x. R x (get_or xs n e)) (take n xs) → (i j : ℕ) (d : C) → i < j → j < n + 1 → R (get_or xs i d) (get_or xs j d)
pairs_more R xs n e in_xs first here i j d before lt = ⊎_elim
    (λ below. first i j d before below)
    (λ from.
    let last : n ≡ j = omega (arith, lt, from) in
    let below : i < n = omega (arith, before, last) in
    let within : i < length (take n xs) = omega (arith, below, length-take-le n xs (omega (arith, in_xs))) in
    subst (λ k. R (get_or xs i d) (get_or xs k d)) last
    (subst (λ y. R (get_or xs i d) y) (get_or_default xs n e d in_xs) (subst (λ x. R x (get_or xs n e)) (get_or-take n xs i d below) (here i d within))))
    (cases_lt j n)

-- what holds of an element holds of some one
pub any_at : {A : Type 0} (P : A → Type 0) (xs : List A) (k : ℕ) (d : A) → k < length xs → P (get_or xs k d) → Any P xs
any_at P xs k d lt holds = (k, get_or xs k d, lt, get_or_default xs k (get_or xs k d) d lt, holds)

-- whether something holds of the first elements and of one more
pub all_more : {C : Type 0} (P : C → Type 0) (xs : List C) (n : ℕ) (x : C) (so_far here : Bool) → ((d : C) → x ≡ get_or xs n d)
    → (IsTrue so_far ↔ ((i : ℕ) (d : C) → i < n → P (get_or xs i d))) → (IsTrue here ↔ P x) → (IsTrue (so_far && here) ↔ ((i : ℕ) (d : C) → i < n + 1 → P (get_or xs i d)))
all_more P xs n x false here is first one = ((λ t. absurd (true≢false (sym t))), (λ each. first.1 (λ i d lt. each i d (omega (arith, lt)))))
all_more P xs n x true here is first one = (
  (λ t i d lt. ⊎_elim
      (λ below. first.0 refl i d below)
      (λ from. let last : n ≡ i = omega (arith, lt, from) in subst (λ (k : ℕ). P (get_or xs k d)) last (subst P (is d) (one.0 t)))
      (cases_lt i n)),
  (λ each. one.1 (subst P (sym (is x)) (each n x (omega arith)))),
)
