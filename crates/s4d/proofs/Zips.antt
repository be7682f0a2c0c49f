-- Lists side by side, element by element.
use Rattle.std.proofs.Common.{◌≡◌, ◌<◌, ◌+◌, ℕ, zero, suc, All, Bool, IsTrue, List, [], ◌∷◌, ◌++◌, arith, get_or, length, map, subst, sym, take}
use Rattle.std.specs.List.{AllZip}
use Rattle.std.proofs.lemmas.List.{take_more}

module _ {A B : Type 0} (R : A → B → Type 0) where
  pub zip_push : (xs : List A) (ys : List B) (x : A) (y : B) → AllZip R xs ys → R x y → AllZip R (xs ++ x ∷ []) (ys ++ y ∷ [])
  zip_push [] [] x y each here = (here, tt)
  zip_push [] (b ∷ ys) x y each here = absurd each
  zip_push (a ∷ xs) [] x y each here = absurd each
  zip_push (a ∷ xs) (b ∷ ys) x y each here = (each.0, zip_push xs ys x y each.1 here)

  -- one more of a list's elements, and what goes with it
  pub zip_more : (xs : List A) (ys : List B) (i : ℕ) (d : A) (y : B) → i < length xs → AllZip R (take i xs) ys → R (get_or xs i d) y → AllZip R (take (i + 1) xs) (ys ++ y ∷ [])
  zip_more xs ys i d y lt each here = subst (λ (l : List A). AllZip R l (ys ++ y ∷ [])) (sym (take_more xs i d lt)) (zip_push (take i xs) ys (get_or xs i d) y each here)

-- What goes with the elements of a list goes on to others, place by place, and what is told of these goes with the list, too.
pub zip_on : {A C D : Type 0} (P : A → C → Type 0) (R : C → C → Type 0) (S : A → C → Type 0) (Q : A → D → Type 0) (f : C → D) → ((a : A) (c c' : C) → P a c → R c c' → S a c' → Q a (f c'))
    → (xs : List A) (cs cs' : List C) → AllZip P xs cs → length cs' ≡ length cs → ((i : ℕ) (d : C) → i < length cs → R (get_or cs i d) (get_or cs' i d)) → AllZip S xs cs' → AllZip Q xs (map f cs')
zip_on P R S Q f step [] [] [] each len on last = tt
zip_on P R S Q f step [] [] (c' ∷ cs') each len on last = absurd (omega (arith, len))
zip_on P R S Q f step [] (c ∷ cs) cs' each len on last = absurd each
zip_on P R S Q f step (x ∷ xs) [] cs' each len on last = absurd each
zip_on P R S Q f step (x ∷ xs) (c ∷ cs) [] each len on last = absurd (omega (arith, len))
zip_on P R S Q f step (x ∷ xs) (c ∷ cs) (c' ∷ cs') each len on last =
    (step x c c' each.0 (on 0 c (omega arith)) last.0, zip_on P R S Q f step xs cs cs' each.1 (omega (arith, len)) (λ i d lt. on (suc i) d (omega (arith, lt))) last.1)

-- what goes with the elements of a list goes with others in their places, which are like them
pub zip_moved : {A C : Type 0} (P : A → C → Type 0) (R : C → C → Type 0) → ((a : A) (c c' : C) → P a c → R c c' → P a c')
    → (xs : List A) (cs cs' : List C) → AllZip P xs cs → length cs' ≡ length cs → ((i : ℕ) (d : C) → i < length cs → R (get_or cs i d) (get_or cs' i d)) → AllZip P xs cs'
zip_moved P R step [] [] [] each len on = tt
zip_moved P R step [] [] (c' ∷ cs') each len on = absurd (omega (arith, len))
zip_moved P R step [] (c ∷ cs) cs' each len on = absurd each
zip_moved P R step (x ∷ xs) [] cs' each len on = absurd each
zip_moved P R step (x ∷ xs) (c ∷ cs) [] each len on = absurd (omega (arith, len))
zip_moved P R step (x ∷ xs) (c ∷ cs) (c' ∷ cs') each len on =
    (step x c c' each.0 (on 0 c (omega arith)), zip_moved P R step xs cs cs' each.1 (omega (arith, len)) (λ i d lt. on (suc i) d (omega (arith, lt))))

-- what holds of elements side by side, by their places
pub zip_of : {A B : Type 0} (R : A → B → Type 0) (xs : List A) (ys : List B) → length ys ≡ length xs → ((i : ℕ) (d : A) (e : B) → i < length xs → R (get_or xs i d) (get_or ys i e)) → AllZip R xs ys
zip_of R [] [] len each = tt
zip_of R [] (y ∷ ys) len each = absurd (omega (arith, len))
zip_of R (x ∷ xs) [] len each = absurd (omega (arith, len))
zip_of R (x ∷ xs) (y ∷ ys) len each = (each 0 x y (omega arith), zip_of R xs ys (omega (arith, len)) (λ i d e lt. each (suc i) d e (omega (arith, lt))))

-- what holds of elements side by side in one case, case by case
pub zip_when : {A B : Type 0} (R : A → B → Type 0) (b : Bool) (xs : List A) (ys : List B) → length ys ≡ length xs → (IsTrue b → AllZip R xs ys) → AllZip (λ x y. IsTrue b → R x y) xs ys
zip_when R b [] [] len each = tt
zip_when R b [] (y ∷ ys) len each = absurd (omega (arith, len))
zip_when R b (x ∷ xs) [] len each = absurd (omega (arith, len))
zip_when R b (x ∷ xs) (y ∷ ys) len each = ((λ is. (each is).0), zip_when R b xs ys (omega (arith, len)) (λ is. (each is).1))

-- what goes with what is beside the elements of a list goes with the list
pub zip_through : {A B C : Type 0} (P : A → B → Type 0) (Q : B → C → Type 0) (R : A → C → Type 0) → ((a : A) (b : B) (c : C) → P a b → Q b c → R a c)
    → (xs : List A) (ys : List B) (zs : List C) → AllZip P xs ys → AllZip Q ys zs → AllZip R xs zs
zip_through P Q R step [] [] [] first second = tt
zip_through P Q R step [] [] (z ∷ zs) first second = absurd second
zip_through P Q R step [] (y ∷ ys) zs first second = absurd first
zip_through P Q R step (x ∷ xs) [] zs first second = absurd first
zip_through P Q R step (x ∷ xs) (y ∷ ys) [] first second = absurd second
zip_through P Q R step (x ∷ xs) (y ∷ ys) (z ∷ zs) first second = (step x y z first.0 second.0, zip_through P Q R step xs ys zs first.1 second.1)

-- what holds of all elements, where these go with others, holds of the others
pub all_through : {A B : Type 0} (P : A → B → Type 0) (Q : A → Type 0) (R : B → Type 0) → ((a : A) (b : B) → P a b → Q a → R b)
    → (xs : List A) (ys : List B) → AllZip P xs ys → All Q xs → All R ys
all_through P Q R step [] [] each all k d lt = absurd (omega (arith, lt))
all_through P Q R step [] (y ∷ ys) each all k d lt = absurd each
all_through P Q R step (x ∷ xs) [] each all k d lt = absurd each
all_through P Q R step (x ∷ xs) (y ∷ ys) each all zero d lt = step x y each.0 (all 0 x (omega arith))
all_through P Q R step (x ∷ xs) (y ∷ ys) each all (suc k) d lt = all_through P Q R step xs ys each.1 (λ i e below. all (suc i) e (omega (arith, below))) k d (omega (arith, lt))

-- what holds of each element, and goes with what is beside it, says more of both
pub zip_all : {A B : Type 0} (P : A → Type 0) (Q R : A → B → Type 0) → ((a : A) (b : B) → P a → Q a b → R a b) → (xs : List A) (ys : List B)
    → ((i : ℕ) (d : A) → i < length xs → P (get_or xs i d)) → AllZip Q xs ys → AllZip R xs ys
zip_all P Q R step [] [] all each = tt
zip_all P Q R step [] (y ∷ ys) all each = absurd each
zip_all P Q R step (x ∷ xs) [] all each = absurd each
zip_all P Q R step (x ∷ xs) (y ∷ ys) all each =
    (step x y (all 0 x (omega arith)) each.0, zip_all P Q R step xs ys (λ i d lt. all (suc i) d (omega (arith, lt))) each.1)
