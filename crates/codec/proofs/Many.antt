-- Reading several of one kind, as a definition and as a loop does.
use Rattle.std.proofs.Common.{◌≡◌, ℕ, zero, suc, ◌-◌, ◌+◌, ◌≤◌, ◌<◌, List, [], ◌∷◌, ◌++◌, length, Option, Some, None, refl, sym, ap, subst, ◌∙◌, append_assoc, arith}
use Rattle.std.specs.List.{flat_map, AllByRecursion}
use Rattle.std.proofs.lemmas.List.{append-nil}
use Rattle.std.proofs.lemmas.List.Concat.{flat_map-cons}
use Rattle.std.proofs.lemmas.Option.{same_Some}
use Rattle.lemmas.proofs.Bytes.{bytes_rest, IsBytes}
use Rattle.codec.specs.Fields.{◌>>=◌, many_at}
use Rattle.codec.proofs.Exact.{IsField, bind_some}

-- what was read before, and what is still read
abbrev pub with_front : {A : Type 0} → List A → Option (List A × List ℕ) → Option (List A × List ℕ)
with_front front read = read >>= λ x. Some (front ++ x.0, x.1)

module _ {A : Type 0} (read : List ℕ → Option (A × List ℕ)) where
  regroup : (front : List A) (x : A) (others : Option (List A × List ℕ)) → with_front front (others >>= λ y. Some (x ∷ y.0, y.1)) ≡ with_front (front ++ x ∷ []) others
  regroup front x (Some y) = ap (λ (xs : List A). Some (xs, y.1)) (sym (append_assoc front (x ∷ []) y.0))
  regroup front x None = refl

  pub many_go : (front : List A) (count i : ℕ) (bytes : List ℕ) (x : A) (after : List ℕ) (total : Option (List A × List ℕ)) → i < count → read bytes ≡ Some (x, after)
      → with_front front (many_at read (count - i) bytes) ≡ total → with_front (front ++ x ∷ []) (many_at read (count - (i + 1)) after) ≡ total
  unfolding many_at
  many_go front count i bytes x after total lt h so_far =
      let k : count - i ≡ suc (count - (i + 1)) = omega arith in
      let one : with_front front (many_at read (count - i) bytes) ≡ with_front (front ++ x ∷ []) (many_at read (count - (i + 1)) after) = rw (k, h) (regroup front x (many_at read (count - (i + 1)) after)) in
      sym one ∙ so_far

  pub many_stop : (front : List A) (count i : ℕ) (bytes : List ℕ) (total : Option (List A × List ℕ)) → i < count → read bytes ≡ None
      → with_front front (many_at read (count - i) bytes) ≡ total → total ≡ None
  unfolding many_at
  many_stop front count i bytes total lt h so_far =
      let k : count - i ≡ suc (count - (i + 1)) = omega arith in
      let one : with_front front (many_at read (count - i) bytes) ≡ None = rw (k, h) refl in
      sym so_far ∙ one

  pub many_end : (front : List A) (count i : ℕ) (bytes : List ℕ) (total : Option (List A × List ℕ)) → count ≤ i
      → with_front front (many_at read (count - i) bytes) ≡ total → total ≡ Some (front, bytes)
  unfolding many_at
  many_end front count i bytes total le so_far =
      let k : count - i ≡ 0 = omega arith in
      let one : with_front front (many_at read (count - i) bytes) ≡ Some (front, bytes) = rw k (ap (λ (xs : List A). Some (xs, bytes)) (append-nil front)) in
      sym so_far ∙ one

-- as many are read as were asked for
pub many_count : {A : Type 0} (read : List ℕ → Option (A × List ℕ)) (n : ℕ) (bytes : List ℕ) (xs : List A × List ℕ) → many_at read n bytes ≡ Some xs → length xs.0 ≡ n
unfolding many_at
many_count read zero bytes xs e = sym (ap (λ (y : List _ × List ℕ). length y.0) (same_Some _ _ e))
many_count read (suc n) bytes xs e =
    let a = bind_some (read bytes) (λ first. many_at read n first.1 >>= λ others. Some (first.0 ∷ others.0, others.1)) xs e in
    let b = bind_some (many_at read n a.0.1) (λ others. Some (a.0.0 ∷ others.0, others.1)) xs a.2 in
    sym (ap (λ (y : List _ × List ℕ). length y.0) (same_Some _ _ b.2)) ∙ ap (λ (k : ℕ). suc k) (many_count read n a.0.1 b.0 b.1)

-- this many, each of which fits
abbrev pub AreMany : {A : Type 0} → (A → Type 0) → ℕ → List A → Type 0
AreMany Fits n xs = (length xs ≡ n) × AllByRecursion Fits xs

module _ {A : Type 0} {read : List ℕ → Option (A × List ℕ)} {write : A → List ℕ} {Fits : A → Type 0} (field : IsField read write Fits) where
  record Taken (n : ℕ) (bytes : List ℕ) (xs : List A) (rest : List ℕ) : Type 0 where
    whole : bytes ≡ flat_map write xs ++ rest
    len : length xs ≡ n
    fits : AllByRecursion Fits xs

  many_takes : (n : ℕ) (bytes : List ℕ) (xs : List A × List ℕ) → IsBytes bytes → many_at read n bytes ≡ Some xs → Taken n bytes xs.0 xs.1
  unfolding many_at
  many_takes zero bytes xs h e =
      subst (λ (y : List A × List ℕ). Taken 0 bytes y.0 y.1) (same_Some _ _ e) (record { whole = refl; len = refl; fits = tt })
  many_takes (suc n) bytes xs h e =
      let a = bind_some (read bytes) (λ first. many_at read n first.1 >>= λ others. Some (first.0 ∷ others.0, others.1)) xs e in
      let b = bind_some (many_at read n a.0.1) (λ others. Some (a.0.0 ∷ others.0, others.1)) xs a.2 in
      let parts = field.whole bytes a.0 h a.1 in
      let rest = many_takes n a.0.1 b.0 (bytes_rest (write a.0.0) a.0.1 bytes parts h) b.1 in
      let made : Taken (suc n) bytes (a.0.0 ∷ b.0.0) b.0.1 = record {
        whole = parts ∙ ap (λ (t : List ℕ). write a.0.0 ++ t) rest.whole ∙ sym (append_assoc (write a.0.0) (flat_map write b.0.0) b.0.1);
        len = ap (λ (k : ℕ). suc k) rest.len;
        fits = (field.fits bytes a.0 h a.1, rest.fits);
      } in
      subst (λ (y : List A × List ℕ). Taken (suc n) bytes y.0 y.1) (same_Some _ _ b.2) made

  many_again : (n : ℕ) (xs : List A) (rest : List ℕ) → AreMany Fits n xs → many_at read n (flat_map write xs ++ rest) ≡ Some (xs, rest)
  unfolding many_at
  many_again zero [] rest h = refl
  many_again zero (x ∷ xs) rest h = absurd (omega (arith, h.0))
  many_again (suc n) [] rest h = absurd (omega (arith, h.0))
  many_again (suc n) (x ∷ xs) rest h =
      let regrouped : flat_map write (x ∷ xs) ++ rest ≡ write x ++ (flat_map write xs ++ rest) = rw flat_map-cons (append_assoc (write x) (flat_map write xs) rest) in
      let len : length xs ≡ n = omega (arith, h.0) in
      rw (regrouped, field.again x (flat_map write xs ++ rest) h.1.0, many_again n xs rest (len, h.1.1)) refl

  pub many_field : (n : ℕ) → IsField (many_at read n) (flat_map write) (AreMany Fits n)
  many_field n = record {
    whole = λ bytes x h e. (many_takes n bytes x h e).whole;
    fits = λ bytes x h e. let t = many_takes n bytes x h e in (t.len, t.fits);
    again = many_again n;
  }
