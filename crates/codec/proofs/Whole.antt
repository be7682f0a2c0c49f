-- A field that is all of the bytes.
use Rattle.std.proofs.Common.{◌≡◌, ℕ, List, [], ◌∷◌, ◌++◌, Option, Some, None, refl, sym, ap, subst, ◌∙◌}
use Rattle.std.proofs.lemmas.List.{append-nil}
use Rattle.std.specs.Prelude.{IfSome}
use Rattle.std.proofs.lemmas.Option.{same_Some}
use Rattle.lemmas.proofs.Bytes.{IsBytes}
use Rattle.codec.specs.Fields.{◌>>=◌, Reads, ended, all_of}
use Rattle.codec.proofs.Exact.{IsField, Exact, bind_some}

pub ended_is : {A : Type 0} (a b : A) (rest : List ℕ) → ended (Some a) rest ≡ Some b → (rest ≡ []) × (a ≡ b)
ended_is a b [] e = (refl, same_Some a b e)
ended_is a b (_ ∷ _) e = absurd cc

module _ {A : Type 0} {read : List ℕ → Option (A × List ℕ)} {write : A → List ℕ} {Fits : A → Type 0} (field : IsField read write Fits) where
  all_found : (bytes : List ℕ) (a : A) → IsBytes bytes → all_of read bytes ≡ Some a → Fits a × (bytes ≡ write a)
  all_found bytes a h e =
      let s = bind_some (read bytes) (λ x. ended (Some x.0) x.1) a e in
      let end = ended_is s.0.0 a s.0.1 s.2 in
      let whole : bytes ≡ write s.0.0 = field.whole bytes s.0 h s.1 ∙ ap (λ (rest : List ℕ). write s.0.0 ++ rest) end.0 ∙ append-nil (write s.0.0) in
      subst (λ (x : A). Fits x × (bytes ≡ write x)) end.1 (field.fits bytes s.0 h s.1, whole)

  all_again : (bytes : List ℕ) (a : A) → Fits a × (bytes ≡ write a) → all_of read bytes ≡ Some a
  all_again bytes a s = ap (λ (o : Option (A × List ℕ)). o >>= λ x. ended (Some x.0) x.1) (ap read (s.1 ∙ sym (append-nil (write a))) ∙ field.again a [] s.0)

  pub all_exact : Exact (all_of read) (λ bytes a. Fits a × (bytes ≡ write a))
  all_exact = record { found = all_found; again = all_again }

-- what a function that reads so answers
pub found_all : {A : Type 0} {read : List ℕ → Option A} {Says : List ℕ → A → Type 0} → Exact read Says → (bytes : List ℕ) (result : Option A) → IsBytes bytes → Reads (λ x. x) result (read bytes) → IfSome result (λ a. Says bytes a)
found_all exact bytes (Some a) h e = exact.found bytes a h e
found_all exact bytes None h e = tt

pub only_all : {A : Type 0} {read : List ℕ → Option A} {Says : List ℕ → A → Type 0} → Exact read Says → (bytes : List ℕ) (result : Option A) → Reads (λ x. x) result (read bytes) → (a : A) → Says bytes a → result ≡ Some a
only_all exact bytes (Some b) e a s = sym e ∙ exact.again bytes a s
only_all exact bytes None e a s = sym e ∙ exact.again bytes a s

module _ {X A : Type 0} (view : X → A × List ℕ) {read : List ℕ → Option (A × List ℕ)} {write : A → List ℕ} {Fits : A → Type 0} (field : IsField read write Fits) where
  -- what a function that reads the front so answers
  pub found_front : (bytes : List ℕ) (result : Option X) → IsBytes bytes → Reads view result (read bytes) → IfSome result (λ x. Fits (view x).0 × (bytes ≡ write (view x).0 ++ (view x).1))
  found_front bytes (Some x) h e = (field.fits bytes (view x) h e, field.whole bytes (view x) h e)
  found_front bytes None h e = tt

  pub only_front : (bytes : List ℕ) (result : Option X) → Reads view result (read bytes) → (a : A) (rest : List ℕ) → Fits a × (bytes ≡ write a ++ rest) → Reads view result (Some (a, rest))
  only_front bytes (Some x) e a rest s = sym (ap read s.1 ∙ field.again a rest s.0) ∙ e
  only_front bytes None e a rest s = sym (ap read s.1 ∙ field.again a rest s.0) ∙ e
