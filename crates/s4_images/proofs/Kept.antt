-- What is known of files is kept.
use Rattle.std.proofs.Common.{◌≡◌, ℕ, Bool, true, false, List, Option, None, inl, inr, sym, subst}
use Rattle.std.proofs.lemmas.Bool.{cases_Bool}
use Rattle.std.specs.Io.KnownBytes.{Keeps}
use Rattle.std.proofs.KnownBytes.{Keeps-refl, Keeps-trans}

-- of a file that wasn't touched
pub untouched : (known : Option (List ℕ)) → Keeps known known
untouched known = Keeps-refl known

-- where one more file was made, of which nothing was known, and all others kept what they had since
pub kept_beside : (a b c : List ℕ → Option (List ℕ)) (is_beside : List ℕ → Bool) → ((path : List ℕ) → Keeps (a path) (b path)) → ((path : List ℕ) → is_beside path ≡ true → a path ≡ None)
    → ((path : List ℕ) → is_beside path ≡ false → Keeps (b path) (c path)) → (path : List ℕ) → Keeps (a path) (c path)
kept_beside a b c is_beside first new second path =
    elim (cases_Bool (is_beside path)) [
      | inl is ↦ subst (λ (known : Option (List ℕ)). Keeps known (c path)) (sym (new path is)) tt
      | inr not ↦ Keeps-trans (a path) (b path) (c path) (first path) (second path not)
    ]
