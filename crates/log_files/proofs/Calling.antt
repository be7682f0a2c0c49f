-- Which calls of the system were made.
use Rattle.std.proofs.Common.{◌≡◌, ◌==◌, ◌++◌, ℕ, Bool, true, List, [], ◌∷◌, IsTrue, refl, ap, ◌∙◌}
use Rattle.std.specs.List.{list_all}
use Rattle.std.proofs.lemmas.Bool.{and_from}
use Rattle.std.proofs.lemmas.List.Folds.{list_all-append}
use Rattle.std.proofs.lemmas.Bool.Decides.{Decides-eqb}
use Rattle.host_calls.specs.Events.{Event, Written, Cut, Synced}
use Rattle.log_files.specs.Called.{CallsOnly, is_of}

-- none
pub calls_none : (n : ℕ) (calls : List Event) → CallsOnly n calls calls
calls_none n calls = record { more = []; came = refl; each = refl }

joined : (p : Event → Bool) (xs ys : List Event) → IsTrue (list_all p xs) → IsTrue (list_all p ys) → IsTrue (list_all p (xs ++ ys))
joined p xs ys h k = list_all-append p xs ys ∙ and_from (list_all p xs) (list_all p ys) h k

-- one more
pub calls_one : (n : ℕ) (call : Event) (old now new : List Event) → IsTrue (is_of n call) → CallsOnly n old now → new ≡ call ∷ now → CallsOnly n old new
calls_one n call old now new of so is = record {
  more = call ∷ so.more;
  came = is ∙ ap (λ (calls : List Event). call ∷ calls) so.came;
  each = and_from (is_of n call) (list_all (is_of n) so.more) of so.each;
}

itself : (n : ℕ) → (n == n) ≡ true
itself n = (Decides-eqb n n).1 refl

pub calls_write : (n at : ℕ) (bytes : List ℕ) (is_ok : Bool) (old new : List Event) → new ≡ Written n at bytes is_ok ∷ old → CallsOnly n old new
calls_write n at bytes is_ok old new is = calls_one n (Written n at bytes is_ok) old old new (itself n) (calls_none n old) is

pub calls_cut : (n len : ℕ) (is_ok : Bool) (old new : List Event) → new ≡ Cut n len is_ok ∷ old → CallsOnly n old new
calls_cut n len is_ok old new is = calls_one n (Cut n len is_ok) old old new (itself n) (calls_none n old) is

pub calls_sync : (n : ℕ) (is_ok : Bool) (old new : List Event) → new ≡ Synced n is_ok ∷ old → CallsOnly n old new
calls_sync n is_ok old new is = calls_one n (Synced n is_ok) old old new (itself n) (calls_none n old) is

added : (xs ys : List Event) (one two three : List Event) → two ≡ xs ++ one → three ≡ ys ++ two → three ≡ (ys ++ xs) ++ one
added xs [] one two three is also = also ∙ is
added xs (y ∷ ys) one two three is also = also ∙ ap (λ (calls : List Event). y ∷ calls) (added xs ys one two (ys ++ two) is refl)

-- and then some more
pub calls_then : (n : ℕ) (one two three : List Event) → CallsOnly n one two → CallsOnly n two three → CallsOnly n one three
calls_then n one two three so then = record {
  more = then.more ++ so.more;
  came = added so.more then.more one two three so.came then.came;
  each = joined (is_of n) then.more so.more then.each so.each;
}
