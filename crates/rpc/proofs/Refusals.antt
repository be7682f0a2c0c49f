-- A number names a refusal exactly where the refusal has it.
use Rattle.std.proofs.Common.{◌≡◌, ◌≢◌, ℕ, Bool, true, false, cond, eqb, List, [], ◌∷◌, Option, Some, None, refl, sym, ◌∙◌}
use Rattle.std.proofs.lemmas.Bool.{eqb-true}
use Rattle.s4_types.specs.RefusalNumber.{number_of, HasWireNumber}
use Rattle.s4_types.specs.declared.refusals.Refusal.{Refusal}
use Rattle.s4_types.specs.declared.refusals.Refusal.TheVariants.{NoObject, NotAdmin, Expired, Future, Flushed, TooLarge, BadSpan, TooManySpans, NoSpace, NoMemory, ClockEnd, ChainFull, BadAttr, Busy, BadFrame, Damaged, Stale, NoRoom, InUse}
use Rattle.rpc.specs.private.Reading.{refusals, first_with, refusal_of_code}

-- the first has the number, or the others are asked
first_or_other : (first refusal : Refusal) (n : ℕ) (b : Bool) (other : Option Refusal) → eqb (number_of first) n ≡ b → (other ≡ Some refusal → number_of refusal ≡ n) → cond b (Some first) other ≡ Some refusal → number_of refusal ≡ n
first_or_other first refusal n true other t behind e = let same : first ≡ refusal = cc in rw (← same) (eqb-true (number_of first) n t)
first_or_other first refusal n false other t behind e = behind e

found_first : (refusal : Refusal) (n : ℕ) (all : List Refusal) → first_with n all ≡ Some refusal → number_of refusal ≡ n
found_first refusal n [] e = absurd cc
found_first refusal n (first ∷ others) e = first_or_other first refusal n (eqb (number_of first) n) (first_with n others) refl (found_first refusal n others) e

not_sixteen : (n : ℕ) (x : Option Refusal) (refusal : Refusal) (b : Bool) → eqb n 16 ≡ b → cond b None x ≡ Some refusal → (n ≢ 16) × (x ≡ Some refusal)
not_sixteen n x refusal true t e = absurd cc
not_sixteen n x refusal false t e = ((λ same. let one : eqb n 16 ≡ true = rw same refl in absurd cc), e)

pub refusal_found : (n : ℕ) (refusal : Refusal) → refusal_of_code n ≡ Some refusal → HasWireNumber refusal n
unfolding refusal_of_code
refusal_found n refusal e = let p = not_sixteen n (first_with n refusals) refusal (eqb n 16) refl e in (found_first refusal n refusals p.1, p.0)

of_its_number : (refusal : Refusal) → number_of refusal ≢ 16 → refusal_of_code (number_of refusal) ≡ Some refusal
unfolding refusal_of_code
of_its_number NoObject h = refl
of_its_number NotAdmin h = refl
of_its_number Expired h = refl
of_its_number Future h = refl
of_its_number Flushed h = refl
of_its_number TooLarge h = refl
of_its_number BadSpan h = refl
of_its_number TooManySpans h = refl
of_its_number NoSpace h = refl
of_its_number NoMemory h = refl
of_its_number ClockEnd h = refl
of_its_number ChainFull h = refl
of_its_number BadAttr h = refl
of_its_number Busy h = refl
of_its_number BadFrame h = refl
of_its_number (Damaged cause) h = absurd (h refl)
of_its_number Stale h = refl
of_its_number NoRoom h = refl
of_its_number InUse h = refl

pub refusal_again : (n : ℕ) (refusal : Refusal) → HasWireNumber refusal n → refusal_of_code n ≡ Some refusal
refusal_again n refusal h = rw (← h.0) (of_its_number refusal (λ e. h.1 (sym h.0 ∙ e)))

nothing_named : (n : ℕ) (other : Option Refusal) → refusal_of_code n ≡ other → ((refusal : Refusal) → HasWireNumber refusal n → None ≡ Some refusal) → None ≡ refusal_of_code n
nothing_named n None e only = sym e
nothing_named n (Some refusal) e only = only refusal (refusal_found n refusal e) ∙ sym e

-- what answers a refusal exactly where one has the number
pub refusal_is : (n : ℕ) (found : Option Refusal) → ((refusal : Refusal) → found ≡ Some refusal → HasWireNumber refusal n) → ((refusal : Refusal) → HasWireNumber refusal n → found ≡ Some refusal) → found ≡ refusal_of_code n
refusal_is n (Some refusal) names only = sym (refusal_again n refusal (names refusal refl))
refusal_is n None names only = nothing_named n (refusal_of_code n) refl only
