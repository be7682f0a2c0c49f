-- What the parser's contract says of the words of a command line.
use Rattle.std.proofs.Common.{◌≡◌, List, [], Result, Ok, Err, IfErr, true, subst}
use Rattle.clap.specs.Simple.{App}
use Rattle.clap.specs.Faults.{fault_of, is_simple_and_free}
use Rattle.clap.specs.Kinds.{HasKind}
use Rattle.clap.specs.Walk.{Text}
use Rattle.clap.specs.declared.error.Error.{Error}

-- where the parser gives matches, the words have no fault
pub no_fault : (line app : App) (words : List Text) → is_simple_and_free line ≡ true → app ≡ line
    → (is_simple_and_free app ≡ true → fault_of app words ≡ []) → fault_of line words ≡ []
no_fault line app words free is none = subst (λ (a : App). is_simple_and_free a ≡ true → fault_of a words ≡ []) is none free

-- where it fails, it is for a fault of the words
pub same_fault : (line app : App) (words : List Text) (error : Error) → is_simple_and_free line ≡ true → app ≡ line
    → (is_simple_and_free app ≡ true → HasKind (fault_of app words) error) → HasKind (fault_of line words) error
same_fault line app words error free is has =
    subst (λ (a : App). is_simple_and_free a ≡ true → HasKind (fault_of a words) error) is has free

-- what holds of a failure holds of it under one premise more
pub under_premise : {A E : Type 0} (Q T : Type 0) → (r : Result A E) (P : E → Type 0) → IfErr r (λ e. P e → Q) → IfErr r (λ e. P e → T → Q)
under_premise Q T (Ok a) P q = tt
under_premise Q T (Err e) P q = λ p _. q p
