-- What a command that isn't done leaves.
use Rattle.std.proofs.Common.{ℕ, List, Option, inl, inr}
use Rattle.s4.specs.Performing.{IsUndone}

-- what is done in few words is done in others
pub undone_on : (files files' : List ℕ → Option (List ℕ)) (A B : Type 0) → (A → B) → IsUndone files files' A → IsUndone files files' B
undone_on files files' A B on (inl kept) = inl kept
undone_on files files' A B on (inr done) = inr (on done)
