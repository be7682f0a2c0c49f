-- Why bytes that are an image aren't opened.
use Rattle.std.proofs.Common.{◌≡◌, ◌⊎◌, ℕ, List, Some, inl, inr}
use Rattle.s4_types.specs.declared.refusals.Cause.{Cause}
use Rattle.s4_types.specs.declared.refusals.Refusal.{Refusal}
use Rattle.s4_types.specs.declared.refusals.Refusal.TheVariants.{Busy, Damaged, NoMemory}
use Rattle.verifier.specs.Grammar.{FirstFault}

-- where there is none, memory was short
pub want_alone : (bytes : List ℕ) (e : Refusal) → ((cause : Cause) → FirstFault bytes (Some cause) → ⊥) → (e ≡ NoMemory) ⊎ ((cause : Cause) × (e ≡ Damaged cause) × FirstFault bytes (Some cause)) → (e ≡ NoMemory) ⊎ (e ≡ Busy)
want_alone bytes e none (inl is) = inl is
want_alone bytes e none (inr told) = absurd (none told.0 told.2)

pub or_busy : (bytes : List ℕ) (e : Refusal) → (e ≡ NoMemory) ⊎ ((cause : Cause) × (e ≡ Damaged cause) × FirstFault bytes (Some cause)) → (e ≡ NoMemory) ⊎ (e ≡ Busy) ⊎ ((cause : Cause) × (e ≡ Damaged cause) × FirstFault bytes (Some cause))
or_busy bytes e (inl is) = inl is
or_busy bytes e (inr told) = inr (inr told)

pub or_damaged : (bytes : List ℕ) (e : Refusal) → (e ≡ NoMemory) ⊎ (e ≡ Busy) → (e ≡ NoMemory) ⊎ (e ≡ Busy) ⊎ ((cause : Cause) × (e ≡ Damaged cause) × FirstFault bytes (Some cause))
or_damaged bytes e (inl is) = inl is
or_damaged bytes e (inr is) = inr (inl is)
