use Rattle.std.proofs.Common.{◌≡◌, ◌⊎◌, inl, inr, List, ℕ, Some}
use Rattle.s4_types.specs.declared.refusals.Cause.{Cause as Found}
use Rattle.s4_types.specs.declared.refusals.Refusal.{Refusal}
use Rattle.s4_types.specs.declared.refusals.Refusal.TheVariants.{NoMemory, Damaged}
use Rattle.image_parts.specs.Image.{image_in}
use Rattle.earlier_images.specs.Grammar.{FirstEarlierFault}
use Rattle.image_salvage.specs.Salvaging.{IsEarlier}
use Rattle.image_salvage.proofs.salvaging.is_earlier.Goals as goal

-- bytes that are damaged, by what refused them, are no image of an earlier version
damaged : (bytes : List ℕ) (e : Refusal) (cause : Found) → ((found : Found) → FirstEarlierFault bytes (Some found) → IsEarlier bytes → ⊥)
    → (e ≡ NoMemory) ⊎ ((found : Found) × (e ≡ Damaged found) × FirstEarlierFault bytes (Some found)) → e ≡ Damaged cause → IsEarlier bytes → ⊥
damaged bytes e cause law (inl memory) is earlier = absurd (cc)
damaged bytes e cause law (inr (found, same, fault)) is earlier = law found fault earlier

pub returns-in-Err-Damaged-clause-earlier : goal.returns-in-Err-Damaged-clause-earlier
returns-in-Err-Damaged-clause-earlier c =
    let bytes = c.args.bytes.now in
    let cause = c.in-Err-Damaged.field-0-0 in
    let refused : c.in-Err-Damaged.field-0 ≡ Damaged cause = cc in
    damaged bytes c.in-Err-Damaged.field-0 cause (λ found. c.what_has_a_fault_spells_nothing.ensures bytes found (image_in bytes)) c.in-Err-Damaged.ensures.damaged refused
