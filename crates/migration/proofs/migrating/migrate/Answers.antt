use Rattle.std.proofs.Common.{◌≡◌, ◌⊎◌, inl, inr, ℕ, List, Some, subst, sym}
use Rattle.std.proofs.lemmas.Result.{IfOk-weaker, IfErr-weaker}
use Rattle.s4_types.specs.declared.refusals.Cause.{Cause as Found}
use Rattle.s4_types.specs.declared.refusals.Refusal.TheVariants.{NoMemory, Damaged, NoRoom}
use Rattle.verifier.specs.Grammar.{FirstFault, SpellsDrive}
use Rattle.verifier.specs.Images.{ImageFields}
use Rattle.verifier.specs.Opened.{IsReadOf}
use Rattle.earlier_images.specs.Grammar.{FirstEarlierFault}
use Rattle.migration.specs.Migrated.{IsTooMuch, LaysOut, Migrates}
use Rattle.migration.proofs.migrating.migrate.Goals as goal

pub returns-clause-migrates : goal.returns-clause-migrates
returns-clause-migrates g c =
    let old = c.args.bytes.now in
    let new = c.in_ok-new.new.items in
    IfOk-weaker c.verify.result (λ (image : ImageFields). IsReadOf c.as_slice.result.now image) (λ (image : ImageFields). (x : List ℕ) × Migrates old x × LaysOut old x × IsReadOf x image)
    (λ image read. (new, c.in_ok-new.ensures.migrates, c.in_ok-new.ensures.layout, subst (λ (bytes : List ℕ). IsReadOf bytes image) c.as_slice.ensures.value read)) c.verify.ensures.promise

pub returns-clause-refusal : goal.returns-clause-refusal
returns-clause-refusal g c =
    let old = c.args.bytes.now in
    let written = c.in_ok-new.ensures.migrates.written in
    IfErr-weaker c.verify.result (λ e. (e ≡ NoMemory) ⊎ ((cause : Found) × (e ≡ Damaged cause) × FirstFault c.as_slice.result.now (Some cause)))
    (λ e. (e ≡ NoMemory) ⊎ (((e ≡ NoRoom) × IsTooMuch old) ⊎ ((cause : Found) × (e ≡ Damaged cause) × FirstEarlierFault old (Some cause))))
    (λ e bad. elim bad [
      | inl memory ↦ inl memory
      | inr fault ↦ absurd (c.what_has_a_fault_spells_nothing.ensures c.as_slice.result.now fault.0 c.in_ok-new.ensures.migrates.is fault.2
          (subst (λ (bytes : List ℕ). SpellsDrive bytes c.in_ok-new.ensures.migrates.is) (sym c.as_slice.ensures.value) written))
    ]) c.verify.ensures.damaged
