use Rattle.std.proofs.Common.{rules, ◌≡◌, ◌⊎◌, Option, Some, None, IfOk, subst, inl, inr}
use Rattle.std.proofs.lemmas.Result.{IfOk-weaker, IfErr-weaker}
use Rattle.s4_types.specs.declared.refusals.Cause.{Cause}
use Rattle.s4_types.specs.declared.refusals.Refusal.TheVariants.{NoMemory, Damaged}
use Rattle.codec.specs.declared.versions.ImageVersion.{ImageVersion}
use Rattle.image_parts.specs.declared.marks.ImageMark.TheVariants.{Earlier}
use Rattle.image_parts.specs.Marks.{earlier_in}
use Rattle.image_parts.specs.Image.{Image, image_in}
use Rattle.image_parts.specs.Causes.{HasDigest, FirstSplitCauseBy}
use Rattle.earlier_images.specs.Grammar.{SpellsEarlier, FirstEarlierFault}
use Rattle.earlier_images.specs.Images.{IsEarlierOf}
use Rattle.earlier_images.specs.private.Rest.{FirstEarlierRest}
use Rattle.earlier_images.proofs.Faults.{rest_fault, spelled_where_none}
use Rattle.earlier_images.proofs.reading.read_earlier.Goals as goal

-- the version that was read is the one that the bytes tell
pub returns : goal.returns
returns c =
    let bytes = c.args.bytes.now in
    let digest : HasDigest bytes = search rules in
    let parts = c.in-Ok.parts in
    let v : ImageVersion = c.earlier_version-version.result in
    let is : v ≡ earlier_in bytes = c.earlier_version-version.ensures in
    let split = subst (λ (w : ImageVersion). FirstSplitCauseBy (Earlier w) bytes None) is c.in-Ok.ensures.whole in
    let tested : (found : Option Cause) → FirstEarlierRest v parts found → FirstEarlierFault bytes found = λ found rest.
    rest_fault bytes parts found split c.in-Ok.ensures.read c.in-Ok.ensures.header digest (subst (λ (w : ImageVersion). FirstEarlierRest w parts found) is rest) in
    let IsRead : ImageVersion → Image → Type 0 = λ w image. IfOk c.read_rest.result (λ read. IsEarlierOf w image read) in
    record {
      whole = IfOk-weaker c.read_rest.result (λ image. FirstEarlierRest v parts None) (λ image. SpellsEarlier bytes (image_in bytes))
          (λ image none. spelled_where_none bytes (c.images_with_a_mark.ensures.found (Earlier (earlier_in bytes)) bytes (λ i. (c.type_inv.bytes i).fits)) (tested None none)) c.read_rest.ensures.whole;
      read = subst (λ (w : ImageVersion). IsRead w (image_in bytes)) is (subst (IsRead v) c.in-Ok.ensures.read c.read_rest.ensures.read);
      damaged = IfErr-weaker c.read_rest.result
          (λ e. (e ≡ NoMemory) ⊎ ((cause : Cause) × (e ≡ Damaged cause) × FirstEarlierRest v parts (Some cause)))
          (λ e. (e ≡ NoMemory) ⊎ ((cause : Cause) × (e ≡ Damaged cause) × FirstEarlierFault bytes (Some cause)))
          (λ e why. elim why [
            | inl none ↦ inl none
            | inr found ↦ inr (found.0, found.1, tested (Some found.0) found.2)
          ])
          c.read_rest.ensures.damaged;
    }
