use Rattle.std.proofs.Common.{rules, ◌≡◌, ◌⊎◌, Some, None, IfOk, subst, inl, inr}
use Rattle.std.proofs.lemmas.Result.{IfOk-weaker, IfErr-weaker}
use Rattle.s4_types.specs.declared.refusals.Cause.{Cause}
use Rattle.s4_types.specs.declared.refusals.Refusal.TheVariants.{NoMemory, Damaged}
use Rattle.image_parts.specs.Image.{Image, image_in}
use Rattle.image_parts.specs.Causes.{HasDigest}
use Rattle.verifier.specs.Grammar.{SpellsDrive, FirstFault}
use Rattle.verifier.specs.Images.{IsImageOf}
use Rattle.verifier.specs.Opened.{IsReadOf}
use Rattle.verifier.specs.private.Rest.{FirstRestCause}
use Rattle.verifier.proofs.Ends.{both_ok}
use Rattle.verifier.proofs.Faults.{rest_fault, spelled_where_none}
use Rattle.verifier.proofs.verifying.verify.Goals as goal

pub returns-clause-whole : goal.returns-clause-whole
returns-clause-whole g c =
    let bytes = c.args.bytes.now in
    let digest : HasDigest bytes = search rules in
    let parts = c.in-Ok.parts in
    IfOk-weaker c.read_beside_digest-has_digest.result.1 (λ image. FirstRestCause parts None) (λ image. SpellsDrive bytes (image_in bytes))
    (λ image none. spelled_where_none bytes (c.what_no_test_refuses_is_an_image.ensures bytes (λ i. (c.type_inv.bytes i).fits))
    (rest_fault bytes parts None c.in-Ok.ensures.whole c.in-Ok.ensures.read c.in-Ok.ensures.header digest none))
    c.read_beside_digest-has_digest.ensures.whole

pub returns-clause-told : goal.returns-clause-told
returns-clause-told g c =
    let P : Image → Type 0 = λ parts. IfOk c.read_beside_digest-has_digest.result.1 (λ image. IsImageOf parts image) in
    subst P c.in-Ok.ensures.read c.read_beside_digest-has_digest.ensures.told

pub returns-clause-damaged : goal.returns-clause-damaged
returns-clause-damaged g c =
    let bytes = c.args.bytes.now in
    let digest : HasDigest bytes = search rules in
    let parts = c.in-Ok.parts in
    IfErr-weaker c.read_beside_digest-has_digest.result.1
    (λ e. (e ≡ NoMemory) ⊎ ((cause : Cause) × (e ≡ Damaged cause) × FirstRestCause parts (Some cause)))
    (λ e. (e ≡ NoMemory) ⊎ ((cause : Cause) × (e ≡ Damaged cause) × FirstFault bytes (Some cause)))
    (λ e why. elim why [
      | inl none ↦ inl none
      | inr told ↦ inr (told.0, told.1, rest_fault bytes parts (Some told.0) c.in-Ok.ensures.whole c.in-Ok.ensures.read c.in-Ok.ensures.header digest told.2)
    ])
    c.read_beside_digest-has_digest.ensures.damaged

pub returns-clause-promise : goal.returns-clause-promise
returns-clause-promise g c =
    let bytes = c.args.bytes.now in
    both_ok (λ image. SpellsDrive bytes (image_in bytes)) (λ image. IsImageOf (image_in bytes) image) (IsReadOf bytes) c.read_beside_digest-has_digest.result.1
    (λ image spelled told. record { parts = image_in bytes; spelled = spelled; told = told }) (returns-clause-whole g c) (returns-clause-told g c)
