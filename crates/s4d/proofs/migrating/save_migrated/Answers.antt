use Rattle.std.proofs.Common.{◌≡◌, List, ℕ, string_bytes, subst, sym}
use Rattle.image_parts.specs.Image.{image_in}
use Rattle.verifier.specs.Grammar.{SpellsDrive}
use Rattle.s4d.specs.Migrating.{parts_line}
use Rattle.s4d.proofs.Lines.{line_read}
use Rattle.s4d.proofs.Unmigrated.{refused_alike}
use Rattle.s4d.proofs.migrating.save_migrated.Goals as goal

pub returns-in-Err-clause-refusal : goal.returns-in-Err-clause-refusal
returns-in-Err-clause-refusal c =
    refused_alike c.as_slice.result.now c.args.bytes.items c.in-Err.refusal c.as_slice.ensures.value c.in-Err.ensures.refusal

-- what was just written encodes an image
pub line_of-requires : goal.line_of-requires
line_of-requires c =
    let migrates = c.in-Ok.ensures.migrates in
    let new : List ℕ = c.in-Ok.new.items in
    let same = c.what_has_no_fault_is_an_image.ensures.read new migrates.is migrates.written in
    record {
      spelled = subst (λ (bytes : List ℕ). SpellsDrive bytes (image_in bytes)) (sym c.as_slice-2.ensures.value) (subst (SpellsDrive new) (sym same) migrates.written);
    }

pub returns-clause-line : goal.returns-clause-line
returns-clause-line c =
    let new : List ℕ = c.in-Ok.new.items in
    let line : List ℕ = string_bytes c.in_ok-line.line in
    let read = c.an_encoded_drive_is_read.ensures.read new c.in-Ok.ensures.migrates.is c.in-Ok.ensures.migrates.written in
    let told : line ≡ parts_line (image_in new) = subst (λ (bytes : List ℕ). line ≡ parts_line (image_in bytes)) c.as_slice-2.ensures.value c.in_ok-line.ensures.line in
    (read.0, read.1, line_read c.an_encoded_drive_is_read.ensures.objects c.what_has_no_fault_is_an_image.ensures.read new read.0 line read.1 told)
