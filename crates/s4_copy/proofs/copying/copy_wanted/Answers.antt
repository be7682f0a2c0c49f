use Rattle.std.proofs.Common.{◌≡◌, ◌≤◌, ℕ, List, length, inr, sym, ap, subst, ◌∙◌}
use Rattle.std.proofs.lemmas.Result.{err_from_is_err_and}
use Rattle.image_parts.specs.Image.{Image, image_in}
use Rattle.verifier.specs.Grammar.{SpellsDrive}
use Rattle.s4_copy.specs.Copying.{Tells}
use Rattle.s4_copy.proofs.Failing.{copied_refused, uncounted_refused}
use Rattle.s4_copy.proofs.copying.copy_wanted.Goals as goal

pub report_of-report-requires-clause-spelled : goal.report_of-report-requires-clause-spelled
report_of-report-requires-clause-spelled g c =
    let copies = c.in_ok-new.ensures.copies in
    let new : List ℕ = c.in_ok-new.new.items in
    let same = c.what_has_no_fault_is_an_image.ensures.read new copies.is copies.written in
    subst (λ (bytes : List ℕ). SpellsDrive bytes (image_in bytes)) (sym c.as_slice.ensures.value) (subst (SpellsDrive new) (sym same) copies.written)

pub report_of-report-requires-clause-fewer : goal.report_of-report-requires-clause-fewer
report_of-report-requires-clause-fewer g c =
    let copies = c.in_ok-new.ensures.copies in
    let new : List ℕ = c.in_ok-new.new.items in
    let old = c.args.bytes.now in
    let was : image_in old ≡ copies.was = c.what_has_no_fault_is_an_image.ensures.read old copies.was copies.read in
    let is : image_in new ≡ copies.is = c.what_has_no_fault_is_an_image.ensures.read new copies.is copies.written in
    subst (λ (bytes : List ℕ). length (image_in bytes).rows ≤ length c.args.parts.now.rows) (sym c.as_slice.ensures.value)
    (subst (λ (i : Image). length i.rows ≤ length c.args.parts.now.rows) (sym is)
    (subst (λ (i : Image). length copies.is.rows ≤ length i.rows) (sym (c.requires.parts ∙ was)) copies.fewer))

pub returns-in_err-new-clause-refused : goal.returns-in_err-new-clause-refused
returns-in_err-new-clause-refused g c =
    let p = err_from_is_err_and c.from_residual.result c.from_residual.ensures.1 in
    rw (p.1, p.2) (copied_refused c.args.wanted.now c.args.bytes.now c.in_err-new.field-0.0 c.in_err-new.ensures.refusal)

pub returns-in_err-report-clause-refused : goal.returns-in_err-report-clause-refused
returns-in_err-report-clause-refused g c =
    let p = err_from_is_err_and c.from_residual-in_err-report.result c.from_residual-in_err-report.ensures.1 in
    let old = c.args.bytes.now in
    let new : List ℕ = c.in_ok-new.new.items in
    let report = c.report_of-report.result in
    let tells : Tells (image_in old) (image_in new) report = subst (λ (bytes : List ℕ). Tells (image_in old) (image_in bytes) report) c.as_slice.ensures.value
    (subst (λ (i : Image). Tells i (image_in c.as_slice.result.now) report) c.requires.parts c.report_of-report.ensures) in
    rw (p.1, p.2) (inr (uncounted_refused c.args.wanted.now old new report.left_out c.in_err-report.field-0.0 c.in_ok-new.ensures.copies c.in_ok-new.ensures.fits tells.left_out c.in_err-report.ensures.refused))

pub returns-clause-copy : goal.returns-clause-copy
returns-clause-copy g c =
    let old = c.args.bytes.now in
    let new : List ℕ = c.in_ok-new.new.items in
    let report = c.report_of-report.result in
    let tells : Tells (image_in old) (image_in new) report = subst (λ (bytes : List ℕ). Tells (image_in old) (image_in bytes) report) c.as_slice.ensures.value
    (subst (λ (i : Image). Tells i (image_in c.as_slice.result.now) report) c.requires.parts c.report_of-report.ensures) in
    record {
      copies = c.in_ok-new.ensures.copies;
      fits = c.in_ok-new.ensures.fits;
      tells = record { frames = tells.frames; objects = tells.objects; left_out = tells.left_out };
      versions = c.in_ok-report.ensures.left_out;
    }
