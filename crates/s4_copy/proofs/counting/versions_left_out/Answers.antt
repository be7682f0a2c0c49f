use Rattle.std.proofs.Common.{Some, inl, inr, refl}
use Rattle.std.proofs.lemmas.Result.{IfErr-weaker, IfOk-weaker, err_from_is_err_and}
use Rattle.image_commands.specs.Verifying.{IsVerified}
use Rattle.s4_images.proofs.Over.{over_opened}
use Rattle.s4_copy.proofs.Failing.{count_unopened, count_unverified}
use Rattle.s4_copy.proofs.counting.versions_left_out.Goals as goal

pub returns-clause-left_out : goal.returns-clause-left_out
returns-clause-left_out g c =
    let bytes = c.args.bytes.now in
    let verified : IsVerified (Some bytes) c.in_ok-image.image = record { bytes = bytes; read = refl; spelled = c.in_ok-image.ensures.whole; told = c.in_ok-image.ensures.told } in
    IfOk-weaker c.lost_of_opened.result _ _ (λ count lost. inr (over_opened (Some bytes) _ _ _ verified c.in_ok-opened.ensures.opened lost)) c.lost_of_opened.ensures.lost

pub returns-in_err-image-clause-refused : goal.returns-in_err-image-clause-refused
returns-in_err-image-clause-refused g c =
    let p = err_from_is_err_and c.from_residual.result c.from_residual.ensures.1 in
    rw (p.1, p.2) (count_unverified c.args.bytes.now c.args.left_out c.in_err-image.field-0.0 c.in_err-image.ensures.damaged)

pub returns-in_err-opened-clause-refused : goal.returns-in_err-opened-clause-refused
returns-in_err-opened-clause-refused g c =
    let p = err_from_is_err_and c.from_residual-in_err-opened.result c.from_residual-in_err-opened.ensures.1 in
    rw (p.1, p.2) (count_unopened c.args.bytes.now c.args.left_out c.in_err-opened.field-0.0 c.if-left_out-eq0.false c.in_err-opened.ensures.refusal)

pub returns-clause-refused : goal.returns-clause-refused
returns-clause-refused g c = IfErr-weaker c.lost_of_opened.result _ _ (λ e memory. inl memory) c.lost_of_opened.ensures.refused
