use Rattle.std.proofs.lemmas.Result.{IfErr-weaker, IfOk-weaker}
use Rattle.image_parts.specs.Image.{image_in}
use Rattle.verifier.specs.Opened.{begins_with}
use Rattle.kept_drive.proofs.ImageReading.{faultless}
use Rattle.kept_drive.proofs.RefusalLemmas.{or_busy, or_damaged, want_alone}
use Rattle.kept_drive.proofs.recovering.recover.Goals as goal

pub returns-clause-tells : goal.returns-clause-tells
returns-clause-tells g c = IfOk-weaker c.open.result _ _ (λ d tells. tells c.args.bytes.now c.in-Ok.ensures.promise) c.open.ensures.promise

pub returns-clause-goes_on : goal.returns-clause-goes_on
returns-clause-goes_on g c = IfOk-weaker c.open.result _ _ (λ d tells ended is. is.goes_on (begins_with d) (tells c.args.bytes.now c.in-Ok.ensures.promise)) c.open.ensures.promise

pub returns-clause-refusal : goal.returns-clause-refusal
returns-clause-refusal g c = IfErr-weaker c.open.result _ _ (λ e why. or_damaged c.args.bytes.now e why) c.open.ensures.refusal

pub returns-clause-never : goal.returns-clause-never
returns-clause-never g c = λ whole. c.open.ensures.refusal

pub returns-in-Err-clause-refusal : goal.returns-in-Err-clause-refusal
returns-in-Err-clause-refusal g c = or_busy c.args.bytes.now c.in-Err.refusal c.in-Err.ensures.damaged

-- what is an image has no fault
pub returns-in-Err-clause-never : goal.returns-in-Err-clause-never
returns-in-Err-clause-never g c = λ whole.
    want_alone c.args.bytes.now c.in-Err.refusal
    (λ cause first. faultless c.args.bytes.now cause (image_in c.args.bytes.now) first whole)
    c.in-Err.ensures.damaged
