use Rattle.std.proofs.Common.{◌≡◌, ◌∙◌, ◌*◌, ◌≤◌, pos, arith}
use mir.Syntax.{w128}
use Rattle.std.proofs.lemmas.Int.{to_z-of_z}
use Rattle.std.proofs.lemmas.Result.{IfOk-weaker}
use Rattle.jiff_core.proofs.SignedLemmas.{signed_arith}
use Rattle.moment_words.specs.Texts.{last_dated}
use Rattle.moment_words.proofs.Dates.{is_dated, same_date}
use Rattle.moment_words.proofs.ReadBack.{date_read}
use Rattle.moment_words.proofs.printing.dated_text.Goals as goal

pub returns-in-Ok-clause-text : goal.returns-in-Ok-clause-text
returns-in-Ok-clause-text c =
    let is : c.in-Ok.instant.nanosecond ≡ pos (c.args.moment * 1_000) = c.in-Ok.ensures.value ∙ to_z-of_z w128 _ (omega (arith, signed_arith, c.nanosecond_of.ensures, c.ranges.moment)) ∙ c.nanosecond_of.ensures in
    let low : c.args.moment ≤ last_dated = omega (arith, signed_arith, c.in-Ok.instant.in_range, is) in
    IfOk-weaker c.instant_text.result _ _ (λ text p. same_date c.in-Ok.instant c.args.moment _ is low p ∙ is_dated c.args.moment low) c.instant_text.ensures

pub returns-in-Ok-clause-read : goal.returns-in-Ok-clause-read
returns-in-Ok-clause-read c =
    let is : c.in-Ok.instant.nanosecond ≡ pos (c.args.moment * 1_000) = c.in-Ok.ensures.value ∙ to_z-of_z w128 _ (omega (arith, signed_arith, c.nanosecond_of.ensures, c.ranges.moment)) ∙ c.nanosecond_of.ensures in
    let low : c.args.moment ≤ last_dated = omega (arith, signed_arith, c.in-Ok.instant.in_range, is) in
    IfOk-weaker c.instant_text.result _ _ (λ text p. date_read c.in-Ok.instant c.args.moment _ is low p) c.instant_text.ensures
