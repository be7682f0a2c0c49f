use Rattle.std.proofs.Common.{◌≡◌, ◌∙◌, ◌*◌, ◌≤◌, ℕ, List, pos, subst, arith}
use mir.Syntax.{w128}
use Rattle.std.specs.Fmt.{WritesOnOk}
use Rattle.std.proofs.lemmas.Int.{to_z-of_z}
use Rattle.jiff_core.proofs.SignedLemmas.{signed_arith}
use Rattle.moment_words.specs.Texts.{dated_text, last_dated}
use Rattle.moment_words.proofs.Dates.{is_dated, same_date}
use Rattle.moment_words.proofs.printing.write_date.Goals as goal

pub returns-in-Ok : goal.returns-in-Ok
returns-in-Ok g c =
    let moment = c.args.moment in
    let is : c.in-Ok.instant.nanosecond ≡ pos (moment * 1_000) = c.in-Ok.ensures.value ∙ to_z-of_z w128 _ (omega (arith, signed_arith, c.nanosecond_of.ensures, c.ranges.moment)) ∙ c.nanosecond_of.ensures in
    let low : moment ≤ last_dated = omega (arith, signed_arith, c.in-Ok.instant.in_range, is) in
    let text : c.as_str.result.now ≡ dated_text moment = c.as_str.ensures.value ∙ same_date c.in-Ok.instant moment _ is low c.printed.ensures ∙ is_dated moment low in
    subst (λ (bytes : List ℕ). WritesOnOk g.W.Write.write_str_gives c.args.f.now c.write_str.result bytes c.write_str.new.self) text c.write_str.ensures.writes
