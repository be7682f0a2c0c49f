use Rattle.std.proofs.Common.{rules, ◌≡◌, true}
use Rattle.std.specs.List.{list_all}
use Rattle.std.specs.Str.{chars}
use Rattle.history_text.specs.Lines.{is_printable}
use Rattle.history_text.proofs.Printed.{printable_is, no_text_is}
use Rattle.history_text.proofs.attributes.printable_text.Goals as goal

pub returns-in_default-clause-none : goal.returns-in_default-clause-none
returns-in_default-clause-none c = no_text_is c.args.bytes.now c.in_default.ensures.cases.0

pub returns-clause-some : goal.returns-clause-some
returns-clause-some c =
    let same : c.in-Ok.text.now ≡ c.args.bytes.now = search rules in
    let all : list_all is_printable (chars c.in-Ok.text.now) ≡ true = search rules in
    (printable_is c.args.bytes.now c.in-Ok.text.now c.in-Ok.ensures.cases.1 same all, same)
