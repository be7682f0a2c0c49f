use Rattle.std.proofs.Common.{◌≡◌, ◌∙◌, ◌++◌, ap, Some, false}
use Rattle.jiff_fmt.specs.Text.{datetime_text, zulu_text}
use Rattle.moment_words.proofs.printing.printed.Goals as goal

pub returns : goal.returns
returns c =
    let p = c.precision-printer.result in
    let lower : p.lowercase ≡ false = ap (λ x. x.0) c.precision-printer.ensures ∙ ap (λ x. x.0) c.new.ensures in
    let separator : p.separator ≡ 84 = ap (λ x. x.1) c.precision-printer.ensures ∙ ap (λ x. x.1) c.new.ensures in
    let places : p.precision ≡ Some 6 = ap (λ x. x.2) c.precision-printer.ensures in
    let h = c.timestamp_text.ensures in
    let text : c.timestamp_text.result.bytes ≡ datetime_text false 84 (Some 6) h.0 ++ zulu_text false = rw (h.2, lower, separator, places) in
    (h.0, h.1, text)
