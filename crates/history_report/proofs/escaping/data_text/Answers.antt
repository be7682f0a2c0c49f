use Rattle.std.proofs.Common.{◌≡◌, ◌∙◌, IfOk, ℕ, List, string_bytes, sym, subst}
use Rattle.hex.specs.Hex.{encode_lower}
use Rattle.std.specs.Str.{is_utf8}
use Rattle.std.proofs.lemmas.Bool.{cond-true, cond-false, false_from_ne_true}
use Rattle.std.proofs.lemmas.Str.{is_utf8-from_IsUtf8, IsUtf8-from_is_utf8}
use Rattle.history_report.specs.Page.{escaped, shown}
use Rattle.history_report.proofs.escaping.data_text.Goals as goal

pub returns-in-Ok : goal.returns-in-Ok
returns-in-Ok c =
    let bytes = c.args.bytes.now in
    let same : c.in-Ok.text.now ≡ shown bytes = c.in-Ok.ensures.cases.0 ∙ sym (cond-true (is_utf8 bytes) bytes (encode_lower bytes) (is_utf8-from_IsUtf8 bytes c.in-Ok.ensures.cases.1)) in
    subst (λ (x : List ℕ). IfOk c.escaped.result (λ text. string_bytes text ≡ escaped x)) same c.escaped.ensures

pub returns-in-Err : goal.returns-in-Err
returns-in-Err c =
    let bytes = c.args.bytes.now in
    let same : encode_lower bytes ≡ shown bytes = sym (cond-false (is_utf8 bytes) bytes (encode_lower bytes) (false_from_ne_true (is_utf8 bytes) (λ is. c.in-Err.ensures.cases.0 (IsUtf8-from_is_utf8 bytes is)))) in
    subst (λ (x : List ℕ). IfOk c.digits_text.result (λ text. string_bytes text ≡ escaped x)) same c.digits_text.ensures
