use Rattle.std.proofs.Common.{rules, ◌≡◌, ◌∙◌, List, ℕ, sym}
use Rattle.std.specs.Str.{IsUtf8, is_utf8}
use Rattle.std.proofs.lemmas.Bool.{cond-true, cond-false, false_from_ne_true}
use Rattle.std.proofs.lemmas.Str.{is_utf8-from_IsUtf8, IsUtf8-from_is_utf8}
use Rattle.serde_json.specs.Data.{Data, null, string}
use Rattle.serde_json.specs.View.{view}
use Rattle.serde_json.specs.declared.value.Value.{Null, the_lemmas}
use Rattle.history_text.specs.Json.{text_data}
use Rattle.history_text.proofs.json.text_value.Goals as goal

is_text : (bytes : List ℕ) (value : Data) → IsUtf8 bytes → value ≡ string bytes → value ≡ text_data bytes
is_text bytes value utf8 is = is ∙ sym (cond-true (is_utf8 bytes) (string bytes) null (is_utf8-from_IsUtf8 bytes utf8))

is_no_text : (bytes : List ℕ) → (IsUtf8 bytes → ⊥) → null ≡ text_data bytes
is_no_text bytes none = sym (cond-false (is_utf8 bytes) (string bytes) null (false_from_ne_true (is_utf8 bytes) (λ is. none (IsUtf8-from_is_utf8 bytes is))))

pub returns-in_ok-from_str-in-Ok : goal.returns-in_ok-from_str-in-Ok
returns-in_ok-from_str-in-Ok c =
    let is : view c.from.result ≡ string c.args.bytes.now = search rules in
    is_text c.args.bytes.now (view c.from.result) c.in-Ok.ensures.cases.1 is

pub returns-in-Err : goal.returns-in-Err
returns-in-Err c =
    let seen : view Null ≡ null = search (rules, the_lemmas) in
    seen ∙ is_no_text c.args.bytes.now c.in-Err.ensures.cases.0
