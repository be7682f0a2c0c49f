-- Which bytes are shown as text.
use Rattle.std.proofs.Common.{◌≡◌, ◌∙◌, ◌++◌, ◌&&◌, ℕ, true, false, List, codes, sym, ap, subst}
use Rattle.std.specs.List.{list_all}
use Rattle.std.specs.Str.{chars, is_utf8, IsUtf8}
use Rattle.std.proofs.lemmas.Bool.{and_from, and_right, cond-true, cond-false, false_from_ne_true}
use Rattle.std.proofs.lemmas.Str.{is_utf8-from_IsUtf8, IsUtf8-from_is_utf8}
use Rattle.hex.specs.Hex.{encode_lower}
use Rattle.history_text.specs.Lines.{is_printable, are_printable, printed_attribute}

-- text of printable characters is printable
pub printable_is : (bytes text : List ℕ) → IsUtf8 bytes → text ≡ bytes → list_all is_printable (chars text) ≡ true → are_printable bytes ≡ true
printable_is bytes text utf8 same all =
    and_from (is_utf8 bytes) (list_all is_printable (chars bytes)) (is_utf8-from_IsUtf8 bytes utf8) (subst (λ (t : List ℕ). list_all is_printable (chars t) ≡ true) same all)

-- other text isn't
pub unprintable_is : (bytes text : List ℕ) → text ≡ bytes → list_all is_printable (chars text) ≡ false → are_printable bytes ≡ false
unprintable_is bytes text same all =
    and_right (is_utf8 bytes) (list_all is_printable (chars bytes)) (subst (λ (t : List ℕ). list_all is_printable (chars t) ≡ false) same all)

-- nor are bytes that are no text
pub no_text_is : (bytes : List ℕ) → (IsUtf8 bytes → ⊥) → are_printable bytes ≡ false
no_text_is bytes none =
    ap (λ b. b && list_all is_printable (chars bytes)) (false_from_ne_true (is_utf8 bytes) (λ is. none (IsUtf8-from_is_utf8 bytes is)))

-- printable bytes are shown between quotation marks
pub quoted_is : (bytes text : List ℕ) → are_printable bytes ≡ true → text ≡ bytes → codes "\"" ++ (text ++ codes "\"") ≡ printed_attribute bytes
quoted_is bytes text is same =
    ap (λ t. codes "\"" ++ (t ++ codes "\"")) same ∙ sym (cond-true (are_printable bytes) (codes "\"" ++ (bytes ++ codes "\"")) (encode_lower bytes) is)

-- others are in hex
pub hex_is : (bytes : List ℕ) → are_printable bytes ≡ false → encode_lower bytes ≡ printed_attribute bytes
hex_is bytes is = sym (cond-false (are_printable bytes) (codes "\"" ++ (bytes ++ codes "\"")) (encode_lower bytes) is)
