-- What is shown has plain characters alone, and plain text stays as it is.
use Rattle.std.proofs.Common.{◌≡◌, ◌∙◌, ◌-◌, ◌<◌, ◌≤◌, ◌++◌, ◌==◌, ◌&&◌, ◌||◌, ◌⊎◌, inl, inr, ℕ, Bool, true, false, not, List, [], ◌∷◌, flat_map, nat_lt, refl, sym, ap, arith}
use Rattle.std.specs.Char.{encode_utf8, IsScalar}
use Rattle.std.specs.List.{list_all}
use Rattle.std.specs.Str.{IsUtf8, chars, encode_utf8_all, all_scalars}
use Rattle.std.proofs.Math.Utf8.{scalar_cases}
use Rattle.std.proofs.lemmas.Bool.{cond_both, cond-true, cond-false, and_parts, and_from}
use Rattle.std.proofs.lemmas.Bool.Decides.{nat_tests}
use Rattle.std.proofs.lemmas.List.{append-nil}
use Rattle.std.proofs.lemmas.List.Folds.{list_all-append}
use Rattle.std.proofs.lemmas.Str.{IsUtf8-nil, IsUtf8-append, IsUtf8-encode, IsUtf8-from_ascii, chars-nil, chars-append, chars-encodes, chars-IsAscii, encodes-chars, scalars-chars}
use Rattle.shown_text.specs.Hidden.{is_hidden_character}
use Rattle.shown_text.specs.Shown.{is_plain, number_of, shown_in_lines, units_in_json, unit_in_json, pair_in_json, shown_in_json, LinesArePlain, PlainLinesStay, JsonIsPlain, PlainJsonStays}
use Rattle.shown_text.proofs.Letters.{is_letter, letter_plain, letters_ascii, letters_pass, number_letters, unit_letters, pair_letters}

-- text whose characters pass a test
abbrev Passes : (ℕ → Bool) → List ℕ → Type 0
Passes p bs = IsUtf8 bs × (list_all p (chars bs) ≡ true)

-- a character that passes is such a text
one_passes : (p : ℕ → Bool) (c : ℕ) → IsScalar c → p c ≡ true → Passes p (encode_utf8 c)
one_passes p c scalar pass =
    let alone : chars (encode_utf8 c) ≡ c ∷ [] = ap chars (sym (append-nil (encode_utf8 c))) ∙ chars-encodes (c ∷ []) (ap (λ b. b && true) scalar) in
    (IsUtf8-encode c scalar, ap (list_all p) alone ∙ and_from (p c) true pass refl)

-- letters are where each of them passes
letters_are : (p : ℕ → Bool) → ((b : ℕ) → is_letter b ≡ true → p b ≡ true) → (bs : List ℕ) → list_all is_letter bs ≡ true → Passes p bs
letters_are p pass bs all =
    let ascii = letters_ascii bs all in
    (IsUtf8-from_ascii bs ascii, ap (list_all p) (chars-IsAscii bs ascii) ∙ letters_pass p pass bs all)

-- texts of characters, one after the other
all_pass : (p : ℕ → Bool) (f : ℕ → List ℕ) → ((c : ℕ) → IsScalar c → Passes p (f c)) → (cs : List ℕ) → all_scalars cs ≡ true → Passes p (flat_map f cs)
all_pass p f each [] scalars = (IsUtf8-nil, ap (list_all p) chars-nil)
all_pass p f each (c ∷ cs) scalars =
    let parts = and_parts _ (all_scalars cs) scalars in
    let first = each c parts.0 in
    let rest = all_pass p f each cs parts.1 in (
      IsUtf8-append (f c) (flat_map f cs) first.0 rest.0,
      ap (list_all p) (chars-append (f c) (flat_map f cs) first.0) ∙ list_all-append p (chars (f c)) (chars (flat_map f cs))
          ∙ and_from (list_all p (chars (f c))) (list_all p (chars (flat_map f cs))) first.1 rest.1,
    )

-- characters that are shown as they are
all_stay : (p : ℕ → Bool) (f : ℕ → List ℕ) → ((c : ℕ) → p c ≡ true → f c ≡ encode_utf8 c) → (cs : List ℕ) → list_all p cs ≡ true → flat_map f cs ≡ encode_utf8_all cs
all_stay p f same [] all = refl
all_stay p f same (c ∷ cs) all =
    let parts = and_parts (p c) (list_all p cs) all in
    ap (λ front. front ++ flat_map f cs) (same c parts.0) ∙ ap (λ rest. encode_utf8 c ++ rest) (all_stay p f same cs parts.1)

-- ---- lines

letter_in_lines : (b : ℕ) → is_letter b ≡ true → is_plain b ≡ true
letter_in_lines b letter = ap (λ x. b == 10 || x) (letter_plain b letter) ∙ or_true (b == 10)
  where
    or_true : (x : Bool) → (x || true) ≡ true
    or_true true = refl
    or_true false = refl

line_passes : (c : ℕ) → IsScalar c → Passes is_plain (shown_in_lines c)
line_passes c scalar =
    cond_both (is_plain c) (encode_utf8 c) (number_of c) (Passes is_plain)
    (λ plain. one_passes is_plain c scalar plain)
    (λ _. letters_are is_plain letter_in_lines (number_of c) (number_letters c))

pub lines_are_plain : LinesArePlain
lines_are_plain text utf8 = (all_pass is_plain shown_in_lines line_passes (chars text) (scalars-chars text utf8)).1

pub plain_lines_stay : PlainLinesStay
plain_lines_stay text utf8 all =
    all_stay is_plain shown_in_lines (λ c plain. cond-true (is_plain c) (encode_utf8 c) (number_of c) plain) (chars text) all ∙ encodes-chars text utf8

-- ---- JSON

abbrev is_shown : ℕ → Bool
is_shown c = not (is_hidden_character c)

units_pass : (c : ℕ) → IsScalar c → Passes is_shown (units_in_json c)
units_pass c scalar =
    cond_both (nat_lt c 0x10000) (unit_in_json c) (pair_in_json (c - 0x10000)) (Passes is_shown)
    (λ low. letters_are is_shown letter_plain (unit_in_json c) (unit_letters c (below low)))
    (λ _. letters_are is_shown letter_plain (pair_in_json (c - 0x10000)) (pair_letters (c - 0x10000) (above (scalar_cases c scalar))))
  where
    below : nat_lt c 0x10000 ≡ true → c < 65536
    below low = grind (arith, nat_tests)

    above : (c < 55296) ⊎ ((57344 ≤ c) × (c < 1114112)) → c - 0x10000 < 1048576
    above (inl small) = omega (arith, small)
    above (inr high) = omega (arith, high.1)

json_passes : (c : ℕ) → IsScalar c → Passes is_shown (shown_in_json c)
json_passes c scalar =
    cond_both (is_hidden_character c) (units_in_json c) (encode_utf8 c) (Passes is_shown)
    (λ _. units_pass c scalar)
    (λ shown. one_passes is_shown c scalar (ap not shown))

pub json_is_plain : JsonIsPlain
json_is_plain text utf8 = (all_pass is_shown shown_in_json json_passes (chars text) (scalars-chars text utf8)).1

stays : (c : ℕ) → is_shown c ≡ true → shown_in_json c ≡ encode_utf8 c
stays c shown = cond-false (is_hidden_character c) (units_in_json c) (encode_utf8 c) (denied (is_hidden_character c) shown)
  where
    denied : (b : Bool) → not b ≡ true → b ≡ false
    denied true is = sym is
    denied false is = refl

pub plain_json_stays : PlainJsonStays
plain_json_stays text utf8 all = all_stay is_shown shown_in_json stays (chars text) all ∙ encodes-chars text utf8
