-- Data has no markup, and stays where it is.
use Rattle.std.proofs.Common.{◌≡◌, ◌∙◌, ◌+◌, ◌/◌, ◌%◌, ◌≤◌, ◌++◌, ◌&&◌, ◌==◌, ℕ, true, false, not, List, [], ◌∷◌, codes, flat_map, nat_lt, zero, suc, refl, ap, arith}
use Rattle.std.specs.Fmt.{digit_glyph, digits, digits_onto}
use Rattle.std.specs.List.{list_all, AllByRecursion}
use Rattle.std.specs.Str.{chars}
use Rattle.std.proofs.lemmas.Bool.{cond_both, cond-false, ltb-true, and_parts, and_from, not-true, not_from_false, ne_eqb}
use Rattle.std.proofs.lemmas.List.Folds.{list_all-append}
use lib.Utf8.{encode}
use Rattle.shown_text.specs.Shown.{is_plain, number_of}
use Rattle.history_report.specs.Page.{Escaped, escaped_char, part_text, shown}
use Rattle.history_report.specs.Markup.{Text, Name, Tag, Value, read, is_harmless, DataIsHarmless}

-- such a byte, by its four tests
harmless_by : (b : ℕ) → (b == 60) ≡ false → (b == 62) ≡ false → (b == 34) ≡ false → (b == 39) ≡ false → is_harmless b ≡ true
harmless_by b less greater double single =
    and_from (not (b == 60)) (not (b == 62) && (not (b == 34) && not (b == 39))) (not_from_false (b == 60) less)
    (and_from (not (b == 62)) (not (b == 34) && not (b == 39)) (not_from_false (b == 62) greater)
    (and_from (not (b == 34)) (not (b == 39)) (not_from_false (b == 34) double) (not_from_false (b == 39) single)))

-- a byte that isn't ASCII is harmless
high : (b : ℕ) → 128 ≤ b → is_harmless b ≡ true
high b up = harmless_by b (ne_eqb b 60 (λ is. omega (arith, up, is))) (ne_eqb b 62 (λ is. omega (arith, up, is))) (ne_eqb b 34 (λ is. omega (arith, up, is))) (ne_eqb b 39 (λ is. omega (arith, up, is)))

all_high : (bytes : List ℕ) → AllByRecursion (λ b. 128 ≤ b) bytes → list_all is_harmless bytes ≡ true
all_high [] all = refl
all_high (b ∷ bytes) all = and_from (is_harmless b) (list_all is_harmless bytes) (high b all.0) (all_high bytes all.1)

-- a character that is none of the four is harmless in UTF-8
encoded : (c : ℕ) → is_harmless c ≡ true → list_all is_harmless (encode c) ≡ true
unfolding encode
encoded c harmless =
    let P : List ℕ → Type 0 = λ l. list_all is_harmless l ≡ true in
    cond_both (nat_lt c 128) _ _ P
    (λ _. and_from (is_harmless c) true harmless refl)
    (λ _. cond_both (nat_lt c 2048) _ _ P
    (λ _. all_high ((192 + c / 64) ∷ (128 + c % 64) ∷ []) (omega arith, (omega arith, tt)))
    (λ _. cond_both (nat_lt c 65536) _ _ P
    (λ _. all_high ((224 + c / 4096) ∷ (128 + c / 64 % 64) ∷ (128 + c % 64) ∷ []) (omega arith, (omega arith, (omega arith, tt))))
    (λ _. all_high ((240 + c / 262144) ∷ (128 + c / 4096 % 64) ∷ (128 + c / 64 % 64) ∷ (128 + c % 64) ∷ []) (omega arith, (omega arith, (omega arith, (omega arith, tt)))))))

harmless-append : (xs ys : List ℕ) → list_all is_harmless xs ≡ true → list_all is_harmless ys ≡ true → list_all is_harmless (xs ++ ys) ≡ true
harmless-append xs ys first second = list_all-append is_harmless xs ys ∙ and_from (list_all is_harmless xs) (list_all is_harmless ys) first second

-- so is a number in hex
glyph_harmless : (d : ℕ) → is_harmless (digit_glyph false d) ≡ true
glyph_harmless d =
    cond_both (nat_lt d 10) (48 + d) (87 + d) (λ b. is_harmless b ≡ true)
    (λ low. let small = ltb-true d 10 low in harmless_by (48 + d) (ne_eqb (48 + d) 60 (λ is. omega (arith, small, is))) (ne_eqb (48 + d) 62 (λ is. omega (arith, small, is)))
    (ne_eqb (48 + d) 34 (λ is. omega (arith, is))) (ne_eqb (48 + d) 39 (λ is. omega (arith, is))))
    (λ _. harmless_by (87 + d) (ne_eqb (87 + d) 60 (λ is. omega (arith, is))) (ne_eqb (87 + d) 62 (λ is. omega (arith, is))) (ne_eqb (87 + d) 34 (λ is. omega (arith, is))) (ne_eqb (87 + d) 39 (λ is. omega (arith, is))))

digits_harmless : (k n : ℕ) (acc : List ℕ) → list_all is_harmless acc ≡ true → list_all is_harmless (digits_onto k 16 false n acc) ≡ true
digits_harmless zero n acc all = all
digits_harmless (suc k) n acc all =
    let more : list_all is_harmless (digit_glyph false (n % 16) ∷ acc) ≡ true = and_from (is_harmless (digit_glyph false (n % 16))) (list_all is_harmless acc) (glyph_harmless (n % 16)) all in
    cond_both (n / 16 == 0) (digit_glyph false (n % 16) ∷ acc) (digits_onto k 16 false (n / 16) (digit_glyph false (n % 16) ∷ acc)) (λ l. list_all is_harmless l ≡ true)
    (λ _. more) (λ _. digits_harmless k (n / 16) (digit_glyph false (n % 16) ∷ acc) more)

number_harmless : (c : ℕ) → list_all is_harmless (number_of c) ≡ true
unfolding digits
number_harmless c =
    harmless-append (codes "\\u{") (digits 16 false c ++ codes "}") refl
    (harmless-append (digits 16 false c) (codes "}") (digits_harmless 64 c [] refl) refl)

-- and each character as a page has it
char_harmless : (c : ℕ) → list_all is_harmless (escaped_char c) ≡ true
char_harmless c =
    let P : List ℕ → Type 0 = λ l. list_all is_harmless l ≡ true in
    cond_both (c == 60) _ _ P (λ _. refl)
    (λ less. cond_both (c == 62) _ _ P (λ _. refl)
    (λ greater. cond_both (c == 38) _ _ P (λ _. refl)
    (λ _. cond_both (c == 34) _ _ P (λ _. refl)
    (λ double. cond_both (c == 39) _ _ P (λ _. refl)
    (λ single. cond_both (is_plain c) _ _ P (λ _. encoded c (harmless_by c less greater double single)) (λ _. number_harmless c))))))

chars_harmless : (cs : List ℕ) → list_all is_harmless (flat_map escaped_char cs) ≡ true
chars_harmless [] = refl
chars_harmless (c ∷ cs) =
    list_all-append is_harmless (escaped_char c) (flat_map escaped_char cs)
    ∙ and_from (list_all is_harmless (escaped_char c)) (list_all is_harmless (flat_map escaped_char cs)) (char_harmless c) (chars_harmless cs)

pub data_is_harmless : DataIsHarmless
data_is_harmless bytes = chars_harmless (chars (shown bytes))

-- ---- where a reader is after data

-- a harmless text is read as text
text_read : (text : List ℕ) → list_all is_harmless text ≡ true → read Text text ≡ Text
text_read [] all = refl
text_read (b ∷ text) all =
    let parts = and_parts (is_harmless b) (list_all is_harmless text) all in
    let first = and_parts (not (b == 60)) (not (b == 62) && (not (b == 34) && not (b == 39))) parts.0 in
    ap (λ m. read m text) (cond-false (b == 60) (Name []) Text (not-true (b == 60) first.0)) ∙ text_read text parts.1

-- and as a value
value_read : (text : List ℕ) → list_all is_harmless text ≡ true → read (Value false) text ≡ Value false
value_read [] all = refl
value_read (b ∷ text) all =
    let parts = and_parts (is_harmless b) (list_all is_harmless text) all in
    let first = and_parts (not (b == 60)) (not (b == 62) && (not (b == 34) && not (b == 39))) parts.0 in
    let second = and_parts (not (b == 62)) (not (b == 34) && not (b == 39)) first.1 in
    let third = and_parts (not (b == 34)) (not (b == 39)) second.1 in
    ap (λ m. read m text) (cond-false (b == 34) (Tag false) (Value false) (not-true (b == 34) third.0)) ∙ value_read text parts.1

pub in_text : (bytes : List ℕ) → read Text (part_text (Escaped bytes)) ≡ Text
in_text bytes = text_read (part_text (Escaped bytes)) (data_is_harmless bytes)

pub in_value : (bytes : List ℕ) → read (Value false) (part_text (Escaped bytes)) ≡ Value false
in_value bytes = value_read (part_text (Escaped bytes)) (data_is_harmless bytes)
