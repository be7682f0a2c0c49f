-- What is printed in place of a character has letters, digits and signs of ASCII alone.
use Rattle.std.proofs.Common.{◌≡◌, ◌∙◌, ◌+◌, ◌/◌, ◌%◌, ◌<◌, ◌++◌, ◌==◌, ◌&&◌, ℕ, zero, suc, Bool, true, false, not, List, [], ◌∷◌, codes, refl, arith}
use Rattle.std.specs.Fmt.{digit_glyph, digits, digits_onto}
use Rattle.std.specs.List.{list_all, AllByRecursion}
use Rattle.std.specs.Prelude.{slice_index}
use Rattle.std.specs.Str.{IsAscii}
use Rattle.std.proofs.lemmas.Bool.{cond_both, and_parts, and_from}
use Rattle.std.proofs.lemmas.Bool.Decides.{nat_tests}
use Rattle.std.proofs.lemmas.List.Folds.{list_all-append}
use Rattle.std.proofs.lemmas.Str.Ascii.{IsAscii-nil, IsAscii-cons}
use Rattle.hex.specs.Hex.{encode_lower, encode_with, lower_digits}
use Rattle.shown_text.specs.Hidden.{is_between, is_hidden_character}
use Rattle.shown_text.specs.Shown.{number_of, unit_in_json, pair_in_json}

-- whether a byte is one of these
abbrev pub is_letter : ℕ → Bool
is_letter b = is_between 32 126 b

-- none of them is a character that isn't printed as it is
pub letter_plain : (b : ℕ) → is_letter b ≡ true → not (is_hidden_character b) ≡ true
letter_plain b letter = grind (arith, nat_tests)

letter_low : (b : ℕ) → is_letter b ≡ true → b < 128
letter_low b letter = grind (arith, nat_tests)

pub letters_ascii : (bs : List ℕ) → list_all is_letter bs ≡ true → IsAscii bs
letters_ascii [] all = IsAscii-nil
letters_ascii (b ∷ bs) all =
    let parts = and_parts (is_letter b) (list_all is_letter bs) all in
    IsAscii-cons b bs (letter_low b parts.0) (letters_ascii bs parts.1)

-- a text of them is one of characters that pass a test where each of them does
pub letters_pass : (p : ℕ → Bool) → ((b : ℕ) → is_letter b ≡ true → p b ≡ true) → (bs : List ℕ) → list_all is_letter bs ≡ true → list_all p bs ≡ true
letters_pass p pass [] all = refl
letters_pass p pass (b ∷ bs) all =
    let parts = and_parts (is_letter b) (list_all is_letter bs) all in
    and_from (p b) (list_all p bs) (pass b parts.0) (letters_pass p pass bs parts.1)

letters-append : (xs ys : List ℕ) → list_all is_letter xs ≡ true → list_all is_letter ys ≡ true → list_all is_letter (xs ++ ys) ≡ true
letters-append xs ys first second = list_all-append is_letter xs ys ∙ and_from (list_all is_letter xs) (list_all is_letter ys) first second

-- ---- a number in hex

glyph_letter : (d : ℕ) → d < 16 → is_letter (digit_glyph false d) ≡ true
glyph_letter d small = grind (arith, nat_tests)

digits_letters : (k n : ℕ) (acc : List ℕ) → list_all is_letter acc ≡ true → list_all is_letter (digits_onto k 16 false n acc) ≡ true
digits_letters zero n acc all = all
digits_letters (suc k) n acc all =
    let more : list_all is_letter (digit_glyph false (n % 16) ∷ acc) ≡ true = and_from (is_letter (digit_glyph false (n % 16))) (list_all is_letter acc) (glyph_letter (n % 16) (omega arith)) all in
    cond_both (n / 16 == 0) (digit_glyph false (n % 16) ∷ acc) (digits_onto k 16 false (n / 16) (digit_glyph false (n % 16) ∷ acc)) (λ l. list_all is_letter l ≡ true)
    (λ _. more) (λ _. digits_letters k (n / 16) (digit_glyph false (n % 16) ∷ acc) more)

pub number_letters : (c : ℕ) → list_all is_letter (number_of c) ≡ true
unfolding digits
number_letters c =
    letters-append (codes "\\u{") (digits 16 false c ++ codes "}") refl
    (letters-append (digits 16 false c) (codes "}") (digits_letters 64 c [] refl) refl)

-- ---- units of UTF-16

digit_letter : (d : ℕ) → d < 16 → is_letter (slice_index lower_digits d) ≡ true
digit_letter zero small = refl
digit_letter (suc zero) small = refl
digit_letter (suc (suc zero)) small = refl
digit_letter (suc (suc (suc zero))) small = refl
digit_letter (suc (suc (suc (suc zero)))) small = refl
digit_letter (suc (suc (suc (suc (suc zero))))) small = refl
digit_letter (suc (suc (suc (suc (suc (suc zero)))))) small = refl
digit_letter (suc (suc (suc (suc (suc (suc (suc zero))))))) small = refl
digit_letter (suc (suc (suc (suc (suc (suc (suc (suc zero)))))))) small = refl
digit_letter (suc (suc (suc (suc (suc (suc (suc (suc (suc zero))))))))) small = refl
digit_letter (suc (suc (suc (suc (suc (suc (suc (suc (suc (suc zero)))))))))) small = refl
digit_letter (suc (suc (suc (suc (suc (suc (suc (suc (suc (suc (suc zero))))))))))) small = refl
digit_letter (suc (suc (suc (suc (suc (suc (suc (suc (suc (suc (suc (suc zero)))))))))))) small = refl
digit_letter (suc (suc (suc (suc (suc (suc (suc (suc (suc (suc (suc (suc (suc zero))))))))))))) small = refl
digit_letter (suc (suc (suc (suc (suc (suc (suc (suc (suc (suc (suc (suc (suc (suc zero)))))))))))))) small = refl
digit_letter (suc (suc (suc (suc (suc (suc (suc (suc (suc (suc (suc (suc (suc (suc (suc zero))))))))))))))) small = refl
digit_letter (suc (suc (suc (suc (suc (suc (suc (suc (suc (suc (suc (suc (suc (suc (suc (suc n)))))))))))))))) small = absurd (omega (arith, small))

encoded_letters : (bs : List ℕ) → AllByRecursion (λ b. b < 256) bs → list_all is_letter (encode_lower bs) ≡ true
unfolding encode_with
encoded_letters [] all = refl
encoded_letters (b ∷ bs) all =
    and_from (is_letter (slice_index lower_digits (b / 16))) (is_letter (slice_index lower_digits (b % 16)) && list_all is_letter (encode_lower bs)) (digit_letter (b / 16) (omega (arith, all.0)))
    (and_from (is_letter (slice_index lower_digits (b % 16))) (list_all is_letter (encode_lower bs)) (digit_letter (b % 16) (omega arith)) (encoded_letters bs all.1))

pub unit_letters : (unit : ℕ) → unit < 65536 → list_all is_letter (unit_in_json unit) ≡ true
unit_letters unit small =
    letters-append (codes "\\u") (encode_lower (unit / 256 ∷ unit % 256 ∷ [])) refl
    (encoded_letters (unit / 256 ∷ unit % 256 ∷ []) (omega (arith, small), (omega arith, tt)))

pub pair_letters : (above : ℕ) → above < 1048576 → list_all is_letter (pair_in_json above) ≡ true
pair_letters above small =
    letters-append (unit_in_json (0xd800 + above / 1024)) (unit_in_json (0xdc00 + above % 1024))
    (unit_letters (0xd800 + above / 1024) (omega (arith, small))) (unit_letters (0xdc00 + above % 1024) (omega arith))
