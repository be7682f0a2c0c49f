-- What is held of a line, byte by byte.
use Rattle.std.proofs.Common.{◌≡◌, ◌∙◌, ℕ, ◌&&◌, Bool, true, false, nat_le, nat_lt, List, [], ◌∷◌, ◌++◌, length, Some, None, if◌then◌else◌, arith, refl, length-append}
use Rattle.std.specs.List.{list_all}
use Rattle.std.proofs.lemmas.Bool.Decides.{nat_tests}
use Rattle.std.proofs.lemmas.List.Folds.{list_all-append}
use Rattle.door_lines.specs.Lines.{held_of, is_name_byte, with_byte}

pub plain_more : (line : List ℕ) (byte : ℕ) → list_all is_name_byte line ≡ true → is_name_byte byte ≡ true → list_all is_name_byte (line ++ byte ∷ []) ≡ true
plain_more line byte plain one = list_all-append is_name_byte line (byte ∷ []) ∙ rw (plain, one) refl

plain_both : (a b : Bool) → (a && (b && true)) ≡ (a && b)
plain_both true true = refl
plain_both true false = refl
plain_both false b = refl

-- the tests of a line that is one byte longer
all_more : (line : List ℕ) (byte : ℕ) → list_all is_name_byte (line ++ byte ∷ []) ≡ (list_all is_name_byte line && is_name_byte byte)
all_more line byte = list_all-append is_name_byte line (byte ∷ []) ∙ plain_both (list_all is_name_byte line) (is_name_byte byte)

short_more : (line : List ℕ) (byte : ℕ) → nat_le (length (line ++ byte ∷ [])) 64 ≡ nat_lt (length line) 64
short_more line byte = grind (arith, nat_tests, length-append)

-- by the tests of the line and of the byte
joined : (line : List ℕ) (byte : ℕ) (a b c d : Bool) → (c ≡ true → a ≡ true) → nat_lt (length line) 64 ≡ c → is_name_byte byte ≡ d
    → with_byte (if a && b then Some line else None) byte ≡ (if c && (b && d) then Some (line ++ byte ∷ []) else None)
joined line byte true true c d up is one = rw (is, one) refl
joined line byte true false true d up is one = refl
joined line byte true false false d up is one = refl
joined line byte false b true d up is one = let e : false ≡ true = up refl in absurd cc
joined line byte false b false d up is one = refl

-- what is held goes on with what is held of the longer line
pub held_more : (line : List ℕ) (byte : ℕ) → with_byte (held_of line) byte ≡ held_of (line ++ byte ∷ [])
held_more line byte =
    let j = joined line byte (nat_le (length line) 64) (list_all is_name_byte line) (nat_lt (length line) 64) (is_name_byte byte) (λ h. grind (arith, nat_tests)) refl refl in
    rw (short_more line byte, all_more line byte) j
