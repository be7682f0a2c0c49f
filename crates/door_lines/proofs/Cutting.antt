-- Bytes that are cut at a newline.
use Rattle.std.proofs.Common.{◌≡◌, ◌∙◌, ℕ, ◌+◌, ◌-◌, ◌≤◌, ◌<◌, ◌==◌, ◌||◌, Bool, true, false, List, [], ◌∷◌, ◌++◌, length, take, drop, get_or, slice_index, Some, None, Option, arith, refl, sym, ap, suc, append_assoc, take-append-drop, drop-cons}
use Rattle.std.proofs.lemmas.List.{drop-drop, drop-take, length-take, take_more}
use Rattle.std.proofs.lemmas.List.Folds.{list_any_more}
use Rattle.door_lines.specs.Lines.{held_of, with_byte}
use Rattle.std.specs.List.{list_any}
use Rattle.std.proofs.lemmas.Bool.Decides.{nat_tests}
use Rattle.door_lines.specs.Reading.{Held, cut_line}
use Rattle.door_lines.specs.private.Scanning.{Finishes, IsScanned, IsUnbroken}
use Rattle.door_lines.proofs.Holding.{held_more}

-- bytes at a place: those before, the byte there, and those after
cut : (bytes : List ℕ) (at byte : ℕ) → at < length bytes → slice_index bytes at ≡ byte → bytes ≡ take at bytes ++ byte ∷ drop (at + 1) bytes
cut bytes at byte within is =
    let next : suc at ≡ at + 1 = omega arith in
    sym (take-append-drop at bytes)
    ∙ ap (λ rest. take at bytes ++ rest) (drop-cons bytes at 0 within ∙ ap (λ b. b ∷ drop (suc at) bytes) is)
    ∙ ap (λ n. take at bytes ++ byte ∷ drop n bytes) next

-- what is left of a range of bytes
rest_after : (piece : List ℕ) (begin end at : ℕ) → begin + (at + 1) ≤ end
    → drop (at + 1) (take (end - begin) (drop begin piece)) ≡ take (end - (begin + (at + 1))) (drop (begin + (at + 1)) piece)
rest_after piece begin end at within =
    let count : end - begin ≡ (at + 1) + (end - (begin + (at + 1))) = omega (arith, within) in
    ap (λ n. drop (at + 1) (take n (drop begin piece))) count
    ∙ drop-take (at + 1) (end - (begin + (at + 1))) (drop begin piece)
    ∙ ap (λ xs. take (end - (begin + (at + 1))) xs) (drop-drop (at + 1) begin piece)

-- a place in a range of bytes is before its end
pub within_end : (piece : List ℕ) (begin end at : ℕ) → begin ≤ end → at < length (take (end - begin) (drop begin piece)) → begin + (at + 1) ≤ end
within_end piece begin end at order less = omega (arith, less, order, length-take (end - begin) (drop begin piece))

-- by the test of the first byte
cut_longer : (byte : ℕ) (part rest : List ℕ) (is_newline : Bool) → (byte == 10) ≡ is_newline → (is_newline || list_any (λ b. b == 10) part) ≡ false
    → (IsUnbroken part → cut_line (part ++ 10 ∷ rest) ≡ Some (part, rest)) → cut_line (byte ∷ part ++ 10 ∷ rest) ≡ Some (byte ∷ part, rest)
cut_longer byte part rest true test none shorter = absurd cc
cut_longer byte part rest false test none shorter = rw (test, shorter none) refl

-- bytes are cut at their first newline
cut_at : (part rest : List ℕ) → IsUnbroken part → cut_line (part ++ 10 ∷ rest) ≡ Some (part, rest)
cut_at [] rest unbroken = refl
cut_at (byte ∷ part) rest unbroken = cut_longer byte part rest (byte == 10) refl unbroken (λ none. cut_at part rest none)

uncut_longer : (byte : ℕ) (bytes : List ℕ) (is_newline : Bool) → (byte == 10) ≡ is_newline → (is_newline || list_any (λ b. b == 10) bytes) ≡ false
    → (IsUnbroken bytes → cut_line bytes ≡ None) → cut_line (byte ∷ bytes) ≡ None
uncut_longer byte bytes true test none shorter = absurd cc
uncut_longer byte bytes false test none shorter = rw (test, shorter none) refl

-- and nowhere where there is none
uncut : (bytes : List ℕ) → IsUnbroken bytes → cut_line bytes ≡ None
uncut [] unbroken = refl
uncut (byte ∷ bytes) unbroken = uncut_longer byte bytes (byte == 10) refl unbroken (λ none. uncut bytes none)

-- a line is whole in a range of bytes
pub whole : (piece : List ℕ) (begin end at : ℕ) (front : List ℕ) (line : Option (List ℕ)) → begin + (at + 1) ≤ end
    → IsScanned front (take (end - begin) (drop begin piece)) (Some at) line
    → Finishes (record { rest = take (end - begin) (drop begin piece); is_full = end == 512 }) front true
    (record { rest = take (end - (begin + (at + 1))) (drop (begin + (at + 1)) piece); is_full = end == 512 }) line
whole piece begin end at front line within s =
    let bytes = take (end - begin) (drop begin piece) in (
      take at bytes,
      ap cut_line (cut bytes at 10 s.0 s.1) ∙ cut_at (take at bytes) (drop (at + 1) bytes) s.2
          ∙ ap (λ rest. Some (take at bytes, rest)) (rest_after piece begin end at within),
      refl,
      s.3,
    )

-- the rest of a line may come in another piece
pub goes_on : (bytes front : List ℕ) (end : ℕ) (line : Option (List ℕ)) (held' : Held) → end ≤ 512 → 512 ≤ end → IsScanned front bytes None line
    → Finishes (record { rest = bytes; is_full = end == 512 }) front false held' line
goes_on bytes front end line held' most full s =
    let test : (end == 512) ≡ true = grind (arith, nat_tests, most, full) in
    (uncut bytes s.0, rw test s.1)

-- half a line was written
pub dropped : (bytes front : List ℕ) (end : ℕ) (line line' : Option (List ℕ)) (held' : Held) → end < 512 → line' ≡ Some [] → IsScanned front bytes None line
    → Finishes (record { rest = bytes; is_full = end == 512 }) front false held' line'
dropped bytes front end line line' held' less none s =
    let test : (end == 512) ≡ false = grind (arith, nat_tests, less) in
    (uncut bytes s.0, rw test none)

-- one byte more that ends no line
pub unbroken_more : (bytes : List ℕ) (at byte : ℕ) → at < length bytes → get_or bytes at 0 ≡ byte → (byte == 10) ≡ false → IsUnbroken (take at bytes) → IsUnbroken (take (at + 1) bytes)
unbroken_more bytes at byte within is other before = list_any_more (λ b. b == 10) bytes at 0 within ∙ rw (before, is, other) refl

-- one byte more is held
pub scanned_more : (front bytes : List ℕ) (at byte : ℕ) (held : Option (List ℕ)) → at < length bytes → get_or bytes at 0 ≡ byte
    → held ≡ held_of (front ++ take at bytes) → with_byte held byte ≡ held_of (front ++ take (at + 1) bytes)
scanned_more front bytes at byte held within is so_far =
    let longer : take (at + 1) bytes ≡ take at bytes ++ byte ∷ [] = take_more bytes at 0 within ∙ ap (λ b. take at bytes ++ b ∷ []) is in
    ap (λ h. with_byte h byte) so_far ∙ held_more (front ++ take at bytes) byte
    ∙ ap held_of (append_assoc front (take at bytes) (byte ∷ []) ∙ ap (λ rest. front ++ rest) (sym longer))
