-- A header that is encoded is read, and one that bytes begin with is read of all that begins so.
use Rattle.std.proofs.Common.{◌≡◌, ℕ, ◌+◌, ◌^◌, ◌<◌, ◌≤◌, List, [], ◌∷◌, ◌++◌, refl, sym, ap, ◌∙◌, length, get_or, take, drop, arith, append_assoc, length-append, length-drop}
use Rattle.std.specs.Int.{Width, w16, w32, w64, byte_len, from_be_bytes}
use Rattle.std.proofs.lemmas.List.{take-append-le, drop-append-le}
use Rattle.std.proofs.lemmas.Nat.{from_be_bytes-to_be_bytes_2, from_be_bytes-to_be_bytes_4, from_be_bytes-to_be_bytes_8}
use Rattle.codec.specs.Fields.{number, zeros}
use Rattle.image_parts.specs.Header.{number_in, header_bytes_by, header_in, HasHeaderBy}
use Rattle.image_parts.specs.Marks.{digit_of}
use Rattle.image_parts.specs.declared.marks.ImageMark.{ImageMark}
use Rattle.image_parts.specs.declared.marks.ImageMark.TheVariants.{Earlier, Third}
use Rattle.codec.specs.declared.versions.ImageVersion.TheVariants.{First, Second}
use Rattle.codec.proofs.Zeros.{zeros_length}
use Rattle.image_parts.specs.declared.headers.Header.{Header}

-- the numbers of a header are in their ranges
pub record IsHeader (h : Header) : Type 0 where
  pub frames : h.frames < 2 ^ 16
  pub clock : h.clock < 2 ^ 64
  pub window : h.window < 2 ^ 64
  pub floor : h.floor < 2 ^ 64
  pub next : h.next < 2 ^ 64
  pub rows : h.rows < 2 ^ 32
  pub spans : h.spans < 2 ^ 32
  pub audit : h.audit < 2 ^ 64

made : ℕ → ℕ → ℕ → ℕ → ℕ → ℕ → ℕ → ℕ → Header
made frames clock window floor next rows spans audit = record { frames = frames; clock = clock; window = window; floor = floor; next = next; rows = rows; spans = spans; audit = audit }

same : (a b c d e f g i a' b' c' d' e' f' g' i' : ℕ) → a ≡ a' → b ≡ b' → c ≡ c' → d ≡ d' → e ≡ e' → f ≡ f' → g ≡ g' → i ≡ i' → made a b c d e f g i ≡ made a' b' c' d' e' f' g' i'
same a b c d e f g i a' b' c' d' e' f' g' i' p q r s t u v w = cc

pub header_again : (v : ImageMark) (h : Header) (rest : List ℕ) → IsHeader h → header_in (header_bytes_by v h ++ rest) ≡ h
unfolding header_in header_bytes_by number_in number zeros made
header_again v h rest k =
    same _ _ _ _ _ _ _ _ h.frames h.clock h.window h.floor h.next h.rows h.spans h.audit
    (from_be_bytes-to_be_bytes_2 h.frames k.frames)
    (from_be_bytes-to_be_bytes_8 h.clock k.clock)
    (from_be_bytes-to_be_bytes_8 h.window k.window)
    (from_be_bytes-to_be_bytes_8 h.floor k.floor)
    (from_be_bytes-to_be_bytes_8 h.next k.next)
    (from_be_bytes-to_be_bytes_4 h.rows k.rows)
    (from_be_bytes-to_be_bytes_4 h.spans k.spans)
    (from_be_bytes-to_be_bytes_8 h.audit k.audit)

pub header_length : (v : ImageMark) (h : Header) → length (header_bytes_by v h) ≡ 512
unfolding header_bytes_by number
header_length v h =
    let last = number w64 h.audit ++ zeros 448 in
    let numbers = number w64 h.clock ++ (number w64 h.window ++ (number w64 h.floor ++ (number w64 h.next ++ (number w32 h.rows ++ (number w32 h.spans ++ last))))) in
    omega (arith, length-append (zeros 6) numbers, zeros_length 6, zeros_length 448)

-- what was put out and all after it, where the last part is taken from the one to the other
put_behind : (out before part rest whole : List ℕ) → out ≡ before ++ part → before ++ (part ++ rest) ≡ whole → out ++ rest ≡ whole
put_behind out before part rest whole e is = ap (λ (o : List ℕ). o ++ rest) e ∙ append_assoc before part rest ∙ is

-- the parts of a header put out one after the other
pub header_put : (v : ImageMark) (h : Header) (a b c d e f g i j k l : List ℕ)
    → a ≡ 0x53 ∷ 0x34 ∷ 0x49 ∷ 0x4d ∷ 0x41 ∷ 0x47 ∷ 0x45 ∷ digit_of v ∷ []
    → b ≡ a ++ number w16 h.frames → c ≡ b ++ zeros 6 → d ≡ c ++ number w64 h.clock → e ≡ d ++ number w64 h.window → f ≡ e ++ number w64 h.floor
    → g ≡ f ++ number w64 h.next → i ≡ g ++ number w32 h.rows → j ≡ i ++ number w32 h.spans → k ≡ j ++ number w64 h.audit → l ≡ k ++ zeros 448
    → l ≡ header_bytes_by v h
unfolding header_bytes_by
header_put v h a b c d e f g i j k l is_a is_b is_c is_d is_e is_f is_g is_i is_j is_k is_l =
    let whole = header_bytes_by v h in
    let to_k = zeros 448 in
    let to_j = number w64 h.audit ++ to_k in
    let to_i = number w32 h.spans ++ to_j in
    let to_g = number w32 h.rows ++ to_i in
    let to_f = number w64 h.next ++ to_g in
    let to_e = number w64 h.floor ++ to_f in
    let to_d = number w64 h.window ++ to_e in
    let to_c = number w64 h.clock ++ to_d in
    let to_b = zeros 6 ++ to_c in
    let to_a = number w16 h.frames ++ to_b in
    let from_a : a ++ to_a ≡ whole = ap (λ (o : List ℕ). o ++ to_a) is_a in
    let from_b = put_behind b a (number w16 h.frames) to_b whole is_b from_a in
    let from_c = put_behind c b (zeros 6) to_c whole is_c from_b in
    let from_d = put_behind d c (number w64 h.clock) to_d whole is_d from_c in
    let from_e = put_behind e d (number w64 h.window) to_e whole is_e from_d in
    let from_f = put_behind f e (number w64 h.floor) to_f whole is_f from_e in
    let from_g = put_behind g f (number w64 h.next) to_g whole is_g from_f in
    let from_i = put_behind i g (number w32 h.rows) to_i whole is_i from_g in
    let from_j = put_behind j i (number w32 h.spans) to_j whole is_j from_i in
    is_l ∙ put_behind k j (number w64 h.audit) to_k whole is_k from_j

-- the digit is in its place
digit_is : (v : ImageMark) (bytes : List ℕ) → HasHeaderBy v bytes → get_or (take 512 bytes) 7 0 ≡ digit_of v
unfolding header_bytes_by
digit_is v bytes k = ap (λ (b : List ℕ). get_or b 7 0) k.spelled

one_digit : (a b : ImageMark) → digit_of a ≡ digit_of b → a ≡ b
one_digit (Earlier First) (Earlier First) e = refl
one_digit (Earlier Second) (Earlier Second) e = refl
one_digit Third Third e = refl
one_digit (Earlier First) (Earlier Second) e = absurd (omega (arith, e))
one_digit (Earlier First) Third e = absurd (omega (arith, e))
one_digit (Earlier Second) (Earlier First) e = absurd (omega (arith, e))
one_digit (Earlier Second) Third e = absurd (omega (arith, e))
one_digit Third (Earlier First) e = absurd (omega (arith, e))
one_digit Third (Earlier Second) e = absurd (omega (arith, e))

pub one_mark : (bytes : List ℕ) (a b : ImageMark) → HasHeaderBy a bytes → HasHeaderBy b bytes → a ≡ b
one_mark bytes a b h k = one_digit a b (sym (digit_is a bytes h) ∙ digit_is b bytes k)

-- ---- the header of a front

-- a part of a front is the same with more after it
part : (n k : ℕ) (front rest : List ℕ) → k + n ≤ length front → take n (drop k (front ++ rest)) ≡ take n (drop k front)
part n k front rest le =
    ap (take n) (drop-append-le k front rest (omega (arith, le))) ∙ take-append-le n (drop k front) rest (omega (arith, le, length-drop k front))

number_part : (w : Width) (k : ℕ) (front rest : List ℕ) → k + byte_len w ≤ length front → number_in w (drop k (front ++ rest)) ≡ number_in w (drop k front)
unfolding number_in
number_part w k front rest le = ap (from_be_bytes w) (part (byte_len w) k front rest le)

pub header_of_front : (front rest : List ℕ) → 512 ≤ length front → header_in (front ++ rest) ≡ header_in front
unfolding header_in made
header_of_front front rest le =
    same _ _ _ _ _ _ _ _ _ _ _ _ _ _ _ _
    (number_part w16 8 front rest (omega (arith, le)))
    (number_part w64 16 front rest (omega (arith, le)))
    (number_part w64 24 front rest (omega (arith, le)))
    (number_part w64 32 front rest (omega (arith, le)))
    (number_part w64 40 front rest (omega (arith, le)))
    (number_part w32 48 front rest (omega (arith, le)))
    (number_part w32 52 front rest (omega (arith, le)))
    (number_part w64 56 front rest (omega (arith, le)))
