-- Audit rows that are encoded are read, and what is read of them is encoded.
use Rattle.std.proofs.Common.{◌≡◌, ◌≢◌, ℕ, zero, suc, ◌+◌, ◌-◌, ◌*◌, ◌<◌, ◌≤◌, List, ◌∷◌, ◌++◌, length, get_or, take, drop, refl, sym, ap, ◌∙◌, arith}
use Rattle.std.specs.List.{flat_map, AllByRecursion}
use Rattle.std.proofs.lemmas.List.{drop_more}
use Rattle.std.proofs.lemmas.Nat.{from_be_bytes-to_be_bytes_8}
use Rattle.lemmas.proofs.Bytes.{bytes_after, IsBytes}
use Rattle.codec.specs.Fields.{number}
use Rattle.image_parts.specs.Header.{number_in}
use Rattle.image_parts.specs.Audit.{IsAuditPart, audit_bytes, audit_in, audits_in}
use Rattle.image_parts.specs.declared.audit.AuditPart.{AuditPart}
use Rattle.image_parts.proofs.NumberLaws.{long_below}
use Rattle.image_parts.proofs.RowLaws.{all_back, all_again, all_length, longer, eight_back}

made : ℕ → ℕ → ℕ → ℕ → ℕ → AuditPart
made moment kind object first second = record { moment = moment; kind = kind; object = object; first = first; second = second }

same : (a b c d e a' b' c' d' e' : ℕ) → a ≡ a' → b ≡ b' → c ≡ c' → d ≡ d' → e ≡ e' → made a b c d e ≡ made a' b' c' d' e'
same a b c d e a' b' c' d' e' p q r s t = cc

audit_again : (a : AuditPart) (rest : List ℕ) → IsAuditPart a → audit_in (audit_bytes a ++ rest) ≡ a
unfolding audit_in audit_bytes number_in number made
audit_again a rest k =
    same _ _ _ _ _ a.moment a.kind a.object a.first a.second
    (from_be_bytes-to_be_bytes_8 a.moment k.moment)
    refl
    (from_be_bytes-to_be_bytes_8 a.object k.object)
    (from_be_bytes-to_be_bytes_8 a.first k.first)
    (from_be_bytes-to_be_bytes_8 a.second k.second)

audit_behind : (a : AuditPart) (rest : List ℕ) → drop 33 (audit_bytes a ++ rest) ≡ rest
unfolding audit_bytes number
audit_behind a rest = refl

audit_length : (a : AuditPart) → length (audit_bytes a) ≡ 33
unfolding audit_bytes number
audit_length a = refl

-- one byte more in front of others
one_longer : (n at : ℕ) (bytes rest : List ℕ) → at < length bytes → rest ≡ take n (drop (at + 1) bytes) → get_or bytes at 0 ∷ rest ≡ take (suc n) (drop at bytes)
one_longer n at bytes rest lt is = ap (λ (b : List ℕ). get_or bytes at 0 ∷ b) is ∙ sym (ap (take (suc n)) (drop_more bytes at 0 lt))

audit_back : (bytes : List ℕ) → IsBytes bytes → 33 ≤ length bytes → audit_bytes (audit_in bytes) ≡ take 33 bytes
unfolding audit_in audit_bytes
audit_back bytes h le =
    let a = eight_back 0 bytes h (omega (arith, le)) in
    let c = eight_back 9 bytes h (omega (arith, le)) in
    let d = eight_back 17 bytes h (omega (arith, le)) in
    let e = eight_back 25 bytes h (omega (arith, le)) in
    rw (a, c, d, e) (longer 25 0 bytes _ (one_longer 24 8 bytes _ (omega (arith, le)) (longer 16 9 bytes _ (longer 8 17 bytes _ refl))))

pub audits_back : (n : ℕ) (bytes : List ℕ) → IsBytes bytes → 33 * n ≤ length bytes → flat_map audit_bytes (audits_in n bytes) ≡ take (33 * n) bytes
audits_back = all_back 33 audit_bytes audit_in audits_in (λ bytes. refl) (λ n bytes. refl) audit_back

pub audits_again : (rows : List AuditPart) (rest : List ℕ) → AllByRecursion IsAuditPart rows → audits_in (length rows) (flat_map audit_bytes rows ++ rest) ≡ rows
audits_again = all_again 33 audit_bytes audit_in audits_in (λ bytes. refl) (λ n bytes. refl) IsAuditPart audit_again audit_behind

pub audits_length : (rows : List AuditPart) → length (flat_map audit_bytes rows) ≡ 33 * length rows
audits_length = all_length 33 audit_bytes audit_in audits_in (λ bytes. refl) (λ n bytes. refl) audit_length

audit_is : (bytes : List ℕ) → IsBytes bytes → IsAuditPart (audit_in bytes)
unfolding audit_in
audit_is bytes h = record {
  moment = long_below bytes h;
  kind = h 8;
  object = long_below (drop 9 bytes) (bytes_after 9 bytes h);
  first = long_below (drop 17 bytes) (bytes_after 17 bytes h);
  second = long_below (drop 25 bytes) (bytes_after 25 bytes h);
}

pub audits_are : (n : ℕ) (bytes : List ℕ) → IsBytes bytes → AllByRecursion IsAuditPart (audits_in n bytes)
audits_are zero bytes h = tt
audits_are (suc n) bytes h = (audit_is bytes h, audits_are n (drop 33 bytes) (bytes_after 33 bytes h))

-- ---- one after the other, as loops go over them

pub audits_count : (count : ℕ) (bytes : List ℕ) → length (audits_in count bytes) ≡ count
audits_count zero bytes = refl
audits_count (suc n) bytes = omega (arith, audits_count n (drop 33 bytes))

audits_more : (count : ℕ) (bytes : List ℕ) → count ≢ 0 → audits_in count bytes ≡ audit_in bytes ∷ audits_in (count - 1) (drop 33 bytes)
audits_more zero bytes some = absurd (some refl)
audits_more (suc n) bytes some = let k : suc n - 1 ≡ n = omega arith in rw k refl

-- the first of some audit rows, and those after it
pub next_audit : (rows : List AuditPart) (count : ℕ) (bytes rest : List ℕ) (row : AuditPart) → audits_in count bytes ≡ rows → count ≢ 0 → row ≡ audit_in bytes → rest ≡ drop 33 bytes → rows ≡ row ∷ audits_in (count - 1) rest
next_audit rows count bytes rest row all some first behind = sym all ∙ rw (first, behind) (audits_more count bytes some)
