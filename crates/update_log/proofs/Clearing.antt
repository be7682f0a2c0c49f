-- Torn bytes are cleared, and a crash leaves a log with the same payloads.
use Rattle.std.proofs.Common.{◌≡◌, ◌⊎◌, inl, inr, ℕ, zero, suc, ◌+◌, ◌-◌, ◌<◌, ◌≤◌, List, [], ◌∷◌, length, take, slice_index, refl, sym, ap, subst, ◌∙◌, arith, ext_get_or}
use Rattle.std.proofs.lemmas.Bool.{cases_lt}
use Rattle.std.proofs.lemmas.List.{get_or-take, get_or_past, length-take}
use Rattle.sqlite_disk.specs.Disk.{Holds, Mixed, Only, Torn}
use Rattle.update_log.specs.declared.places.Place.{Place}
use Rattle.update_log.specs.Sectors.{zeros}
use Rattle.update_log.specs.Records.{nonzeros}
use Rattle.update_log.specs.Tails.{Masks}
use Rattle.update_log.specs.Logs.{Accepts, tail_of}
use Rattle.update_log.specs.Kept.{IsBlank, LeavesJust}
use Rattle.update_log.specs.Headers.{header_bytes, start}
use Rattle.update_log.proofs.Heading.{header_length}
use Rattle.update_log.proofs.Nonzeros.{bit_more}
use Rattle.update_log.proofs.Recording.{zero_at, zeros_length}
use Rattle.update_log.proofs.Masking.{open_falls}
use Rattle.update_log.proofs.Following.{tail_length}
use Rattle.update_log.proofs.Parting.{blank_open, front_stays, log_stays, tail_at}
use Rattle.update_log.proofs.Writing.{accepts_long}

all_zero : (xs : List ℕ) → nonzeros xs ≡ 0 → (i : ℕ) → slice_index xs i ≡ 0
all_zero [] none i = refl
all_zero (zero ∷ xs) none zero = refl
all_zero (zero ∷ xs) none (suc i) = all_zero xs (omega (arith, none)) i
all_zero (suc x ∷ xs) none i = absurd (omega (arith, none, bit_more x))

-- a tail of zeros
pub none_torn : (p : Place) (f tail : List ℕ) → tail ≡ tail_of p f → nonzeros tail ≡ 0 → IsBlank p.at p.limit f
none_torn p f tail ts none i ge lt =
    let k = i - p.at in
    let at_k : p.at + k ≡ i = omega (arith, ge) in
    ap (λ (j : ℕ). slice_index f j) (sym at_k) ∙ sym (tail_at p f k (omega (arith, ge, lt))) ∙ ap (λ (x : List ℕ). slice_index x k) (sym ts) ∙ all_zero tail none k

module _ (image : List ℕ) (payloads : List (List ℕ)) (p : Place) (n : ℕ) (old : List ℕ) (accepted : Accepts image payloads old p) (at : p.at ≤ p.limit) (wide : n ≡ p.limit - p.at) where
  -- zeros that came through
  pub cleared_blank : (new : List ℕ) → Holds new p.at (zeros n) → IsBlank p.at p.limit new
  cleared_blank new h i ge lt =
      let k = i - p.at in
      let at_k : p.at + k ≡ i = omega (arith, ge) in
      ap (λ (j : ℕ). slice_index new j) (sym at_k) ∙ h.each k (omega (arith, ge, lt, wide, zeros_length n)) ∙ zero_at n k

  pub cleared : (new : List ℕ) → Holds new p.at (zeros n) → Torn p.at n old new → Accepts image payloads new p
  cleared new h t =
      let long = accepts_long image payloads old p accepted in
      let longer : p.limit ≤ length new = omega (arith, long, t.no_shorter) in
      log_stays image payloads old new p accepted (front_stays p.at n p.at old new t (omega arith) (omega (arith, at, long))) longer (blank_open p new longer (cleared_blank new h))

  -- zeros of which some came through
  clearing_masks : (new : List ℕ) → Mixed p.at (zeros n) old new → Masks (tail_of p new) (tail_of p old)
  clearing_masks new m =
      let long = accepts_long image payloads old p accepted in
      let longer : p.limit ≤ length new = omega (arith, long, m.torn.no_shorter) in
      record {
        long = tail_length p new longer ∙ sym (tail_length p old long);
        each = λ i. elim (cases_lt (p.at + i) p.limit) [
          | inr far ↦ inl (get_or_past (tail_of p new) i 0 (omega (arith, far, tail_length p new longer)))
          | inl low ↦ elim (m.each i (omega (arith, low, wide, zeros_length n)) (omega (arith, low, long))) [
            | inl kept ↦ inr (tail_at p new i low ∙ kept ∙ sym (tail_at p old i low))
            | inr came ↦ inl (tail_at p new i low ∙ came ∙ zero_at n i)
          ]
        ];
      }

  pub clearing : (new : List ℕ) → Mixed p.at (zeros n) old new → Accepts image payloads new p
  clearing new m =
      let long = accepts_long image payloads old p accepted in
      let longer : p.limit ≤ length new = omega (arith, long, m.torn.no_shorter) in
      let width : length (zeros n) ≡ n = zeros_length n in
      let torn : Torn p.at n old new = subst (λ (k : ℕ). Torn p.at k old new) width m.torn in
      log_stays image payloads old new p accepted (front_stays p.at n p.at old new torn (omega arith) (omega (arith, at, long))) longer (open_falls (tail_of p new) (tail_of p old) (clearing_masks new m) accepted.1.1.ended)

  pub clearing_leaves : (olds news : List ℕ → Type 0) → Only old olds → ((c : List ℕ) → news c → olds c ⊎ (d : List ℕ) × (olds d × Mixed p.at (zeros n) d c)) → LeavesJust image payloads news
  clearing_leaves olds news only f c may = elim (f c may) [
    | inl was ↦ (p, subst (λ (x : List ℕ). Accepts image payloads x p) (sym (only c was)) accepted)
    | inr from ↦
        (p, clearing c (subst (λ (x : List ℕ). Mixed p.at (zeros n) x c) (only from.0 from.1.0) from.1.1))
  ]

  pub synced_leaves : (olds news : List ℕ → Type 0) → Only old olds → ((c : List ℕ) → news c → olds c) → LeavesJust image payloads news
  synced_leaves olds news only f c may = (p, subst (λ (x : List ℕ). Accepts image payloads x p) (sym (only c (f c may))) accepted)

-- ---- a new log

pub created : (image : List ℕ) (limit : ℕ) (mid new header : List ℕ) → length image ≡ 32 → header ≡ header_bytes image limit → Holds mid 0 (zeros limit) → Torn 0 (length header) mid new → Holds new 0 header → 512 ≤ limit
    → Accepts image [] new (start image limit) × IsBlank 512 limit new
created image limit mid new header l hs z t h room =
    let wide : length header ≡ 512 = ap length hs ∙ header_length image limit l in
    let long : limit ≤ length new = omega (arith, z.within, zeros_length limit, t.no_shorter) in
    let front : take 512 new ≡ header =
    ext_get_or 0 (take 512 new) header (omega (arith, length-take 512 new, long, room, wide))
    (λ i lt.
    let low : i < 512 = omega (arith, lt, length-take 512 new) in
    let from : 0 + i ≡ i = omega arith in
    get_or-take 512 new i 0 low ∙ ap (λ (j : ℕ). slice_index new j) (sym from) ∙ h.each i (omega (arith, low, wide))) in
    let blank : IsBlank 512 limit new = λ i ge lt.
    let from : 0 + i ≡ i = omega arith in
    t.above i (omega (arith, lt, z.within, zeros_length limit)) (omega (arith, ge, wide)) ∙ ap (λ (j : ℕ). slice_index mid j) (sym from) ∙ z.each i (omega (arith, lt, zeros_length limit)) ∙ zero_at limit i in (
      (
        [],
        (
          refl,
          record {
            limit = limit;
            header = record { bytes = front ∙ hs; room = room; long = long };
            records = refl;
            ended = blank_open (start image limit) new long blank;
          },
        ),
      ),
      blank,
    )
