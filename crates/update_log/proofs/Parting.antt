-- What a write leaves of a log's bytes, and which of its records.
use Rattle.std.proofs.Common.{◌≡◌, inl, inr, ℕ, ◌+◌, ◌-◌, ◌<◌, ◌≤◌, List, [], ◌∷◌, ◌++◌, length, take, drop, slice_index, sym, ap, subst, ◌∙◌, arith, length-append, ext_get_or}
use Rattle.std.proofs.lemmas.Bool.{cases_lt}
use Rattle.std.proofs.lemmas.List.{drop-take, take-take, length-take, get_or-drop, get_or-take, get_or_past, get_or_append_left}
use Rattle.sqlite_disk.specs.Disk.{Mixed, Torn}
use Rattle.update_log.specs.declared.places.Place.{Place}
use Rattle.update_log.specs.Sectors.{size_of, zeros}
use Rattle.update_log.specs.Records.{Entry, after}
use Rattle.update_log.specs.Tails.{IsOpen, Masks}
use Rattle.update_log.specs.Headers.{IsHeader, start}
use Rattle.update_log.specs.Logs.{Accepts, Begins, Reaches, payloads_of, tail_of}
use Rattle.update_log.specs.Kept.{IsBlank}
use Rattle.update_log.proofs.Recording.{zero_at, zeros_length, zeros_open}
use Rattle.update_log.proofs.Following.{payloads_more, reaches_more, tail_length}

-- ---- bytes

pub front_stays : (at n k : ℕ) (old new : List ℕ) → Torn at n old new → k ≤ at → k ≤ length old → take k new ≡ take k old
front_stays at n k old new t le long =
    ext_get_or 0 (take k new) (take k old) (omega (arith, length-take k new, length-take k old, t.no_shorter, long))
    (λ i lt.
    let low : i < k = omega (arith, lt, length-take k new) in
    get_or-take k new i 0 low ∙ t.below i (omega (arith, low, long)) (omega (arith, low, le)) ∙ sym (get_or-take k old i 0 low))

-- a byte of a tail
pub tail_at : (p : Place) (f : List ℕ) (i : ℕ) → p.at + i < p.limit → slice_index (tail_of p f) i ≡ slice_index f (p.at + i)
unfolding tail_of
tail_at p f i lt = get_or-drop p.at (take p.limit f) i 0 ∙ get_or-take p.limit f (p.at + i) 0 lt

-- a blank tail
pub blank_tail : (p : Place) (f : List ℕ) → p.limit ≤ length f → IsBlank p.at p.limit f → tail_of p f ≡ zeros (p.limit - p.at)
blank_tail p f long blank =
    let n = p.limit - p.at in
    let wide = tail_length p f long in
    ext_get_or 0 (tail_of p f) (zeros n) (wide ∙ sym (zeros_length n))
    (λ i lt.
    let low : p.at + i < p.limit = omega (arith, lt, wide) in
    tail_at p f i low ∙ blank (p.at + i) (omega arith) low ∙ sym (zero_at n i))

pub blank_open : (p : Place) (f : List ℕ) → p.limit ≤ length f → IsBlank p.at p.limit f → IsOpen (tail_of p f)
blank_open p f long blank = subst IsOpen (sym (blank_tail p f long blank)) (zeros_open (p.limit - p.at))

-- each byte from a place on is that of a record, or zero
pub mixed_masks : (p : Place) (limit : ℕ) (bytes old new : List ℕ) → Mixed p.at bytes old new → p.at + length bytes ≤ p.limit → p.limit ≤ limit → limit ≤ length old → IsBlank p.at limit old
    → Masks (tail_of p new) (bytes ++ zeros (p.limit - p.at - length bytes))
mixed_masks p limit bytes old new m room le long blank =
    let n = length bytes in
    let z = p.limit - p.at - n in
    let wide : length (tail_of p new) ≡ p.limit - p.at = tail_length p new (omega (arith, le, long, m.torn.no_shorter)) in
    let whole : length (bytes ++ zeros z) ≡ p.limit - p.at = omega (arith, length-append bytes (zeros z), zeros_length z, room) in
    record {
      long = wide ∙ sym whole;
      each = λ i. elim (cases_lt (p.at + i) p.limit) [
        | inr far ↦ inl (get_or_past (tail_of p new) i 0 (omega (arith, far, wide)))
        | inl low ↦ elim (cases_lt i n) [
          | inl within ↦ elim (m.each i within (omega (arith, low, le, long))) [
            | inl kept ↦ inl (tail_at p new i low ∙ kept ∙ blank (p.at + i) (omega arith) (omega (arith, low, le)))
            | inr came ↦ inr (tail_at p new i low ∙ came ∙ sym (get_or_append_left bytes (zeros z) 0 i within))
          ]
          | inr past ↦ inl (tail_at p new i low ∙ m.torn.above (p.at + i) (omega (arith, low, le, long)) (omega (arith, past)) ∙ blank (p.at + i) (omega arith) (omega (arith, low, le)))
        ]
      ];
    }

-- what is above a write stays blank
pub blank_above : (at n limit : ℕ) (old new : List ℕ) → Torn at n old new → limit ≤ length old → IsBlank at limit old → IsBlank (at + n) limit new
blank_above at n limit old new t long blank i ge lt = t.above i (omega (arith, lt, long)) ge ∙ blank i (omega (arith, ge)) lt

-- ---- records

pub begins_stays : (p : Place) (e : Entry) (f c : List ℕ) (n : ℕ) → Begins p e f → p.at + size_of (length e.payload) ≤ n → take n c ≡ take n f → e.limit ≤ length c → Begins p e c
begins_stays p e f c n b le same long =
    let s = size_of (length e.payload) in
    let all : take (p.at + s) c ≡ take (p.at + s) f = sym (take-take (p.at + s) n c le) ∙ ap (λ (x : List ℕ). take (p.at + s) x) same ∙ take-take (p.at + s) n f le in
    record {
      within = b.within;
      bytes = sym (drop-take p.at s c) ∙ ap (λ (x : List ℕ). drop p.at x) all ∙ drop-take p.at s f ∙ b.bytes;
      grows = b.grows;
      long = long;
      small = b.small;
    }

pub reaches_far : (es : List Entry) (p : Place) (f : List ℕ) (end : Place) → Reaches es p f end → (p.at ≤ end.at) × (p.limit ≤ end.limit)
reaches_far [] p f end r = subst (λ (q : Place). (p.at ≤ q.at) × (p.limit ≤ q.limit)) (sym r) (omega arith, omega arith)
reaches_far (e ∷ es) p f end r =
    let far = reaches_far es (after p e) f end r.1 in
    (omega (arith, far.0), omega (arith, far.1, r.0.grows))

pub reaches_stay : (es : List Entry) (p : Place) (f c : List ℕ) (end : Place) → Reaches es p f end → take end.at c ≡ take end.at f → end.limit ≤ length c → Reaches es p c end
reaches_stay [] p f c end r same long = r
reaches_stay (e ∷ es) p f c end r same long =
    let far = reaches_far es (after p e) f end r.1 in
    (begins_stays p e f c end.at r.0 far.0 same (omega (arith, far.1, long)), reaches_stay es (after p e) f c end r.1 same long)

header_stays : (image : List ℕ) (limit : ℕ) (f c : List ℕ) (n : ℕ) → IsHeader image limit f → 512 ≤ n → take n c ≡ take n f → limit ≤ length c → IsHeader image limit c
header_stays image limit f c n h le same long = record {
  bytes = sym (take-take 512 n c le) ∙ ap (λ (x : List ℕ). take 512 x) same ∙ take-take 512 n f le ∙ h.bytes;
  room = h.room;
  long = long;
}

-- a log with the same bytes up to its end
pub log_stays : (image : List ℕ) (payloads : List (List ℕ)) (f c : List ℕ) (end : Place) → Accepts image payloads f end → take end.at c ≡ take end.at f → end.limit ≤ length c → IsOpen (tail_of end c) → Accepts image payloads c end
log_stays image payloads f c end a same long is =
    let log = a.1.1 in
    let far = reaches_far a.0 (start image log.limit) f end log.records in (
      a.0,
      (
        a.1.0,
        record {
          limit = log.limit;
          header = header_stays image log.limit f c end.at log.header far.0 same (omega (arith, far.1, long));
          records = reaches_stay a.0 (start image log.limit) f c end log.records same long;
          ended = is;
        },
      ),
    )

-- a log with a record more
pub log_grows : (image : List ℕ) (payloads : List (List ℕ)) (f c : List ℕ) (end : Place) (e : Entry) → Accepts image payloads f end → take end.at c ≡ take end.at f → Begins end e c → IsOpen (tail_of (after end e) c)
    → Accepts image (payloads ++ payloads_of (e ∷ [])) c (after end e)
log_grows image payloads f c end e a same b is =
    let log = a.1.1 in
    let far = reaches_far a.0 (start image log.limit) f end log.records in
    let long : end.limit ≤ length c = omega (arith, b.grows, b.long) in (
      a.0 ++ e ∷ [],
      (
        payloads_more a.0 e ∙ ap (λ (ps : List (List ℕ)). ps ++ payloads_of (e ∷ [])) a.1.0,
        record {
          limit = log.limit;
          header = header_stays image log.limit f c end.at log.header far.0 same (omega (arith, far.1, long));
          records = reaches_more a.0 e (start image log.limit) c end (reaches_stay a.0 (start image log.limit) f c end log.records same long) b;
          ended = is;
        },
      ),
    )
