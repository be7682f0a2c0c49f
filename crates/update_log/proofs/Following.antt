-- How records follow each other.
use Rattle.std.proofs.Common.{◌≡◌, ◌≢◌, ◌⊎◌, inl, inr, ℕ, ◌+◌, ◌-◌, ◌^◌, ◌<◌, ◌≤◌, Bool, true, false, ◌==◌, if◌then◌else◌, List, [], ◌∷◌, ◌++◌, length, take, drop, refl, sym, ap, subst, ◌∙◌, arith, length-append, length-drop}
use Rattle.std.proofs.lemmas.List.{drop-take, take-take, take-append-drop, length-take}
use Rattle.update_log.specs.declared.places.Place.{Place}
use Rattle.update_log.specs.Sectors.{size_of}
use Rattle.update_log.specs.Records.{Entry, IsEntry, after, record_bytes}
use Rattle.update_log.specs.Tails.{IsOpen, entry_in, length_in, limit_in, long_in, payload_in, weight, word_in}
use Rattle.update_log.specs.Headers.{IsHeader, start}
use Rattle.update_log.specs.Logs.{Accepts, Begins, FailsAt, HasNoLog, Reaches, payloads_of, tail_of}
use Rattle.update_log.proofs.Heading.{one_image, one_limit}
use Rattle.update_log.proofs.Recording.{entry_again, length_again, limit_again, payload_again, record_length, weight_again}

-- the tail is the bytes from the place on, up to the limit
pub tail_is : (p : Place) (f : List ℕ) → p.at ≤ p.limit → tail_of p f ≡ take (p.limit - p.at) (drop p.at f)
unfolding tail_of
tail_is p f le =
    let e : p.limit ≡ p.at + (p.limit - p.at) = omega (arith, le) in
    ap (λ (n : ℕ). drop p.at (take n f)) e ∙ drop-take p.at (p.limit - p.at) f

pub tail_front : (p : Place) (f : List ℕ) (n : ℕ) → p.at + n ≤ p.limit → take n (tail_of p f) ≡ take n (drop p.at f)
tail_front p f n le = ap (λ (x : List ℕ). take n x) (tail_is p f (omega (arith, le))) ∙ take-take n (p.limit - p.at) (drop p.at f) (omega (arith, le))

pub tail_length : (p : Place) (f : List ℕ) → p.limit ≤ length f → length (tail_of p f) ≡ p.limit - p.at
unfolding tail_of
tail_length p f le = omega (arith, length-drop p.at (take p.limit f), length-take p.limit f, le)

pub is_entry : (p : Place) (e : Entry) (f : List ℕ) → Begins p e f → length f < 2 ^ 64 → IsEntry e
is_entry p e f b lt = record { limit = omega (arith, b.long, lt); small = b.small }

rest_of : Place → Entry → List ℕ → List ℕ
rest_of p e f = drop (size_of (length e.payload)) (tail_of p f)

begins_tail : (p : Place) (e : Entry) (f : List ℕ) → Begins p e f → tail_of p f ≡ record_bytes p e ++ rest_of p e f
unfolding rest_of
begins_tail p e f b =
    let n = size_of (length e.payload) in
    sym (take-append-drop n (tail_of p f)) ∙ ap (λ (x : List ℕ). x ++ drop n (tail_of p f)) (tail_front p f n b.within ∙ b.bytes)

pub begins_weight : (p : Place) (e : Entry) (f : List ℕ) → Begins p e f → length f < 2 ^ 64 → weight (tail_of p f) ≡ 2 ^ 32 - 1
begins_weight p e f b lt = ap weight (begins_tail p e f b) ∙ weight_again p e (rest_of p e f) (is_entry p e f b lt)

pub begins_length : (p : Place) (e : Entry) (f : List ℕ) → Begins p e f → length f < 2 ^ 64 → length_in (tail_of p f) ≡ length e.payload
begins_length p e f b lt = ap length_in (begins_tail p e f b) ∙ length_again p e (rest_of p e f) (is_entry p e f b lt)

pub begins_limit : (p : Place) (e : Entry) (f : List ℕ) → Begins p e f → length f < 2 ^ 64 → limit_in (tail_of p f) ≡ e.limit
begins_limit p e f b lt = ap limit_in (begins_tail p e f b) ∙ limit_again p e (rest_of p e f) (is_entry p e f b lt)

pub begins_payload : (p : Place) (e : Entry) (f : List ℕ) → Begins p e f → length f < 2 ^ 64 → payload_in (tail_of p f) ≡ e.payload
begins_payload p e f b lt = ap payload_in (begins_tail p e f b) ∙ payload_again p e (rest_of p e f) (is_entry p e f b lt)

pub begins_long : (p : Place) (e : Entry) (f : List ℕ) → Begins p e f → size_of (length e.payload) ≤ length (tail_of p f)
begins_long p e f b = omega (arith, ap length (begins_tail p e f b), length-append (record_bytes p e) (rest_of p e f), record_length p e)

-- a place has one record at most
pub one_entry : (p : Place) (e o : Entry) (f : List ℕ) → Begins p e f → Begins p o f → length f < 2 ^ 64 → e ≡ o
one_entry p e o f b c lt =
    sym (ap entry_in (begins_tail p e f b) ∙ entry_again p e (rest_of p e f) (is_entry p e f b lt)) ∙ (ap entry_in (begins_tail p o f c) ∙ entry_again p o (rest_of p o f) (is_entry p o f c lt))

-- and none where it has an end
pub not_both : (p : Place) (e : Entry) (f : List ℕ) → Begins p e f → length f < 2 ^ 64 → IsOpen (tail_of p f) → ⊥
not_both p e f b lt is = omega (arith, is.missing (omega (arith, begins_long p e f b)), begins_weight p e f b lt)

-- ---- from one place to another

pub reaches_more : (es : List Entry) (e : Entry) (p : Place) (f : List ℕ) (end : Place) → Reaches es p f end → Begins end e f → Reaches (es ++ e ∷ []) p f (after end e)
reaches_more [] e p f end r b = subst (λ (q : Place). Begins q e f × (after end e ≡ after q e)) r (b, refl)
reaches_more (x ∷ es) e p f end r b = (r.0, reaches_more es e (after p x) f end r.1 b)

-- where some records end, a log's other records begin
pub rest_reaches : (done es : List Entry) (p : Place) (f : List ℕ) (mid end : Place) → length f < 2 ^ 64 → Reaches done p f mid → Reaches es p f end → IsOpen (tail_of end f)
    → (more : List Entry) × ((es ≡ done ++ more) × Reaches more mid f end)
rest_reaches [] es p f mid end lt d r is = (es, (refl, subst (λ (q : Place). Reaches es q f end) (sym d) r))
rest_reaches (x ∷ done) [] p f mid end lt d r is = absurd (not_both p x f d.0 lt (subst (λ (q : Place). IsOpen (tail_of q f)) r is))
rest_reaches (x ∷ done) (y ∷ es) p f mid end lt d r is =
    let same : y ≡ x = one_entry p y x f r.0 d.0 lt in
    let rest = rest_reaches done es (after p x) f mid end lt d.1 (subst (λ (o : Entry). Reaches es (after p o) f end) same r.1) is in
    (rest.0, (ap (λ (o : Entry). o ∷ es) same ∙ ap (λ (os : List Entry). x ∷ os) rest.1.0, rest.1.1))

-- ---- what is found at a place

pub found_begins : (p : Place) (e : Entry) (f tail r : List ℕ) → tail ≡ tail_of p f → r ≡ record_bytes p e → take (length r) tail ≡ r → p.at ≤ p.limit → p.limit ≤ length f → p.limit ≤ e.limit → e.limit ≤ length f → length e.payload ≤ 2 ^ 24 → Begins p e f
found_begins p e f tail r ts rs same at limit grows long small =
    let n = size_of (length e.payload) in
    let wide : length r ≡ n = ap length rs ∙ record_length p e in
    let room : p.at + n ≤ p.limit = omega (arith, wide, ap length same, length-take (length r) tail, ap length ts, tail_length p f limit, at) in
    record {
      within = room;
      bytes = sym (tail_front p f n room) ∙ ap (λ (x : List ℕ). take n x) (sym ts) ∙ ap (λ (k : ℕ). take k tail) (sym wide) ∙ same ∙ rs;
      grows = grows;
      long = long;
      small = small;
    }

-- why there is no record
pub no_limit_found : (p : Place) (f tail : List ℕ) (limit : ℕ) → tail ≡ tail_of p f → limit ≡ limit_in tail → length f < 2 ^ 64 → (limit < p.limit) ⊎ (length f < limit) → (e : Entry) → Begins p e f → ⊥
no_limit_found p f tail limit ts ls lt bad e b =
    let is : limit ≡ e.limit = ls ∙ ap limit_in ts ∙ begins_limit p e f b lt in
    elim bad [
      | inl low ↦ omega (arith, low, is, b.grows)
      | inr high ↦ omega (arith, high, is, b.long)
    ]

pub no_length_found : (p : Place) (f tail : List ℕ) (count : ℕ) → tail ≡ tail_of p f → count ≡ length_in tail → length f < 2 ^ 64 → (2 ^ 24 < count) ⊎ (length tail < size_of count) → (e : Entry) → Begins p e f → ⊥
no_length_found p f tail count ts cs lt bad e b =
    let is : count ≡ length e.payload = cs ∙ ap length_in ts ∙ begins_length p e f b lt in
    elim bad [
      | inl high ↦ omega (arith, high, is, b.small)
      | inr far ↦ omega (arith, far, is, ap length ts, begins_long p e f b)
    ]

abbrev pub made_entry : ℕ → List ℕ → Entry
made_entry limit payload = record { limit = limit; payload = payload }

same_entry : (a b : ℕ) (xs ys : List ℕ) → a ≡ b → xs ≡ ys → made_entry a xs ≡ made_entry b ys
same_entry a b xs ys p q = cc

pub none_found : (p : Place) (f tail r payload : List ℕ) (limit : ℕ) → tail ≡ tail_of p f → limit ≡ limit_in tail → payload ≡ payload_in tail → r ≡ record_bytes p (made_entry limit payload) → length f < 2 ^ 64 → (take (length r) tail ≡ r → ⊥) → (e : Entry) → Begins p e f → ⊥
none_found p f tail r payload limit ts ls ps rs lt differs e b =
    let same : made_entry limit payload ≡ e = same_entry limit e.limit payload e.payload (ls ∙ ap limit_in ts ∙ begins_limit p e f b lt) (ps ∙ ap payload_in ts ∙ begins_payload p e f b lt) in
    let is : r ≡ record_bytes p e = rs ∙ ap (λ (o : Entry). record_bytes p o) same in
    let wide : length r ≡ size_of (length e.payload) = ap length is ∙ record_length p e in
    differs (ap (λ (k : ℕ). take k tail) wide ∙ ap (λ (x : List ℕ). take (size_of (length e.payload)) x) ts ∙ tail_front p f (size_of (length e.payload)) b.within ∙ b.bytes ∙ sym is)

-- nothing is at a place where something is missing and the rest isn't open
pub fails_at : (p : Place) (f tail : List ℕ) → tail ≡ tail_of p f → length f < 2 ^ 64 → (IsOpen tail → ⊥) → (length tail < 512) ⊎ (weight tail ≢ 2 ^ 32 - 1) → FailsAt p f
fails_at p f tail ts lt closed bad = (
  (λ is. closed (subst IsOpen (sym ts) is)),
  (λ e b. elim bad [
    | inl short ↦ omega (arith, short, ap length ts, begins_long p e f b)
    | inr other ↦ other (ap weight ts ∙ begins_weight p e f b lt)
  ]),
)

-- ---- numbers of a tail

pub length_read : (t : List ℕ) (n : ℕ) → n ≡ word_in (drop 21 t) → n ≡ length_in t
unfolding length_in
length_read t n is = is

pub limit_read : (t : List ℕ) (n : ℕ) → n ≡ long_in (drop 13 t) → n ≡ limit_in t
unfolding limit_in
limit_read t n is = is

-- ---- a log

payloads_join : (b : Bool) (x : List ℕ) (all before more : List (List ℕ)) → all ≡ before ++ more → (if b then all else x ∷ all) ≡ (if b then before else x ∷ before) ++ more
payloads_join true x all before more h = h
payloads_join false x all before more h = ap (λ (ps : List (List ℕ)). x ∷ ps) h

pub payloads_more : (es : List Entry) (e : Entry) → payloads_of (es ++ e ∷ []) ≡ payloads_of es ++ payloads_of (e ∷ [])
payloads_more [] e = refl
payloads_more (x ∷ es) e =
    let h = payloads_more es e in
    payloads_join (length x.payload == 0) x.payload (payloads_of (es ++ e ∷ [])) (payloads_of es) (payloads_of (e ∷ [])) h

-- what is found by going over the records of a log
pub record Found (image : List ℕ) (payloads : List (List ℕ)) (file : List ℕ) (mid : Place) : Type 0 where
  pub entries : List Entry
  pub same : payloads_of entries ≡ payloads
  pub limit : ℕ
  pub header : IsHeader image limit file
  pub records : Reaches entries (start image limit) file mid
  pub number : mid.number ≤ mid.at
  pub at : mid.at ≤ mid.limit
  pub within : mid.limit ≤ length file

pub found_first : (image file : List ℕ) (p : Place) → (limit : ℕ) × (IsHeader image limit file × (p ≡ start image limit)) → Found image [] file p
found_first image file p h = subst (λ (q : Place). Found image [] file q) (sym h.1.1) (record {
  entries = [];
  same = refl;
  limit = h.0;
  header = h.1.0;
  records = refl;
  number = omega arith;
  at = h.1.0.room;
  within = h.1.0.long;
})

pub found_more : (image file : List ℕ) (payloads : List (List ℕ)) (mid : Place) (e : Entry) → Found image payloads file mid → Begins mid e file → Found image (payloads ++ payloads_of (e ∷ [])) file (after mid e)
found_more image file payloads mid e h b = record {
  entries = h.entries ++ e ∷ [];
  same = payloads_more h.entries e ∙ ap (λ (ps : List (List ℕ)). ps ++ payloads_of (e ∷ [])) h.same;
  limit = h.limit;
  header = h.header;
  records = reaches_more h.entries e (start image h.limit) file mid h.records b;
  number = omega (arith, h.number);
  at = omega (arith, b.within, b.grows);
  within = b.long;
}

pub found_all : (image file : List ℕ) (payloads : List (List ℕ)) (end : Place) → Found image payloads file end → IsOpen (tail_of end file) → Accepts image payloads file end
found_all image file payloads end h is = (h.entries, (h.same, record { limit = h.limit; header = h.header; records = h.records; ended = is }))

ends_nowhere : (es : List Entry) (p : Place) (file : List ℕ) (end : Place) → Reaches es p file end → IsOpen (tail_of end file) → FailsAt p file → ⊥
ends_nowhere [] p file end r is f = f.0 (subst (λ (q : Place). IsOpen (tail_of q file)) r is)
ends_nowhere (e ∷ es) p file end r is f = f.1 e r.0

pub found_none : (image file : List ℕ) (payloads : List (List ℕ)) (mid : Place) → length image ≡ 32 → length file < 2 ^ 64 → Found image payloads file mid → FailsAt mid file → HasNoLog file
found_none image file payloads mid l lt h f other entries end m log =
    let same : other ≡ image = one_image file other image log.limit h.limit m l lt log.header h.header in
    let header : IsHeader image log.limit file = subst (λ (x : List ℕ). IsHeader x log.limit file) same log.header in
    let limits : log.limit ≡ h.limit = one_limit file image log.limit h.limit l lt header h.header in
    let records : Reaches entries (start image h.limit) file end = subst (λ (n : ℕ). Reaches entries (start image n) file end) limits (subst (λ (x : List ℕ). Reaches entries (start x log.limit) file end) same log.records) in
    let rest = rest_reaches h.entries entries (start image h.limit) file mid end lt h.records records log.ended in
    ends_nowhere rest.0 mid file end rest.1.1 log.ended f
