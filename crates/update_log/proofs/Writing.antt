-- What a crash leaves of a log while a record is written.
use Rattle.std.proofs.Common.{◌≡◌, ◌⊎◌, inl, inr, ℕ, ◌+◌, ◌-◌, ◌^◌, ◌<◌, ◌≤◌, List, [], ◌∷◌, ◌++◌, length, take, drop, slice_index, sym, ap, subst, ◌∙◌, arith, length-drop, ext_get_or}
use Rattle.std.specs.Prelude.{Result, Ok, Err, IfErr}
use Rattle.std.proofs.lemmas.Bool.{cases_lt}
use Rattle.std.proofs.lemmas.List.{append-nil, length-take, take_all, take_at, get_or-drop, get_or-take}
use Rattle.sqlite_disk.specs.declared.Disk.{Ghosts}
use Rattle.sqlite_disk.specs.Disk.{Follows, Holds, Mixed, Only, Torn}
use Rattle.update_log.specs.declared.places.Place.{Place}
use Rattle.update_log.specs.Sectors.{size_of, zeros}
use Rattle.update_log.specs.Records.{Entry, after, entry_of, record_bytes}
use Rattle.update_log.specs.Tails.{Masks}
use Rattle.update_log.specs.Logs.{Accepts, Begins, Reaches, payloads_of, tail_of}
use Rattle.update_log.specs.Headers.{start}
use Rattle.update_log.specs.Kept.{CanBegin, IsAhead, IsBlank, IsReady, LeavesJust, Recovers, Stays}
use Rattle.update_log.proofs.Recording.{record_length, whole_or_lost, zero_at, zeros_length}
use Rattle.update_log.proofs.Following.{tail_front}
use Rattle.update_log.proofs.Parting.{blank_above, blank_open, front_stays, log_grows, log_stays, mixed_masks}

module _ (image : List ℕ) (payloads : List (List ℕ)) (p : Place) (e : Entry) (old : List ℕ) (can : CanBegin image payloads p e old) where
  abbrev size : ℕ
  size = size_of (length e.payload)

  begun_record : (new : List ℕ) → length old ≤ length new → take size (tail_of p new) ≡ record_bytes p e → Begins p e new
  begun_record new longer is = record {
    within = can.room;
    bytes = sym (tail_front p new size can.room) ∙ is;
    grows = can.grows;
    long = omega (arith, can.long, longer);
    small = can.fits.small;
  }

  -- what follows once the record is there
  pub grown : (n : ℕ) (new : List ℕ) → n ≡ size → Torn p.at n old new → take size (tail_of p new) ≡ record_bytes p e → Accepts image (payloads ++ payloads_of (e ∷ [])) new (after p e) × IsBlank (p.at + size) e.limit new
  grown n new wide t is =
      let torn : Torn p.at size old new = subst (λ (k : ℕ). Torn p.at k old new) wide t in
      let blank = blank_above p.at size e.limit old new torn can.long can.blank in
      let front = front_stays p.at size p.at old new torn (omega arith) (omega (arith, can.room, can.grows, can.long)) in
      let begins = begun_record new torn.no_shorter is in
      (log_grows image payloads old new p e can.accepted front begins (blank_open (after p e) new begins.long blank), blank)

  -- a write that came through
  held_front : (bytes new : List ℕ) → bytes ≡ record_bytes p e → Torn p.at (length bytes) old new → Holds new p.at bytes → take size (tail_of p new) ≡ record_bytes p e
  held_front bytes new bs t h =
      let wide : length bytes ≡ size = ap length bs ∙ record_length p e in
      let here : take size (drop p.at new) ≡ bytes =
      ext_get_or 0 (take size (drop p.at new)) bytes (omega (arith, length-take size (drop p.at new), length-drop p.at new, h.within, wide))
      (λ i lt.
      let low : i < size = omega (arith, lt, length-take size (drop p.at new)) in
      get_or-take size (drop p.at new) i 0 low ∙ get_or-drop p.at new i 0 ∙ h.each i (omega (arith, low, wide))) in
      tail_front p new size can.room ∙ here ∙ bs

  pub written : (bytes new : List ℕ) → bytes ≡ record_bytes p e → Torn p.at (length bytes) old new → Holds new p.at bytes → Accepts image (payloads ++ payloads_of (e ∷ [])) new (after p e) × IsBlank (p.at + size) e.limit new
  written bytes new bs t h = grown (length bytes) new (ap length bs ∙ record_length p e) t (held_front bytes new bs t h)

  -- a write that was torn
  pub torn_either : (bytes new : List ℕ) → bytes ≡ record_bytes p e → Mixed p.at bytes old new → Recovers image payloads new ⊎ Recovers image (payloads ++ payloads_of (e ∷ [])) new
  torn_either bytes new bs m =
      let wide : length bytes ≡ size = ap length bs ∙ record_length p e in
      let z = p.limit - p.at - length bytes in
      let masks = mixed_masks p e.limit bytes old new m (omega (arith, wide, can.room)) can.grows can.long can.blank in
      let own : Masks (tail_of p new) (record_bytes p e ++ zeros z) = subst (λ (x : List ℕ). Masks (tail_of p new) (x ++ zeros z)) bs masks in
      let front = front_stays p.at (length bytes) p.at old new m.torn (omega arith) (omega (arith, can.room, can.grows, can.long)) in
      elim (whole_or_lost p e z (tail_of p new) can.fits own) [
        | inl whole ↦ inr (after p e, (grown (length bytes) new wide m.torn (ap (λ (x : List ℕ). take size x) whole ∙ take_at (record_bytes p e) (zeros z) size (record_length p e))).0)
        | inr lost ↦ inl (p, log_stays image payloads old new p can.accepted front (omega (arith, can.grows, can.long, m.torn.no_shorter)) lost)
      ]

  pub outcome_either : (bytes : List ℕ) (olds news : List ℕ → Type 0) → bytes ≡ record_bytes p e → Follows (Mixed p.at bytes) olds news → Only old olds → (c : List ℕ) → news c → Recovers image payloads c ⊎ Recovers image (payloads ++ payloads_of (e ∷ [])) c
  outcome_either bytes olds news bs f only c may =
      let (d, was, step) = f c may in
      torn_either bytes c bs (subst (λ (x : List ℕ). Mixed p.at bytes x c) (only d was) step)

pub room_fits : (p : Place) (e : Entry) (bytes : List ℕ) → bytes ≡ record_bytes p e → p.at < 2 ^ 62 → length e.payload ≤ 2 ^ 24 → p.at + length bytes < 2 ^ 64
room_fits p e bytes bs at small = omega (arith, ap length bs, record_length p e, at, small)

pub ready_made : {D : Type 0} (g : Ghosts D) (image : List ℕ) (payloads : List (List ℕ)) (q next : Place) (mid new : D) → g.seen new ≡ g.seen mid → next ≡ q → Accepts image payloads (g.seen mid) q → IsBlank q.at q.limit (g.seen mid)
    → Only (g.seen mid) (g.may_leave new) → IsReady g image payloads next new
ready_made g image payloads q next mid new same is accepted blank only =
    subst (λ (r : Place). IsReady g image payloads r new) (sym is) (record {
      accepted = subst (λ (f : List ℕ). Accepts image payloads f q) (sym same) accepted;
      blank = subst (λ (f : List ℕ). IsBlank q.at q.limit f) (sym same) blank;
      synced = subst (λ (f : List ℕ). Only f (g.may_leave new)) (sym same) only;
    })

-- ---- zeros ahead

end_long : (es : List Entry) (p : Place) (f : List ℕ) (end : Place) → Reaches es p f end → p.limit ≤ length f → end.limit ≤ length f
end_long [] p f end r le = subst (λ (q : Place). q.limit ≤ length f) (sym r) le
end_long (e ∷ es) p f end r le = end_long es (after p e) f end r.1 r.0.long

pub accepts_long : (image : List ℕ) (payloads : List (List ℕ)) (f : List ℕ) (end : Place) → Accepts image payloads f end → end.limit ≤ length f
accepts_long image payloads f end a = end_long a.0 (start image a.1.1.limit) f end a.1.1.records a.1.1.header.long

module _ (image : List ℕ) (payloads : List (List ℕ)) (p : Place) (count : ℕ) (old new : List ℕ) (accepted : Accepts image payloads old p) (blank : IsBlank p.at p.limit old) (at : p.at ≤ p.limit) (t : Torn p.limit count old new) where
  below_blank : IsBlank p.at p.limit new
  below_blank i ge lt = t.below i (omega (arith, lt, accepts_long image payloads old p accepted)) lt ∙ blank i ge lt

  -- whatever is past the limit, the log is as it was
  pub still_accepted : Accepts image payloads new p
  still_accepted =
      let long = accepts_long image payloads old p accepted in
      let longer : p.limit ≤ length new = omega (arith, long, t.no_shorter) in
      log_stays image payloads old new p accepted (front_stays p.limit count p.at old new t at (omega (arith, at, long))) longer (blank_open p new longer below_blank)

  pub ahead_begins : Holds new p.limit (zeros count) → p.at + 512 ≤ p.limit → p.limit + count < 2 ^ 64 → CanBegin image payloads p (entry_of (p.limit + count) []) new
  ahead_begins h room fits = record {
    accepted = still_accepted;
    room = omega (arith, room);
    grows = omega arith;
    long = omega (arith, h.within, zeros_length count);
    blank = λ i ge lt. elim (cases_lt i p.limit) [
      | inl low ↦ below_blank i ge low
      | inr high ↦
          let k = i - p.limit in
          let at_k : p.limit + k ≡ i = omega (arith, high) in
          ap (λ (j : ℕ). slice_index new j) (sym at_k) ∙ h.each k (omega (arith, lt, high, zeros_length count)) ∙ zero_at count k
    ];
    fits = record { limit = fits; small = omega arith };
  }

pub one_payload : (limit : ℕ) (payload : List ℕ) → 0 < length payload → payloads_of (entry_of limit payload ∷ []) ≡ payload ∷ []
one_payload limit (b ∷ payload) some = grind arith
one_payload limit [] some = absurd (omega (arith, some))

pub ready_begins : {D : Type 0} (g : Ghosts D) (image : List ℕ) (payloads : List (List ℕ)) (p : Place) (disk : D) (payload : List ℕ) → IsReady g image payloads p disk → p.at + size_of (length payload) ≤ p.limit → p.limit < 2 ^ 64 → length payload ≤ 2 ^ 24
    → CanBegin image payloads p (entry_of p.limit payload) (g.seen disk)
ready_begins g image payloads p disk payload is room fits small = record {
  accepted = is.accepted;
  room = room;
  grows = omega arith;
  long = accepts_long image payloads (g.seen disk) p is.accepted;
  blank = is.blank;
  fits = record { limit = fits; small = small };
}

-- a crash leaves what is on the disk
pub ready_leaves : {D : Type 0} (g : Ghosts D) (image : List ℕ) (payloads : List (List ℕ)) (p : Place) (disk : D) → IsReady g image payloads p disk → LeavesJust image payloads (g.may_leave disk)
ready_leaves g image payloads p disk is c may = (p, subst (λ (f : List ℕ). Accepts image payloads f p) (sym (is.synced c may)) is.accepted)

pub no_more : (image : List ℕ) (payloads : List (List ℕ)) (c : List ℕ) → Recovers image payloads c ⊎ Recovers image (payloads ++ []) c → Recovers image payloads c
no_more image payloads c (inl one) = one
no_more image payloads c (inr other) = subst (λ (ps : List (List ℕ)). Recovers image ps c) (append-nil payloads) other

pub zeros_leave : (image : List ℕ) (payloads : List (List ℕ)) (p : Place) (count : ℕ) (old : List ℕ) (olds news : List ℕ → Type 0) → Accepts image payloads old p → IsBlank p.at p.limit old → p.at ≤ p.limit → Only old olds
    → ((c : List ℕ) → news c → olds c ⊎ (d : List ℕ) × (olds d × Torn p.limit count d c)) → LeavesJust image payloads news
zeros_leave image payloads p count old olds news accepted blank at only f c may = elim (f c may) [
  | inl was ↦ (p, subst (λ (x : List ℕ). Accepts image payloads x p) (sym (only c was)) accepted)
  | inr from ↦
      (p, still_accepted image payloads p count old c accepted blank at (subst (λ (x : List ℕ). Torn p.limit count x c) (only from.0 from.1.0) from.1.1))
]

pub blank_made : (count m : ℕ) (start resized given : List ℕ) → start ≡ [] → m ≡ 0 → resized ≡ take count start ++ zeros (count - m) → given ≡ resized → given ≡ zeros count
blank_made count m start resized given ss ms rs gs =
    let n : count - m ≡ count = omega (arith, ms) in
    gs ∙ rs ∙ ap (λ (x : List ℕ). x ++ zeros (count - m)) (take_all count start (omega (arith, ap length ss)) ∙ ss) ∙ ap zeros n

-- ---- where a record isn't put

-- zeros were, past the limit
pub stays_ahead : {D : Type 0} (g : Ghosts D) (p : Place) (count : ℕ) (old new : D) → p.at ≤ p.limit → IsAhead g p.limit count old new → Stays g p p old new
stays_ahead g p count old new at ahead image payloads ready = record {
  accepted = still_accepted image payloads p count (g.seen old) (g.seen new) ready.accepted ready.blank at ahead.others;
  blank = below_blank image payloads p count (g.seen old) (g.seen new) ready.accepted ready.blank at ahead.others;
  synced = ahead.synced;
}

-- nothing more was done
pub stays_same : {D : Type 0} (g : Ghosts D) (p q r : Place) (old mid new : D) → Stays g p q old mid → (r ≡ q) × (new ≡ mid) → Stays g p r old new
stays_same g p q r old mid new stays same = rw (same.0, same.1) stays

pub on_short : {T E : Type 0} (r : Result T E) (A : E → Type 0) (P Q R : Type 0) → (P → Q → R) → IfErr r (λ e. A e → P) → IfErr r (λ e. A e → Q) → IfErr r (λ e. A e → R)
on_short (Ok x) A P Q R how one other = tt
on_short (Err e) A P Q R how one other = λ is. how (one is) (other is)
