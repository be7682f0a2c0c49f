-- Frames that are found, place by place.
use Rattle.std.proofs.Common.{◌≡◌, ◌≢◌, ◌⊎◌, inl, inr, ℕ, ◌+◌, ◌<◌, ◌≤◌, Bool, true, false, List, [], ◌∷◌, ◌++◌, length, get_or, set, replicate, sym, ap, subst, ◌∙◌, arith}
use Rattle.std.specs.List.{Contains}
use Rattle.std.proofs.lemmas.Bool.{cases_eq}
use Rattle.std.proofs.lemmas.List.{get_or-set_same, get_or-set_other, length-set, get_or-replicate, length-replicate}
use Rattle.std.proofs.lemmas.List.Elements.{Contains-push, Contains-push_cases, Contains-append_left}
use Rattle.s4_types.specs.declared.limits.TheConstants.{MOST_FRAMES}
use Rattle.codec.specs.Summary.{SummaryFields, SpellsSummary}
use Rattle.segment_word.specs.Frames.{Free, Frame, no_frame}
use Rattle.segment_word.specs.Layout.{frame_at}
use Rattle.segment_word.specs.Handles.{fresh_frame}
use Rattle.segment_table.specs.declared.slots.Slot.{Slot}
use Rattle.segment_table.specs.Table.{Table, slots_at}
use Rattle.image_salvage.specs.Searching.{IsFrameAt, IsWithin, AreFound, AreFoundTo, HasBlocksAt, IsTaken, IsMissing, Finds, FindsTo}

-- no two summaries share an encoding
abbrev pub OneSummaryASpelling : Type 0
OneSummaryASpelling = (payload : List (List ℕ)) (block : List ℕ) (s t : SummaryFields) → SpellsSummary payload block s → SpellsSummary payload block t → s ≡ t

-- ---- places

pub nothing_in : {P : Type 0} → (p : ℕ) → Contains [] p → P
nothing_in p has = absurd (let h : has.0 < 0 = has.1 in omega arith)

pub places_none : (bytes : List ℕ) → AreFoundTo bytes 0 0 []
places_none bytes = record {
  begin = λ p has. nothing_in p has;
  apart = λ p q one other lt. nothing_in p one;
  all = λ p s below begins. absurd (omega (arith, below));
  ends = λ p has. nothing_in p has;
  skipped = λ m low high. absurd (omega (arith, high));
}

pub place_skipped : (bytes : List ℕ) (n next : ℕ) (places : List ℕ) → AreFoundTo bytes n next places → n < next → AreFoundTo bytes (n + 1) next places
place_skipped bytes n next places to inside = record {
  begin = to.begin;
  apart = to.apart;
  all = λ p s below begins. elim (cases_eq p n) [
    | inl at ↦ subst (λ (m : ℕ). IsWithin places m) (sym at) (to.skipped n (omega arith) inside)
    | inr other ↦ to.all p s (omega (arith, below, other)) begins
  ];
  ends = to.ends;
  skipped = λ m low high. to.skipped m (omega (arith, low)) high;
}

pub place_without : (bytes : List ℕ) (n next : ℕ) (places : List ℕ) → AreFoundTo bytes n next places → next ≤ n → ((s : SummaryFields) → IsFrameAt bytes n s → ⊥) → AreFoundTo bytes (n + 1) next places
place_without bytes n next places to past none = record {
  begin = to.begin;
  apart = to.apart;
  all = λ p s below begins. elim (cases_eq p n) [
    | inl at ↦ absurd (none s (subst (λ (m : ℕ). IsFrameAt bytes m s) at begins))
    | inr other ↦ to.all p s (omega (arith, below, other)) begins
  ];
  ends = to.ends;
  skipped = λ m low high. to.skipped m (omega (arith, low)) high;
}

-- two places of those that were found, and one more
apart_more : (bytes : List ℕ) (n next : ℕ) (places : List ℕ) (p q : ℕ) → AreFoundTo bytes n next places → next ≤ n → Contains places p ⊎ (n ≡ p) → Contains places q ⊎ (n ≡ q) → p < q → p + 8192 ≤ q
apart_more bytes n next places p q to past (inl one) (inl other) lt = to.apart p q one other lt
apart_more bytes n next places p q to past (inl one) (inr at) lt = let end : p + 8192 ≤ next = to.ends p one in omega (arith, end, past, at)
apart_more bytes n next places p q to past (inr at) (inl other) lt = absurd (let end : q + 8192 ≤ next = to.ends q other in omega (arith, end, past, at, lt))
apart_more bytes n next places p q to past (inr at) (inr there) lt = absurd (omega (arith, at, there, lt))

pub place_found : (bytes : List ℕ) (n next : ℕ) (places : List ℕ) (s : SummaryFields) → AreFoundTo bytes n next places → next ≤ n → IsFrameAt bytes n s → AreFoundTo bytes (n + 1) (n + 8192) (places ++ n ∷ [])
place_found bytes n next places s to past here = record {
  begin = λ p has. elim (Contains-push_cases places n p has) [
    | inl before ↦ to.begin p before
    | inr at ↦ (s, subst (λ (m : ℕ). IsFrameAt bytes m s) at here)
  ];
  apart = λ p q one other lt. apart_more bytes n next places p q to past (Contains-push_cases places n p one) (Contains-push_cases places n q other) lt;
  all = λ p t below begins. elim (cases_eq p n) [
    | inl at ↦ (n, Contains-push places n, omega (arith, at), omega (arith, at))
    | inr other ↦ (let was : IsWithin places p = to.all p t (omega (arith, below, other)) begins in (was.0, Contains-append_left places (n ∷ []) was.0 was.1, was.2, was.3))
  ];
  ends = λ p has. elim (Contains-push_cases places n p has) [
    | inl before ↦ (let end : p + 8192 ≤ next = to.ends p before in omega (arith, end, past))
    | inr at ↦ omega (arith, at)
  ];
  skipped = λ m low high. (n, Contains-push places n, omega (arith, low), omega (arith, high));
}

pub places_all : (bytes : List ℕ) (n next : ℕ) (places : List ℕ) → AreFoundTo bytes n next places → length bytes ≤ n → AreFound bytes places
places_all bytes n next places to end = record {
  begin = to.begin;
  apart = to.apart;
  all = λ p s begins. (let inside : p + 8192 ≤ length bytes = begins.inside in to.all p s (omega (arith, inside, end)) begins);
}

-- ---- the table

-- two frames that begin at one place have one number
same_number : OneSummaryASpelling → (bytes : List ℕ) (n : ℕ) (s t : SummaryFields) → IsFrameAt bytes n s → IsFrameAt bytes n t → t.frame ≡ s.frame
same_number one bytes n s t a b = ap (λ (x : SummaryFields). x.frame) (one _ _ t s b.spelled a.spelled)

not_both : {P : Type 0} → (b : Bool) → b ≡ true → b ≡ false → P
not_both b is isnt = absurd (let clash : true ≡ false = sym is ∙ isnt in cc)

-- one place more, where no other frame of the number begins
taken_on : (bytes : List ℕ) (n next : ℕ) (places : List ℕ) (k : ℕ) (f : Frame) (slots : List Slot) → AreFoundTo bytes n next places → next ≤ n → IsTaken bytes places k f slots → IsTaken bytes (places ++ n ∷ []) k f slots
taken_on bytes n next places k f slots to past (place, is, has) = (
  place,
  record {
    found = Contains-append_left places (n ∷ []) place is.found;
    first = λ p s one begins numbered. elim (Contains-push_cases places n p one) [
      | inl before ↦ is.first p s before begins numbered
      | inr at ↦ (let end : place + 8192 ≤ next = to.ends place is.found in omega (arith, end, past, at))
    ];
  },
  has,
)

missing_on : (bytes : List ℕ) (n : ℕ) (places : List ℕ) (k : ℕ) (f : Frame) → ((s : SummaryFields) → IsFrameAt bytes n s → s.frame ≢ k) → IsMissing bytes places k f → IsMissing bytes (places ++ n ∷ []) k f
missing_on bytes n places k f other (none, free) = (
  (λ p s has begins. elim (Contains-push_cases places n p has) [
    | inl before ↦ none p s before begins
    | inr at ↦ other s (subst (λ (m : ℕ). IsFrameAt bytes m s) (sym at) begins)
  ]),
  free,
)

pub none_found : (m : ℕ) (bytes : List ℕ) (t : Table) (seen : List Bool) → m ≡ MOST_FRAMES → t.seat.frames ≡ replicate m fresh_frame → t.slots ≡ replicate m [] → seen ≡ replicate m false → FindsTo bytes 0 0 t seen
none_found m bytes t seen most fresh empty none = record {
  places = [];
  are = places_none bytes;
  frame_count = ap length fresh ∙ length-replicate m fresh_frame ∙ most;
  slot_count = ap length empty ∙ length-replicate m [] ∙ most;
  seen_count = ap length none ∙ length-replicate m false ∙ most;
  each = λ k h. (let below : k < m = omega (arith, h, most) in inr (
    ap (λ (l : List Bool). get_or l k false) none ∙ get_or-replicate m k false false below,
    ((λ p s has. nothing_in p has), ap (λ (l : List Frame). (frame_at l k).phase) fresh ∙ ap (λ (f : Frame). f.phase) (get_or-replicate m k fresh_frame no_frame below)),
  ));
}

-- a place within a frame that was found
pub goes_on_skipped : (bytes : List ℕ) (n next : ℕ) (t : Table) (seen : List Bool) → FindsTo bytes n next t seen → n < next → FindsTo bytes (n + 1) next t seen
goes_on_skipped bytes n next t seen to inside = record {
  places = to.places;
  are = place_skipped bytes n next to.places to.are inside;
  frame_count = to.frame_count;
  slot_count = to.slot_count;
  seen_count = to.seen_count;
  each = to.each;
}

-- one at which no frame begins
pub goes_on_without : (bytes : List ℕ) (n next : ℕ) (t : Table) (seen : List Bool) → FindsTo bytes n next t seen → next ≤ n → ((s : SummaryFields) → IsFrameAt bytes n s → ⊥) → FindsTo bytes (n + 1) next t seen
goes_on_without bytes n next t seen to past none = record {
  places = to.places;
  are = place_without bytes n next to.places to.are past none;
  frame_count = to.frame_count;
  slot_count = to.slot_count;
  seen_count = to.seen_count;
  each = to.each;
}

-- one at which a frame begins of a number that was seen
pub goes_on_again : OneSummaryASpelling → (bytes : List ℕ) (n next number : ℕ) (t : Table) (seen : List Bool) (s : SummaryFields) → FindsTo bytes n next t seen → next ≤ n → IsFrameAt bytes n s → s.frame ≡ number → get_or seen number false ≡ true
    → FindsTo bytes (n + 1) (n + 8192) t seen
goes_on_again one bytes n next number t seen s to past here numbered again = record {
  places = to.places ++ n ∷ [];
  are = place_found bytes n next to.places s to.are past here;
  frame_count = to.frame_count;
  slot_count = to.slot_count;
  seen_count = to.seen_count;
  each = λ k h. elim (to.each k h) [
    | inl both ↦ inl (both.0, taken_on bytes n next to.places k (frame_at t.seat.frames k) (slots_at t.slots k) to.are past both.1)
    | inr both ↦ inr (
      both.0,
      missing_on bytes n to.places k (frame_at t.seat.frames k) (λ other begins e.
          not_both (get_or seen k false) (ap (λ (m : ℕ). get_or seen m false) (sym e ∙ same_number one bytes n s other here begins ∙ numbered) ∙ again) both.0) both.1,
    )
  ];
}

missing_of : (bytes : List ℕ) (n next number : ℕ) (t : Table) (seen : List Bool) (to : FindsTo bytes n next t seen) → number < MOST_FRAMES → get_or seen number false ≡ false → IsMissing bytes to.places number (frame_at t.seat.frames number)
missing_of bytes n next number t seen to inside new = elim (to.each number inside) [
  | inl both ↦ not_both (get_or seen number false) both.0 new
  | inr both ↦ both.1
]

-- a number that wasn't seen is free in the table
pub free_yet : (bytes : List ℕ) (n next number : ℕ) (t : Table) (seen : List Bool) (to : FindsTo bytes n next t seen) → number < MOST_FRAMES → get_or seen number false ≡ false → (frame_at t.seat.frames number).phase ≡ Free
free_yet bytes n next number t seen to inside new = (missing_of bytes n next number t seen to inside new).1

-- one at which the first frame of a number begins
pub goes_on_first : OneSummaryASpelling → (bytes : List ℕ) (n next number : ℕ) (t later : Table) (seen after : List Bool) (s : SummaryFields) → FindsTo bytes n next t seen → next ≤ n → IsFrameAt bytes n s → s.frame ≡ number → get_or seen number false ≡ false
    → after ≡ set seen number true → HasBlocksAt bytes n number (frame_at later.seat.frames number) (slots_at later.slots number)
    → later.seat.frames ≡ set t.seat.frames number (frame_at later.seat.frames number) → later.slots ≡ set t.slots number (slots_at later.slots number) → FindsTo bytes (n + 1) (n + 8192) later after
goes_on_first one bytes n next number t later seen after s to past here numbered new noted has frames slots =
    let inside : number < MOST_FRAMES = omega (arith, here.number, numbered) in
    let within : number < length seen = omega (arith, inside, to.seen_count) in
    let missing : IsMissing bytes to.places number (frame_at t.seat.frames number) = missing_of bytes n next number t seen to inside new in
    record {
      places = to.places ++ n ∷ [];
      are = place_found bytes n next to.places s to.are past here;
      frame_count = ap length frames ∙ length-set t.seat.frames number (frame_at later.seat.frames number) ∙ to.frame_count;
      slot_count = ap length slots ∙ length-set t.slots number (slots_at later.slots number) ∙ to.slot_count;
      seen_count = ap length noted ∙ length-set seen number true ∙ to.seen_count;
      each = λ k h. elim (cases_eq k number) [
        | inl at ↦ (let F : ℕ → Type 0 = λ m. (get_or after m false ≡ true) × IsTaken bytes (to.places ++ n ∷ []) m (frame_at later.seat.frames m) (slots_at later.slots m) in
            inl (subst F (sym at) (
              ap (λ (l : List Bool). get_or l number false) noted ∙ get_or-set_same seen number true false within,
              (
                n,
                record {
                  found = Contains-push to.places n;
                  first = λ p q found begins of. elim (Contains-push_cases to.places n p found) [
                    | inl before ↦ absurd (missing.0 p q before begins of)
                    | inr there ↦ omega (arith, there)
                  ];
                },
                has,
              ),
            )))
        | inr ne ↦ (let same_seen : get_or after k false ≡ get_or seen k false = ap (λ (l : List Bool). get_or l k false) noted ∙ get_or-set_other seen number k true false ne in
            let same_frame : frame_at later.seat.frames k ≡ frame_at t.seat.frames k = ap (λ (l : List Frame). frame_at l k) frames ∙ get_or-set_other t.seat.frames number k (frame_at later.seat.frames number) no_frame ne in
            let same_slots : slots_at later.slots k ≡ slots_at t.slots k = ap (λ (l : List (List Slot)). slots_at l k) slots ∙ get_or-set_other t.slots number k (slots_at later.slots number) [] ne in
            elim (to.each k h) [
              | inl both ↦ (let F : Frame → Type 0 = λ f. IsTaken bytes (to.places ++ n ∷ []) k f (slots_at later.slots k) in
                  let G : List Slot → Type 0 = λ l. IsTaken bytes (to.places ++ n ∷ []) k (frame_at t.seat.frames k) l in
                  inl (same_seen ∙ both.0, subst F (sym same_frame) (subst G (sym same_slots) (taken_on bytes n next to.places k (frame_at t.seat.frames k) (slots_at t.slots k) to.are past both.1))))
              | inr both ↦ (let F : Frame → Type 0 = λ f. IsMissing bytes (to.places ++ n ∷ []) k f in
                  inr (same_seen ∙ both.0, subst F (sym same_frame) (missing_on bytes n to.places k (frame_at t.seat.frames k) (λ other begins e. ne (sym e ∙ same_number one bytes n s other here begins ∙ numbered)) both.1)))
            ])
      ];
    }

-- all places were looked at
pub all_found : (bytes : List ℕ) (n next : ℕ) (t : Table) (seen : List Bool) → FindsTo bytes n next t seen → length bytes ≤ n → Finds bytes t
all_found bytes n next t seen to end = record {
  places = to.places;
  are = places_all bytes n next to.places to.are end;
  frame_count = to.frame_count;
  slot_count = to.slot_count;
  each = λ k h. elim (to.each k h) [
    | inl both ↦ inl both.1
    | inr both ↦ inr both.1
  ];
}
