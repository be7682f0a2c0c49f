-- The frames of an image, set one by one in a table.
use Rattle.std.proofs.Common.{◌≡◌, ◌≢◌, ℕ, suc, ◌+◌, ◌<◌, ◌≤◌, ◌||◌, Bool, true, false, cond, eqb, List, [], ◌∷◌, length, map, set, get_or, drop, replicate, None, refl, sym, ap, subst, ◌∙◌, inl, inr, arith}
use Rattle.std.specs.List.{count_by}
use Rattle.std.proofs.lemmas.Bool.{cases_eq, cases_lt, eqb-true, eq-eqb, ne_eqb}
use Rattle.std.proofs.lemmas.List.{get_or-set_same, get_or-set_other, length-set, get_or-replicate, length-replicate, get_or-drop, drop-drop}
use Rattle.std.proofs.lemmas.List.Sums.{sum_by-cons}
use Rattle.s4_types.specs.Pointer.{Place}
use Rattle.codec.specs.declared.summaries.BlockRole.{BlockRole}
use Rattle.codec.specs.Summary.{SummaryFields, KeepsSummaryRules, SpellsSummary}
use Rattle.image_parts.specs.Frames.{FrameFields, state_of, generation_of, blocks_of, is_open, HasSummary, KeepsFrameRules, EachKeepsFrameRules, KeepFrameRules}
use Rattle.segment_word.specs.Frames.{Phase, Free, Open, Sealed, Draining, Frame, no_frame, is_open as phase_is_open}
use Rattle.segment_word.specs.Layout.{phase_of, frame_at, block_bytes}
use Rattle.segment_word.specs.Handles.{fresh_frame}
use Rattle.segment_table.specs.declared.slots.Slot.{Slot}
use Rattle.segment_table.specs.Slots.{unheld}
use Rattle.segment_table.specs.Table.{Table, slots_at, held_at}
use Rattle.segment_table.specs.Room.{is_filling, numbers}
use Rattle.segment_table.specs.Sealing.{summary_of}
use Rattle.segment_table.proofs.Unshared.{unheld_roles, length-unheld}
use Rattle.verifier.specs.Tables.{no_part, IsFrameOf, IsTableOf}

-- no two summaries share an encoding
abbrev pub OneSummaryASpelling : Type 0
OneSummaryASpelling = (payload : List (List ℕ)) (block : List ℕ) (s t : SummaryFields) → SpellsSummary payload block s → SpellsSummary payload block t → s ≡ t

abbrev summary_by : ℕ → ℕ → List BlockRole → SummaryFields
summary_by frame generation parts = record { frame = frame; generation = generation; roles = parts }

-- ---- states

by_not_free : (a b c : Bool) → a ≡ false → cond a Free (cond b Open (cond c Sealed Draining)) ≢ Free
by_not_free true b c e = λ h. let clash : true ≡ false = e in cc
by_not_free false true c e = λ h. let clash : Open ≡ Free = h in cc
by_not_free false false true e = λ h. let clash : Sealed ≡ Free = h in cc
by_not_free false false false e = λ h. let clash : Draining ≡ Free = h in cc

by_open : (a b c : Bool) → cond a Free (cond b Open (cond c Sealed Draining)) ≡ Open → b ≡ true
by_open true b c h = absurd (let clash : Free ≡ Open = h in cc)
by_open false true c h = refl
by_open false false true h = absurd (let clash : Sealed ≡ Open = h in cc)
by_open false false false h = absurd (let clash : Draining ≡ Open = h in cc)

pub used_phase : (code : ℕ) → code ≢ 0 → phase_of code ≢ Free
used_phase code ne = by_not_free (eqb code 0) (eqb code 1) (eqb code 2) (ne_eqb code 0 ne)

-- an open frame is one that counts as open
pub open_part : (f : FrameFields) → phase_of (state_of f.word) ≡ Open → is_open f ≡ true
open_part f e = by_open (eqb (state_of f.word) 0) (eqb (state_of f.word) 1) (eqb (state_of f.word) 2) e

pub open_state : (f : FrameFields) → phase_of (state_of f.word) ≡ Open → state_of f.word ≡ 1
open_state f e = eqb-true (state_of f.word) 1 (open_part f e)

-- ---- what a used frame tells

pub slots_there : (old new : List (List Slot)) (n : ℕ) (slots : List Slot) → n < length old → new ≡ set old n slots → slots_at new n ≡ slots
slots_there old new n slots inside is = ap (λ (l : List (List Slot)). slots_at l n) is ∙ get_or-set_same old n slots [] inside

-- a frame that was set to this state, these blocks and what their one summary tells is that of the image
pub used_told : OneSummaryASpelling → (number : ℕ) (f : FrameFields) (k : Frame) (slots : List Slot) (blocks : List (List ℕ)) (s : SummaryFields) → state_of f.word ≢ 0 → KeepsFrameRules number f → blocks ≡ blocks_of f.contents
    → SpellsSummary (drop 1 (blocks_of f.contents)) (get_or (blocks_of f.contents) 0 []) s → KeepsSummaryRules s
    → k.phase ≡ phase_of (state_of f.word) → k.generation ≡ s.generation → slots ≡ unheld s.roles → ((b : ℕ) → b < 16 → block_bytes k.contents b ≡ get_or blocks b []) → IsFrameOf number f k slots
used_told one number f k slots blocks s used rules are spelled keeps phase generation is stored =
    let has : HasSummary number f = rules.summary used in
    let same : s ≡ has.summary = one _ _ s has.summary spelled has.spelled in
    let at : s.frame ≡ number = ap (λ (x : SummaryFields). x.frame) same ∙ has.frame in
    let lived : s.generation ≡ generation_of f.word = ap (λ (x : SummaryFields). x.generation) same ∙ has.generation in
    let parts : s.roles ≡ map (λ (slot : Slot). slot.role) slots = sym (ap (map (λ (slot : Slot). slot.role)) is ∙ unheld_roles s.roles) in
    let told : s ≡ summary_of number k slots =
    ap (λ (n : ℕ). summary_by n s.generation s.roles) at ∙ ap (λ (n : ℕ). summary_by number n s.roles) (sym generation) ∙ ap (summary_by number k.generation) parts in
    let D : SummaryFields → Type 0 = SpellsSummary (drop 1 (blocks_of f.contents)) (get_or (blocks_of f.contents) 0 []) in
    let few : length slots ≤ 15 = omega (arith, ap length is, length-unheld s.roles, keeps.room) in
    record {
      phase = phase;
      generation = generation ∙ lived;
      free = λ e. absurd (used_phase (state_of f.word) used (sym phase ∙ e));
      summary = λ ne. subst D told spelled;
      blocks = λ ne b low high. stored b (omega arith) ∙ ap (λ (l : List (List ℕ)). get_or l b []) are;
    }

-- the summary of a frame that keeps the rules is of its number
pub summary_number : OneSummaryASpelling → (number : ℕ) (f : FrameFields) (s : SummaryFields) → state_of f.word ≢ 0 → KeepsFrameRules number f
    → SpellsSummary (drop 1 (blocks_of f.contents)) (get_or (blocks_of f.contents) 0 []) s → s.frame ≡ number
summary_number one number f s used rules spelled =
    let has : HasSummary number f = rules.summary used in
    ap (λ (x : SummaryFields). x.frame) (one _ _ s has.summary spelled has.spelled) ∙ has.frame

-- that of an open one leaves room
pub summary_room : OneSummaryASpelling → (number : ℕ) (f : FrameFields) (s : SummaryFields) → state_of f.word ≢ 0 → KeepsFrameRules number f
    → SpellsSummary (drop 1 (blocks_of f.contents)) (get_or (blocks_of f.contents) 0 []) s → state_of f.word ≡ 1 → length s.roles ≤ 14
summary_room one number f s used rules spelled state =
    let has : HasSummary number f = rules.summary used in
    let same : s ≡ has.summary = one _ _ s has.summary spelled has.spelled in
    omega (arith, ap (λ (x : SummaryFields). length x.roles) same, has.room state)

-- ---- at most one is open

not_open : (p : Phase) → p ≢ Open → phase_is_open p ≡ false
not_open Free ne = refl
not_open Open ne = absurd (ne refl)
not_open Sealed ne = refl
not_open Draining ne = refl

none_filling : (ks : List Frame) (n : ℕ) → ((i : ℕ) → i < length ks → (frame_at ks i).phase ≢ Open) → numbers is_filling n ks ≡ []
none_filling [] n each = refl
none_filling (k ∷ ks) n each = rw (not_open k.phase (each 0 (omega arith))) (none_filling ks (n + 1) (λ i h. each (suc i) (omega arith)))

-- ---- the loop

-- All frames keep the rules exactly where those that are left do, from this number on, and of these and an open one before
-- them, if there is one, at most one is open.
pub record Judged (frames : List FrameFields) (n : ℕ) (opened : Bool) (left : List FrameFields) : Type 0 where
  pub on : EachKeepsFrameRules n left → cond {A = ℕ} opened 1 0 + count_by is_open left ≤ 1 → KeepFrameRules frames
  pub back : KeepFrameRules frames → EachKeepsFrameRules n left × (cond {A = ℕ} opened 1 0 + count_by is_open left ≤ 1)

-- The first n frames of an image are set in a table, and those that are left aren't: they are free, and no block of theirs is
-- used. Where none that was set is open, none of the table is.
pub record AreSet (frames : List FrameFields) (n : ℕ) (opened : Bool) (left : List FrameFields) (t : Table) : Type 0 where
  pub left_are : left ≡ drop n frames
  pub judged : Judged frames n opened left
  pub count : n + length left ≡ length frames
  pub frame_count : length t.seat.frames ≡ length frames
  pub slot_count : length t.slots ≡ length frames
  pub done : (i : ℕ) → i < n → IsFrameOf i (get_or frames i no_part) (frame_at t.seat.frames i) (slots_at t.slots i)
  pub shut : opened ≡ false → (i : ℕ) → i < n → (frame_at t.seat.frames i).phase ≢ Open
  pub free : (i : ℕ) → n ≤ i → i < length frames → (frame_at t.seat.frames i).phase ≡ Free
  pub unused : (i : ℕ) → n ≤ i → i < length frames → slots_at t.slots i ≡ []
  pub nothing : (p : Place) → held_at t p ≡ None

pub none_set : (frames : List FrameFields) (t : Table) → t.seat.frames ≡ replicate (length frames) fresh_frame → t.slots ≡ replicate (length frames) []
    → ((p : Place) → held_at t p ≡ None) → AreSet frames 0 false frames t
none_set frames t fresh empty nothing =
    record {
      left_are = refl;
      judged = record { on = λ each one. record { each = each; open_one = omega (arith, one) }; back = λ keep. (keep.each, omega (arith, keep.open_one)) };
      count = omega arith;
      frame_count = ap length fresh ∙ length-replicate (length frames) fresh_frame;
      slot_count = ap length empty ∙ length-replicate (length frames) [];
      done = λ i h. absurd (omega arith);
      shut = λ none i h. absurd (omega arith);
      free = λ i low h. ap (λ (l : List Frame). (frame_at l i).phase) fresh ∙ ap (λ (k : Frame). k.phase) (get_or-replicate (length frames) i fresh_frame no_frame h);
      unused = λ i low h. ap (λ (l : List (List Slot)). slots_at l i) empty ∙ get_or-replicate (length frames) i [] [] h;
      nothing = nothing;
    }

-- the frame that is next
pub next_is : (frames : List FrameFields) (n : ℕ) (opened : Bool) (f : FrameFields) (rest left : List FrameFields) (t : Table) → AreSet frames n opened left t → left ≡ f ∷ rest → get_or frames n no_part ≡ f
next_is frames n opened f rest left t set is =
    ap (λ (i : ℕ). get_or frames i no_part) (omega arith) ∙ sym (get_or-drop n frames 0 no_part) ∙ ap (λ (l : List FrameFields). get_or l 0 no_part) (sym set.left_are ∙ is)

pub next_inside : (frames : List FrameFields) (n : ℕ) (opened : Bool) (f : FrameFields) (rest left : List FrameFields) (t : Table) → AreSet frames n opened left t → left ≡ f ∷ rest → n < length frames
next_inside frames n opened f rest left t set is = let more : length left ≡ suc (length rest) = ap length is in omega (arith, set.count)

-- where no frame that was set is open, none of the table is
pub none_open : (frames : List FrameFields) (n : ℕ) (left : List FrameFields) (t : Table) → AreSet frames n false left t → numbers is_filling 0 t.seat.frames ≡ []
none_open frames n left t set =
    none_filling t.seat.frames 0 (λ i h phase. elim (cases_lt i n) [
      | inl before ↦ set.shut refl i before phase
      | inr behind ↦ (let clash : Free ≡ Open = sym (set.free i behind (omega (arith, set.frame_count))) ∙ phase in cc)
    ])

-- where the next frame is open, none of the table is
pub none_before : (frames : List FrameFields) (n : ℕ) (opened : Bool) (f : FrameFields) (left : List FrameFields) (t : Table) → AreSet frames n opened left t → (opened ≡ true → is_open f ≡ true → ⊥)
    → state_of f.word ≡ 1 → numbers is_filling 0 t.seat.frames ≡ []
none_before frames n true f left t set not_both state = absurd (not_both refl (eq-eqb (state_of f.word) 1 state))
none_before frames n false f left t set not_both state = none_open frames n left t set

-- ---- judging

-- the first of some frames breaks a rule by itself
pub one_breaks : (frames : List FrameFields) (n : ℕ) (opened : Bool) (f : FrameFields) (rest left : List FrameFields) → Judged frames n opened left → left ≡ f ∷ rest → (KeepsFrameRules n f → ⊥) → KeepFrameRules frames → ⊥
one_breaks frames n opened f rest left judged is breaks keep =
    let F : List FrameFields → Type 0 = EachKeepsFrameRules n in
    breaks (subst F is (judged.back keep).0).0

pub count_more : (f : FrameFields) (rest : List FrameFields) → count_by is_open (f ∷ rest) ≡ cond {A = ℕ} (is_open f) 1 0 + count_by is_open rest
count_more f rest = sum_by-cons (λ y. cond (is_open y) 1 0) f rest

-- two are open
pub two_open : (frames : List FrameFields) (n : ℕ) (opened : Bool) (f : FrameFields) (rest left : List FrameFields) → Judged frames n opened left → left ≡ f ∷ rest → opened ≡ true → is_open f ≡ true → KeepFrameRules frames → ⊥
two_open frames n opened f rest left judged is before here keep =
    let one : cond {A = ℕ} opened 1 0 + count_by is_open left ≤ 1 = (judged.back keep).1 in
    let a : ◌≡◌ {A = ℕ} (cond opened 1 0) 1 = ap (λ (t : Bool). cond {A = ℕ} t 1 0) before in
    let b : ◌≡◌ {A = ℕ} (cond (is_open f) 1 0) 1 = ap (λ (t : Bool). cond {A = ℕ} t 1 0) here in
    let c : count_by is_open left ≡ count_by is_open (f ∷ rest) = ap (λ (l : List FrameFields). count_by is_open l) is in
    omega (arith, one, a, b, c, count_more f rest)

-- a frame more keeps its rules, and isn't a second open one
pub either_open : (opened here : Bool) → (opened ≡ true → here ≡ true → ⊥) → ◌≡◌ {A = ℕ} (cond (opened || here) 1 0) (cond {A = ℕ} opened 1 0 + cond {A = ℕ} here 1 0)
either_open true true not_both = absurd (not_both refl refl)
either_open true false not_both = refl
either_open false true not_both = refl
either_open false false not_both = refl

judged_more : (frames : List FrameFields) (n : ℕ) (opened : Bool) (f : FrameFields) (rest left : List FrameFields) → Judged frames n opened left → left ≡ f ∷ rest → KeepsFrameRules n f
    → (opened ≡ true → is_open f ≡ true → ⊥) → Judged frames (n + 1) (opened || is_open f) rest
judged_more frames n opened f rest left judged is keeps not_both =
    let F : List FrameFields → Type 0 = EachKeepsFrameRules n in
    let more = either_open opened (is_open f) not_both in
    let all : count_by is_open left ≡ count_by is_open (f ∷ rest) = ap (λ (l : List FrameFields). count_by is_open l) is in
    record {
      on = λ each one. judged.on (subst F (sym is) (keeps, each)) (omega (arith, one, more, all, count_more f rest));
      back = λ keep. ((subst F is (judged.back keep).0).1, omega (arith, (judged.back keep).1, more, all, count_more f rest));
    }

at_most : (opened : Bool) (more : ℕ) → more ≡ 0 → cond {A = ℕ} opened 1 0 + more ≤ 1
at_most true more none = omega (arith, none)
at_most false more none = omega (arith, none)

pub all_keep : (frames : List FrameFields) (n : ℕ) (opened : Bool) (left : List FrameFields) → Judged frames n opened left → left ≡ [] → KeepFrameRules frames
all_keep frames n opened left judged none =
    let F : List FrameFields → Type 0 = EachKeepsFrameRules n in
    let end : count_by is_open left ≡ 0 = ap (λ (l : List FrameFields). count_by is_open l) none in
    judged.on (subst F (sym none) tt) (at_most opened (count_by is_open left) end)

neither_before : (opened here : Bool) → (opened || here) ≡ false → opened ≡ false
neither_before true here e = e
neither_before false here e = refl

neither_here : (opened here : Bool) → (opened || here) ≡ false → here ≡ false
neither_here true here e = absurd (let clash : true ≡ false = e in cc)
neither_here false here e = e

-- one more frame is set
pub one_set : (frames : List FrameFields) (n : ℕ) (opened : Bool) (f : FrameFields) (rest left : List FrameFields) (old new : Table) → AreSet frames n opened left old → left ≡ f ∷ rest
    → KeepsFrameRules n f → (opened ≡ true → is_open f ≡ true → ⊥) → IsFrameOf n f (frame_at new.seat.frames n) (slots_at new.slots n) → new.seat.frames ≡ set old.seat.frames n (frame_at new.seat.frames n) → new.slots ≡ set old.slots n (slots_at new.slots n)
    → ((p : Place) → held_at new p ≡ held_at old p) → AreSet frames (n + 1) (opened || is_open f) rest new
one_set frames n opened f rest left old new were is keeps not_both frame frames_alone slots_alone held =
    let more : length left ≡ suc (length rest) = ap length is in
    let other_frame : (i : ℕ) → i ≢ n → frame_at new.seat.frames i ≡ frame_at old.seat.frames i =
    λ i ne. ap (λ (l : List Frame). frame_at l i) frames_alone ∙ get_or-set_other old.seat.frames n i (frame_at new.seat.frames n) no_frame ne in
    let other_slots : (i : ℕ) → i ≢ n → slots_at new.slots i ≡ slots_at old.slots i =
    λ i ne. ap (λ (l : List (List Slot)). slots_at l i) slots_alone ∙ get_or-set_other old.slots n i (slots_at new.slots n) [] ne in
    record {
      left_are = sym (ap (drop 1) (sym were.left_are ∙ is)) ∙ drop-drop 1 n frames;
      judged = judged_more frames n opened f rest left were.judged is keeps not_both;
      count = omega (arith, were.count);
      frame_count = ap length frames_alone ∙ length-set old.seat.frames n (frame_at new.seat.frames n) ∙ were.frame_count;
      slot_count = ap length slots_alone ∙ length-set old.slots n (slots_at new.slots n) ∙ were.slot_count;
      done = λ i h. elim (cases_eq i n) [
        | inl at ↦ (let F : ℕ → Type 0 = λ m. IsFrameOf m (get_or frames m no_part) (frame_at new.seat.frames m) (slots_at new.slots m) in
            let G : FrameFields → Type 0 = λ x. IsFrameOf n x (frame_at new.seat.frames n) (slots_at new.slots n) in
            subst F (sym at) (subst G (sym (next_is frames n opened f rest left old were is)) frame))
        | inr ne ↦ (let before : i < n = omega arith in
            let F : Frame → Type 0 = λ k. IsFrameOf i (get_or frames i no_part) k (slots_at new.slots i) in
            let G : List Slot → Type 0 = λ s. IsFrameOf i (get_or frames i no_part) (frame_at old.seat.frames i) s in
            subst F (sym (other_frame i ne)) (subst G (sym (other_slots i ne)) (were.done i before)))
      ];
      shut = λ none i h phase. elim (cases_eq i n) [
        | inl at ↦ (let there : (frame_at new.seat.frames n).phase ≡ Open = sym (ap (λ (m : ℕ). (frame_at new.seat.frames m).phase) at) ∙ phase in
            let opens : is_open f ≡ true = open_part f (sym frame.phase ∙ there) in
            let clash : true ≡ false = sym opens ∙ neither_here opened (is_open f) none in cc)
        | inr ne ↦ were.shut (neither_before opened (is_open f) none) i (omega arith) (sym (ap (λ (k : Frame). k.phase) (other_frame i ne)) ∙ phase)
      ];
      free = λ i low h. ap (λ (k : Frame). k.phase) (other_frame i (omega arith)) ∙ were.free i (omega arith) h;
      unused = λ i low h. other_slots i (omega arith) ∙ were.unused i (omega arith) h;
      nothing = λ p. held p ∙ were.nothing p;
    }

pub all_set : (frames : List FrameFields) (n : ℕ) (opened : Bool) (left : List FrameFields) (t : Table) → AreSet frames n opened left t → left ≡ [] → IsTableOf frames t
all_set frames n opened left t are none =
    let end : length left ≡ 0 = ap length none in
    record { frame_count = are.frame_count; slot_count = are.slot_count; each = λ i h. are.done i (omega (arith, are.count)) }
