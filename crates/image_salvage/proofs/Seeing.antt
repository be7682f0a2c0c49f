-- The frames of an image, seen one by one.
use Rattle.std.proofs.Common.{◌≡◌, ◌≢◌, inl, inr, ℕ, suc, ◌+◌, ◌<◌, ◌≤◌, List, [], ◌∷◌, ◌++◌, length, get_or, set, drop, replicate, refl, sym, ap, subst, ◌∙◌, arith}
use Rattle.std.proofs.lemmas.Bool.{cases_eq}
use Rattle.std.proofs.lemmas.List.{get_or-set_other, length-set, get_or-replicate, length-replicate, get_or-drop, drop-drop}
use Rattle.std.specs.List.{Contains}
use Rattle.std.proofs.lemmas.List.Elements.{Contains-push, Contains-push_cases, Contains-append_left}
use Rattle.codec.specs.Summary.{SummaryFields, SpellsSummary}
use Rattle.image_parts.specs.Frames.{FrameFields, state_of, blocks_of, HasSummary}
use Rattle.segment_word.specs.Frames.{Free, Frame, no_frame}
use Rattle.segment_word.specs.Layout.{frame_at}
use Rattle.segment_word.specs.Handles.{fresh_frame}
use Rattle.segment_table.specs.declared.slots.Slot.{Slot}
use Rattle.segment_table.specs.Table.{Table, slots_at}
use Rattle.verifier.specs.Tables.{no_part}
use Rattle.image_salvage.specs.Frames.{IsWhole, IsSeen, Sees, IsLostFrame, AreLostOf, ChangesAlone, NotesLost}

-- no two summaries share an encoding
abbrev pub OneSummaryASpelling : Type 0
OneSummaryASpelling = (payload : List (List ℕ)) (block : List ℕ) (s t : SummaryFields) → SpellsSummary payload block s → SpellsSummary payload block t → s ≡ t

-- a whole frame isn't free
pub whole_used : (number : ℕ) (f : FrameFields) → IsWhole number f → state_of f.word ≢ 0
whole_used number f whole none = elim whole.state [
  | inl opened ↦ absurd (omega (arith, opened, none))
  | inr sealed ↦ absurd (omega (arith, sealed, none))
]

-- its summary is of its number
pub summary_number : OneSummaryASpelling → (number : ℕ) (f : FrameFields) (s : SummaryFields) → IsWhole number f
    → SpellsSummary (drop 1 (blocks_of f.contents)) (get_or (blocks_of f.contents) 0 []) s → s.frame ≡ number
summary_number one number f s whole spelled =
    let has : HasSummary number f = whole.rules.summary (whole_used number f whole) in
    ap (λ (x : SummaryFields). x.frame) (one _ _ s has.summary spelled has.spelled) ∙ has.frame

-- ---- the loop

-- The first n frames of an image were seen, and those that are left are free in the table.
pub record SeesSoFar (frames : List FrameFields) (n : ℕ) (left : List FrameFields) (t : Table) : Type 0 where
  pub left_are : left ≡ drop n frames
  pub count : n + length left ≡ length frames
  pub frame_count : length t.seat.frames ≡ length frames
  pub slot_count : length t.slots ≡ length frames
  pub done : (i : ℕ) → i < n → IsSeen i (get_or frames i no_part) (frame_at t.seat.frames i) (slots_at t.slots i)
  pub free : (i : ℕ) → n ≤ i → i < length frames → (frame_at t.seat.frames i).phase ≡ Free

pub none_seen : (frames : List FrameFields) (t : Table) → t.seat.frames ≡ replicate (length frames) fresh_frame → t.slots ≡ replicate (length frames) [] → SeesSoFar frames 0 frames t
none_seen frames t fresh empty = record {
  left_are = refl;
  count = omega arith;
  frame_count = ap length fresh ∙ length-replicate (length frames) fresh_frame;
  slot_count = ap length empty ∙ length-replicate (length frames) [];
  done = λ i h. absurd (omega arith);
  free = λ i low h. ap (λ (l : List Frame). (frame_at l i).phase) fresh ∙ ap (λ (k : Frame). k.phase) (get_or-replicate (length frames) i fresh_frame no_frame h);
}

-- the frame that is next
pub next_is : (frames : List FrameFields) (n : ℕ) (f : FrameFields) (rest left : List FrameFields) (t : Table) → SeesSoFar frames n left t → left ≡ f ∷ rest → get_or frames n no_part ≡ f
next_is frames n f rest left t so is =
    ap (λ (i : ℕ). get_or frames i no_part) (omega arith) ∙ sym (get_or-drop n frames 0 no_part) ∙ ap (λ (l : List FrameFields). get_or l 0 no_part) (sym so.left_are ∙ is)

pub next_inside : (frames : List FrameFields) (n : ℕ) (f : FrameFields) (rest left : List FrameFields) (t : Table) → SeesSoFar frames n left t → left ≡ f ∷ rest → n < length frames
next_inside frames n f rest left t so is = let more : length left ≡ suc (length rest) = ap length is in omega (arith, so.count)

pub one_seen : (frames : List FrameFields) (n : ℕ) (f : FrameFields) (rest left : List FrameFields) (old new : Table) → SeesSoFar frames n left old → left ≡ f ∷ rest
    → IsSeen n f (frame_at new.seat.frames n) (slots_at new.slots n) → ChangesAlone n old new → SeesSoFar frames (n + 1) rest new
one_seen frames n f rest left old new so is seen alone =
    let more : length left ≡ suc (length rest) = ap length is in
    let had : n + length left ≡ length frames = so.count in
    record {
      left_are = sym (ap (drop 1) (sym so.left_are ∙ is)) ∙ drop-drop 1 n frames;
      count = omega (arith, had, more);
      frame_count = alone.frame_count ∙ so.frame_count;
      slot_count = alone.slot_count ∙ so.slot_count;
      done = λ i h. elim (cases_eq i n) [
        | inl at ↦ (let F : ℕ → Type 0 = λ m. IsSeen m (get_or frames m no_part) (frame_at new.seat.frames m) (slots_at new.slots m) in
            let G : FrameFields → Type 0 = λ x. IsSeen n x (frame_at new.seat.frames n) (slots_at new.slots n) in
            subst F (sym at) (subst G (sym (next_is frames n f rest left old so is)) seen))
        | inr ne ↦ (let before : i < n = omega arith in
            let F : Frame → Type 0 = λ k. IsSeen i (get_or frames i no_part) k (slots_at new.slots i) in
            let G : List Slot → Type 0 = λ s. IsSeen i (get_or frames i no_part) (frame_at old.seat.frames i) s in
            subst F (sym (alone.frames i ne)) (subst G (sym (alone.slots i ne)) (so.done i before)))
      ];
      free = λ i low h. ap (λ (k : Frame). k.phase) (alone.frames i (omega arith)) ∙ so.free i (omega arith) h;
    }

-- a frame was set
pub set_alone : (n : ℕ) (old new : Table) → new.seat.frames ≡ set old.seat.frames n (frame_at new.seat.frames n) → new.slots ≡ set old.slots n (slots_at new.slots n) → ChangesAlone n old new
set_alone n old new frames_alone slots_alone = record {
  frames = λ i ne. ap (λ (l : List Frame). frame_at l i) frames_alone ∙ get_or-set_other old.seat.frames n i (frame_at new.seat.frames n) no_frame ne;
  slots = λ i ne. ap (λ (l : List (List Slot)). slots_at l i) slots_alone ∙ get_or-set_other old.slots n i (slots_at new.slots n) [] ne;
  frame_count = ap length frames_alone ∙ length-set old.seat.frames n (frame_at new.seat.frames n);
  slot_count = ap length slots_alone ∙ length-set old.slots n (slots_at new.slots n);
}

-- none was
pub same_alone : (n : ℕ) (t : Table) → ChangesAlone n t t
same_alone n t = record { frames = λ i ne. refl; slots = λ i ne. refl; frame_count = refl; slot_count = refl }

pub all_seen : (frames : List FrameFields) (n : ℕ) (left : List FrameFields) (t : Table) → SeesSoFar frames n left t → left ≡ [] → Sees frames t
all_seen frames n left t so none =
    let end : length left ≡ 0 = ap length none in
    record { frame_count = so.frame_count; slot_count = so.slot_count; each = λ i h. so.done i (omega (arith, so.count, end)) }

-- ---- what is lost

pub none_lost : (frames : List FrameFields) → AreLostOf frames 0 []
none_lost frames k = ((λ has. absurd (let h : has.0 < 0 = has.1 in omega arith)), (λ is. absurd (omega (arith, is.0))))

-- the next frame is lost
lost_more : (frames : List FrameFields) (n : ℕ) (lost after : List ℕ) → AreLostOf frames n lost → IsLostFrame n (get_or frames n no_part) → after ≡ lost ++ n ∷ [] → AreLostOf frames (n + 1) after
lost_more frames n lost after so here is = subst (AreLostOf frames (n + 1)) (sym is) (λ k. (
  (λ has. elim (Contains-push_cases lost n k has) [
    | inl before ↦ (let was = (so k).0 before in (omega (arith, was.0), was.1))
    | inr at ↦ (omega (arith, at), subst (λ (m : ℕ). IsLostFrame m (get_or frames m no_part)) at here)
  ]),
  (λ is_lost. elim (cases_eq k n) [
    | inl at ↦ subst (λ (m : ℕ). Contains (lost ++ n ∷ []) m) (sym at) (Contains-push lost n)
    | inr other ↦ Contains-append_left lost (n ∷ []) k ((so k).1 (omega (arith, is_lost.0, other), is_lost.1))
  ]),
))

-- the next frame isn't
lost_same : (frames : List FrameFields) (n : ℕ) (lost : List ℕ) → AreLostOf frames n lost → (IsLostFrame n (get_or frames n no_part) → ⊥) → AreLostOf frames (n + 1) lost
lost_same frames n lost so other k = (
  (λ has. (let was = (so k).0 has in (omega (arith, was.0), was.1))),
  (λ is_lost. elim (cases_eq k n) [
    | inl at ↦ absurd (other (subst (λ (m : ℕ). IsLostFrame m (get_or frames m no_part)) at is_lost.1))
    | inr ne ↦ (so k).1 (omega (arith, is_lost.0, ne), is_lost.1)
  ]),
)

-- by what was noted
pub lost_noted : (frames : List FrameFields) (n : ℕ) (f : FrameFields) (lost after : List ℕ) → AreLostOf frames n lost → get_or frames n no_part ≡ f → NotesLost n f lost after → AreLostOf frames (n + 1) after
lost_noted frames n f lost after so at (inl (is, noted)) = lost_more frames n lost after so (subst (IsLostFrame n) (sym at) is) noted
lost_noted frames n f lost after so at (inr (other, same)) = subst (AreLostOf frames (n + 1)) (sym same) (lost_same frames n lost so (λ is. other (subst (IsLostFrame n) at is)))

-- of all frames
pub all_lost : (frames : List FrameFields) (n : ℕ) (left : List FrameFields) (t : Table) (lost : List ℕ) → SeesSoFar frames n left t → left ≡ [] → AreLostOf frames n lost → AreLostOf frames (length frames) lost
all_lost frames n left t lost so none are =
    let end : length left ≡ 0 = ap length none in
    let all : n ≡ length frames = omega (arith, so.count, end) in
    subst (λ (m : ℕ). AreLostOf frames m lost) all are
