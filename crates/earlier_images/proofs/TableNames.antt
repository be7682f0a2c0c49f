-- A table of the frames of an image names what these frames do.
use Rattle.std.proofs.Common.{◌≡◌, ◌≢◌, ℕ, zero, suc, ◌<◌, ◌≤◌, ◌||◌, ◌&&◌, Bool, true, false, cond, eqb, if◌then◌else◌, List, [], ◌∷◌, length, map, get_or, Option, Some, None, refl, sym, ap, ◌∙◌, inl, inr, arith}
use Rattle.std.specs.Prelude.{option_map, slice_get}
use Rattle.std.proofs.lemmas.Bool.{cases_lt, eqb-true, ne_eqb, and_parts, false≢true}
use Rattle.s4_types.specs.Pointer.{Place}
use Rattle.block_log.specs.Log.{Stored}
use Rattle.codec.specs.declared.summaries.BlockRole.{BlockRole}
use Rattle.codec.specs.Summary.{SummaryFields}
use Rattle.image_parts.specs.Frames.{FrameFields, state_of, generation_of, IsReadOf}
use Rattle.image_parts.specs.declared.frame_rules.FrameRead.{FrameRead}
use Rattle.image_parts.specs.declared.frame_rules.FrameRead.TheVariants.{Free as FreeRead, Used}
use Rattle.segment_word.specs.Frames.{Phase, Free, Open, Sealed, Draining, Frame, is_open, is_sealed}
use Rattle.segment_word.specs.Layout.{phase_of, frame_at, block_bytes}
use Rattle.segment_table.specs.declared.slots.Slot.{Slot}
use Rattle.segment_table.specs.Table.{Table, slots_at}
use Rattle.segment_table.specs.Used.{used_slot, used_at}
use Rattle.segment_table.specs.Used.{with_bytes as slot_with_bytes, used_block as table_block}
use Rattle.segment_table.specs.Sealing.{summary_of}
use Rattle.verifier.specs.Tables.{no_part, block_in, IsFrameOf, IsTableOf}
use Rattle.verifier.proofs.Retold.{no_block}
use Rattle.earlier_images.specs.declared.frames.EarlierFrame.{EarlierFrame}
use Rattle.earlier_images.specs.Used.{roles_of, role_at, with_bytes, is_named, used_block, used_of, used_in, AreFramesOf}
use Rattle.earlier_images.proofs.OneFrames.{OneSummaryASpelling}

-- ---- states

-- a frame whose word says open or sealed is one that a table has as open or sealed, and no other is
named_states : (a b c : Bool) → (a ≡ true → (b ≡ false) × (c ≡ false))
    → (b || c) ≡ (is_open (cond a Free (cond b Open (cond c Sealed Draining))) || is_sealed (cond a Free (cond b Open (cond c Sealed Draining))))
named_states true b c free = ap (λ (x : Bool). x || c) (free refl).0 ∙ (free refl).1
named_states false true c free = refl
named_states false false true free = refl
named_states false false false free = refl

other_state : (code n m : ℕ) → code ≡ n → (n ≡ m → ⊥) → eqb code m ≡ false
other_state code n m is ne = ne_eqb code m (λ (e : code ≡ m). ne (sym is ∙ e))

named_phase : (code : ℕ) → (eqb code 1 || eqb code 2) ≡ (is_open (phase_of code) || is_sealed (phase_of code))
named_phase code =
    named_states (eqb code 0) (eqb code 1) (eqb code 2)
    (λ free. (other_state code 0 1 (eqb-true code 0 free) (λ e. omega (arith, e)), other_state code 0 2 (eqb-true code 0 free) (λ e. omega (arith, e))))

neither : (b c : Bool) → b ≡ false → c ≡ false → (b || c) ≡ true → ⊥
neither b c first last h = false≢true (sym (ap (λ (x : Bool). x || c) first ∙ last) ∙ h)

-- a frame that pointers may name isn't free
not_free : (code : ℕ) → (eqb code 1 || eqb code 2) ≡ true → code ≡ 0 → ⊥
not_free code named free = neither (eqb code 1) (eqb code 2) (other_state code 0 1 free (λ e. omega (arith, e))) (other_state code 0 2 free (λ e. omega (arith, e))) named

free_state : (a b c : Bool) → cond a Free (cond b Open (cond c Sealed Draining)) ≡ Free → a ≡ true
free_state true b c e = refl
free_state false true c e = absurd (let clash : Open ≡ Free = e in cc)
free_state false false true e = absurd (let clash : Sealed ≡ Free = e in cc)
free_state false false false e = absurd (let clash : Draining ≡ Free = e in cc)

used_phase : (code : ℕ) → (code ≡ 0 → ⊥) → phase_of code ≢ Free
used_phase code used e = used (eqb-true code 0 (free_state (eqb code 0) (eqb code 1) (eqb code 2) e))

-- ---- one frame

same_slot : (slots : List Slot) (bytes more : List ℕ) (i : ℕ) → (i < length slots → bytes ≡ more)
    → option_map (with_bytes more) (slice_get (map (λ (slot : Slot). slot.role) slots) i) ≡ option_map (slot_with_bytes bytes) (slice_get slots i)
same_slot [] bytes more i h = refl
same_slot (x ∷ slots) bytes more zero h = ap (λ (l : List ℕ). Some (slot_with_bytes l x)) (sym (h (omega arith)))
same_slot (x ∷ slots) bytes more (suc i) h = same_slot slots bytes more i (λ low. h (omega arith))

same_used : (slots : List Slot) (f : FrameFields) (contents : List ℕ) (b : ℕ) → ((n : ℕ) → 1 ≤ n → n ≤ length slots → block_bytes contents n ≡ block_in f n)
    → option_map (with_bytes (block_in f b)) (role_at (map (λ (slot : Slot). slot.role) slots) b) ≡ option_map (slot_with_bytes (block_bytes contents b)) (used_slot slots b)
same_used slots f contents zero blocks = refl
same_used slots f contents (suc i) blocks = same_slot slots (block_bytes contents (suc i)) (block_in f (suc i)) i (λ low. blocks (suc i) (omega arith) (omega arith))

-- the summary of a frame of a table lists what is used of it
same_roles : OneSummaryASpelling → (n : ℕ) (f : FrameFields) (read : FrameRead) (k : Frame) (slots : List Slot) → IsReadOf f read → IsFrameOf n f k slots → (state_of f.word ≡ 0 → ⊥) → k.phase ≢ Free
    → roles_of read ≡ map (λ (slot : Slot). slot.role) slots
same_roles one n f FreeRead k slots of is used phase = absurd (used of)
same_roles one n f (Used s) k slots of is used phase = ap (λ (x : SummaryFields). x.roles) (one _ _ s (summary_of n k slots) of.1 (is.summary phase))

tested : (t u : Bool) (x y : Option Stored) → t ≡ u → (t ≡ true → x ≡ y) → (if t then x else None) ≡ (if u then y else None)
tested true true x y e h = h refl
tested true false x y e h = absurd (let clash : true ≡ false = e in cc)
tested false true x y e h = absurd (let clash : false ≡ true = e in cc)
tested false false x y e h = refl

same_block : OneSummaryASpelling → (n : ℕ) (f : FrameFields) (read : FrameRead) (k : Frame) (slots : List Slot) (b g : ℕ) → IsReadOf f read → IsFrameOf n f k slots
    → used_block (record { part = f; read = read }) b g ≡ table_block k slots b g
same_block one n f read k slots b g of is =
    let state : ℕ = state_of f.word in
    let roles : List BlockRole = map (λ (slot : Slot). slot.role) slots in
    let named : (eqb state 1 || eqb state 2) ≡ (is_open k.phase || is_sealed k.phase) = named_phase state ∙ ap (λ (p : Phase). is_open p || is_sealed p) (sym is.phase) in
    let same : is_named f g ≡ ((is_open k.phase || is_sealed k.phase) && eqb k.generation g) =
    ap (λ (x : Bool). x && eqb (generation_of f.word) g) named ∙ ap (λ (m : ℕ). (is_open k.phase || is_sealed k.phase) && eqb m g) (sym is.generation) in
    tested (is_named f g) ((is_open k.phase || is_sealed k.phase) && eqb k.generation g) _ _ same (λ holds.
    let used : state ≡ 0 → ⊥ = not_free state (and_parts (eqb state 1 || eqb state 2) (eqb (generation_of f.word) g) holds).0 in
    let phase : k.phase ≢ Free = λ e. used_phase state used (sym is.phase ∙ e) in
    ap (λ (l : List BlockRole). option_map (with_bytes (block_in f b)) (role_at l b)) (same_roles one n f read k slots of is used phase)
    ∙ same_used slots f k.contents b (is.blocks phase))

-- ---- all frames

record FrameAt (parts : List FrameFields) (frames : List EarlierFrame) (n : ℕ) : Type 0 where
  frame : EarlierFrame
  is : slice_get frames n ≡ Some frame
  part : frame.part ≡ get_or parts n no_part
  read : IsReadOf (get_or parts n no_part) frame.read

frame_there : (parts : List FrameFields) (frames : List EarlierFrame) (n : ℕ) → AreFramesOf parts frames → n < length parts → FrameAt parts frames n
frame_there [] frames n are inside = absurd (omega arith)
frame_there (f ∷ parts) [] n are inside = absurd are
frame_there (f ∷ parts) (k ∷ frames) zero are inside = record { frame = k; is = refl; part = are.0.0; read = are.0.1 }
frame_there (f ∷ parts) (k ∷ frames) (suc n) are inside =
    let found : FrameAt parts frames n = frame_there parts frames n are.1 (omega arith) in
    record { frame = found.frame; is = found.is; part = found.part; read = found.read }

no_frame_there : (parts : List FrameFields) (frames : List EarlierFrame) (n : ℕ) → AreFramesOf parts frames → length parts ≤ n → slice_get frames n ≡ None
no_frame_there [] [] n are past = refl
no_frame_there [] (k ∷ frames) n are past = absurd are
no_frame_there (f ∷ parts) [] n are past = absurd are
no_frame_there (f ∷ parts) (k ∷ frames) zero are past = absurd (omega arith)
no_frame_there (f ∷ parts) (k ∷ frames) (suc n) are past = no_frame_there parts frames n are.1 (omega arith)

pub names_same : OneSummaryASpelling → (parts : List FrameFields) (frames : List EarlierFrame) (t : Table) (p : Place) → AreFramesOf parts frames → IsTableOf parts t → used_in frames p ≡ used_at t p
names_same one parts frames t p are is = elim (cases_lt p.frame (length parts)) [
  | inl inside ↦ (let found : FrameAt parts frames p.frame = frame_there parts frames p.frame are inside in
      ap (λ (o : Option EarlierFrame). used_of o p.block p.generation) found.is
      ∙ ap (λ (f : FrameFields). used_block (record { part = f; read = found.frame.read }) p.block p.generation) found.part
      ∙ same_block one p.frame (get_or parts p.frame no_part) found.frame.read (frame_at t.seat.frames p.frame) (slots_at t.slots p.frame) p.block p.generation found.read (is.each p.frame inside))
  | inr past ↦ ap (λ (o : Option EarlierFrame). used_of o p.block p.generation) (no_frame_there parts frames p.frame are past)
      ∙ sym (no_block t p.frame p.block p.generation (omega (arith, is.frame_count)))
]
