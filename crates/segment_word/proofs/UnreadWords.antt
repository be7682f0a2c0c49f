-- Words of frames that no seat knows yet, after the state word or a block of one frame was written.
use Rattle.std.proofs.Common.{◌≡◌, ◌≢◌, ℕ, ◌+◌, ◌*◌, ◌/◌, ◌%◌, ◌^◌, ◌<◌, ◌≤◌, List, set, length, drop, take, slice_index, flat_map, refl, sym, ap, ◌∙◌, subst, arith, get_or-set_same, get_or-set_other, length-set, add-zero, add_assoc, ext_get_or, lt_of_not-le, length-take-le, length-drop, get_or-take, get_or-drop, ◌-◌}
use borrow.Rule.Slice.PartMut.{put_mid}
use mathlib.Core.Logic.{dite}
use native.Mathlib.Decide.{ℕ_discrete, dec_le}
use lib.Seq.{paste, length-paste}
use Rattle.std.specs.declared.vec.Vec.{Vec}
use Rattle.std.specs.Vec.{with_items}
use Rattle.std.proofs.lemmas.List.{with_items_is}
use Rattle.std.proofs.lemmas.Slice.{put_mid-paste}
use Rattle.byteorder.specs.Endian.{big_bytes}
use Rattle.segment_word.specs.Frames.{Phase, Free, Open, Sealed, Draining, Frame, code_of, no_frame}
use Rattle.segment_word.specs.Layout.{frame_at, frame_of, frames_of, phase_of, block_bytes, block_words, with_block}
use Rattle.segment_word.specs.private.UnreadWords.{IsUnreadWord, AreFrameWords}
use Rattle.s4_types.specs.Sizes.{IsFrameCount}
use Rattle.segment_word.proofs.Words.{apart, code_below_four}
use Rattle.segment_word.proofs.Opening.{length-frames_of, first_frames-at, contents-at, length-contents, state-at}
use Rattle.segment_word.proofs.BlockWords.{is_block, length-block_words}
use Rattle.segment_word.proofs.BlockBytes.{replaced, before, behind, stored_here, stored_elsewhere}

-- the frame of that number is encoded from its first word on
pub frame_at-frames_of : (words : List ℕ) (f : ℕ) → f < length words / 1025 → frame_at (frames_of words) f ≡ frame_of (drop (1025 * f) words)
frame_at-frames_of words f inside = first_frames-at (length words / 1025) f words inside

-- two frames are equal field by field
same_fields : (k l : Frame) → k.phase ≡ l.phase → k.generation ≡ l.generation → k.contents ≡ l.contents → k ≡ l
same_fields k l p g c = λ t. record { phase = p t; generation = g t; contents = c t }

-- the blocks of a frame are as their words are
same_contents : (old new : List ℕ) (f : ℕ) → 1025 * f + 1025 ≤ length old → length new ≡ length old → ((j : ℕ) → j < 1024 → slice_index new (1025 * f + 1 + j) ≡ slice_index old (1025 * f + 1 + j))
    → (frame_of (drop (1025 * f) new)).contents ≡ (frame_of (drop (1025 * f) old)).contents
same_contents old new f inside long same =
    let full : length (frame_of (drop (1025 * f) new)).contents ≡ 1024 = length-contents new f (omega arith) in
    ext_get_or 0 (frame_of (drop (1025 * f) new)).contents (frame_of (drop (1025 * f) old)).contents (full ∙ sym (length-contents old f inside))
    (λ j h. let short : j < 1024 = omega (arith, full) in contents-at new f j short ∙ same j short ∙ sym (contents-at old f j short))

-- a frame is as its words are
same_frame : (old new : List ℕ) (f : ℕ) → 1025 * f + 1025 ≤ length old → length new ≡ length old → ((m : ℕ) → m < 1025 → slice_index new (1025 * f + m) ≡ slice_index old (1025 * f + m))
    → frame_of (drop (1025 * f) new) ≡ frame_of (drop (1025 * f) old)
same_frame old new f inside long same =
    let state : slice_index (drop (1025 * f) new) 0 ≡ slice_index (drop (1025 * f) old) 0 =
    state-at new f ∙ ap (λ (i : ℕ). slice_index new i) (sym (add-zero (1025 * f))) ∙ same 0 (omega arith) ∙ ap (λ (i : ℕ). slice_index old i) (add-zero (1025 * f)) ∙ sym (state-at old f) in
    same_fields (frame_of (drop (1025 * f) new)) (frame_of (drop (1025 * f) old))
    (ap (λ (s : ℕ). phase_of (s % 4)) state)
    (ap (λ (s : ℕ). s / 2 ^ 32) state)
    (same_contents old new f inside long (λ j h. ap (λ (i : ℕ). slice_index new i) (add_assoc (1025 * f) 1 j) ∙ same (1 + j) (omega arith) ∙ ap (λ (i : ℕ). slice_index old i) (sym (add_assoc (1025 * f) 1 j))))

-- where the words of one frame alone were written, the others are as they were
frames_changed : (old new : List ℕ) (f : ℕ) → length old ≡ 1025 * (length old / 1025) → length new ≡ length old → f < length old / 1025
    → ((g m : ℕ) → g ≢ f → m < 1025 → slice_index new (1025 * g + m) ≡ slice_index old (1025 * g + m))
    → frames_of new ≡ set (frames_of old) f (frame_of (drop (1025 * f) new))
frames_changed old new f whole long inside else =
    let k : Frame = frame_of (drop (1025 * f) new) in
    let count : length new / 1025 ≡ length old / 1025 = ap (λ (n : ℕ). n / 1025) long in
    ext_get_or no_frame (frames_of new) (set (frames_of old) f k) (length-frames_of new ∙ count ∙ sym (length-frames_of old) ∙ sym (length-set (frames_of old) f k))
    (λ g h. let low : g < length new / 1025 = omega (arith, length-frames_of new) in
    frame_at-frames_of new g low ∙ dite (ℕ_discrete f g)
    (λ here. subst (λ (n : ℕ). frame_of (drop (1025 * n) new) ≡ frame_at (set (frames_of old) f k) n) here (sym (get_or-set_same (frames_of old) f k no_frame (omega (arith, length-frames_of old)))))
    (λ far. same_frame old new g (omega arith) long (λ m hm. else g m (λ e. far (sym e)) hm) ∙ sym (frame_at-frames_of old g (omega arith)) ∙ sym (get_or-set_other (frames_of old) f g k no_frame (λ e. far (sym e)))))

-- the rule of such words after those of one frame were written
are_changed : (old new : List ℕ) (f : ℕ) → AreFrameWords old → length new ≡ length old
    → ((g : ℕ) → g ≢ f → slice_index new (1025 * g) ≡ slice_index old (1025 * g)) → IsUnreadWord (slice_index new (1025 * f)) → AreFrameWords new
are_changed old new f are long else here = record {
  whole = long ∙ are.whole ∙ ap (λ (n : ℕ). 1025 * (n / 1025)) (sym long);
  count = subst (λ (n : ℕ). IsFrameCount (n / 1025)) (sym long) are.count;
  states = λ g h. let low : g < length old / 1025 = subst (λ (n : ℕ). g < n / 1025) long h in dite (ℕ_discrete f g)
      (λ e. subst (λ (n : ℕ). IsUnreadWord (slice_index new (1025 * n))) e here)
      (λ far. subst IsUnreadWord (sym (else g (λ e. far (sym e)))) (are.states g low));
}

pub phase_of-code_of : (p : Phase) → phase_of (code_of p) ≡ p
phase_of-code_of Free = refl
phase_of-code_of Open = refl
phase_of-code_of Sealed = refl
phase_of-code_of Draining = refl

-- a phase and a generation make a state word that counts no reader
pub made_unread : (p : Phase) (g x : ℕ) → x ≡ code_of p + g * 2 ^ 32 → 1 ≤ g → g < 2 ^ 32 → (0 < code_of p → g + 1 < 2 ^ 32) → IsUnreadWord x
made_unread p g x is started low goes =
    let small : code_of p < 4 = code_below_four p in
    record {
      unread = omega arith;
      started = omega arith;
      numbered = omega arith;
      goes_on = λ h. let some : 0 < code_of p = omega arith in let t : g + 1 < 2 ^ 32 = goes some in omega arith;
    }

-- a state word was written
pub state_written : (words : List ℕ) (f x g : ℕ) (p : Phase) → AreFrameWords words → f < length words / 1025 → x ≡ code_of p + g * 2 ^ 32
    → frames_of (set words (1025 * f) x) ≡ set (frames_of words) f (record (frame_at (frames_of words) f) { phase = p; generation = g })
state_written words f x g p are inside is =
    let new : List ℕ = set words (1025 * f) x in
    let long : length new ≡ length words = length-set words (1025 * f) x in
    let here : slice_index (drop (1025 * f) new) 0 ≡ x = state-at new f ∙ get_or-set_same words (1025 * f) x 0 (omega (arith, are.whole)) in
    let small : code_of p < 4 = code_below_four p in
    let code : x % 4 ≡ code_of p = omega arith in
    let high : x / 2 ^ 32 ≡ g = omega arith in
    let blocks : (frame_of (drop (1025 * f) new)).contents ≡ (frame_of (drop (1025 * f) words)).contents =
    same_contents words new f (omega (arith, are.whole)) long (λ j h. get_or-set_other words (1025 * f) (1025 * f + 1 + j) x 0 (λ e. omega arith)) in
    frames_changed words new f are.whole long inside (λ n m far h. apart words f n m x far h)
    ∙ ap (set (frames_of words) f) (same_fields (frame_of (drop (1025 * f) new)) (record (frame_at (frames_of words) f) { phase = p; generation = g })
    (ap (λ (s : ℕ). phase_of (s % 4)) here ∙ ap phase_of code ∙ phase_of-code_of p)
    (ap (λ (s : ℕ). s / 2 ^ 32) here ∙ high)
    (blocks ∙ ap (λ (k : Frame). k.contents) (sym (frame_at-frames_of words f inside))))

pub state_kept : (words : List ℕ) (f x : ℕ) → AreFrameWords words → f < length words / 1025 → IsUnreadWord x → AreFrameWords (set words (1025 * f) x)
state_kept words f x are inside is = are_changed words (set words (1025 * f) x) f are (length-set words (1025 * f) x)
    (λ g far. get_or-set_other words (1025 * f) (1025 * g) x 0 (λ e. far (omega arith)))
    (subst IsUnreadWord (sym (get_or-set_same words (1025 * f) x 0 (omega (arith, are.whole)))) is)

-- outside of what was replaced nothing has changed
outside : (words values : List ℕ) (at n i : ℕ) → at + n ≤ length words → n ≤ length values → (at ≤ i → at + n ≤ i) → slice_index (paste words at values n) i ≡ slice_index words i
outside words values at n i long full apart = elim (dec_le at i) as (λ _. slice_index (paste words at values n) i ≡ slice_index words i) [
  | yes h ↦ behind words values at n i long full (apart h)
  | no h ↦ before words values at n i long full (lt_of_not-le h)
]

beyond : (s at n i : ℕ) → at ≤ i → i < at + n → (d : ℕ) × (s + i ≡ s + at + d) × (i ≡ at + d) × (d < n)
beyond s at n i low high = (i - at, omega arith, omega arith, omega arith)

-- a part of the words has what was replaced in the words at a place of its own
paste_part : (words part values : List ℕ) (s at n m i : ℕ) → s + m ≤ length words → length part ≡ m → at + n ≤ m → n ≤ length values
    → ((j : ℕ) → j < m → slice_index words (s + j) ≡ slice_index part j) → i < m
    → slice_index (paste words (s + at) values n) (s + i) ≡ slice_index (paste part at values n) i
paste_part words part values s at n m i long size short full same small = elim (dec_le at i) as (λ _. slice_index (paste words (s + at) values n) (s + i) ≡ slice_index (paste part at values n) i) [
  | yes low ↦ elim (dec_le (at + n) i) as (λ _. slice_index (paste words (s + at) values n) (s + i) ≡ slice_index (paste part at values n) i) [
    | yes h ↦ behind words values (s + at) n (s + i) (omega arith) full (omega arith) ∙ same i small ∙ sym (behind part values at n i (omega arith) full h)
    | no h ↦ let d = beyond s at n i low (lt_of_not-le h) in
        ap (λ (j : ℕ). slice_index (paste words (s + at) values n) j) d.1
        ∙ replaced words values (s + at) n d.0 (omega arith) full d.3
        ∙ sym (replaced part values at n d.0 (omega arith) full d.3)
        ∙ ap (λ (j : ℕ). slice_index (paste part at values n) j) (sym d.2)
  ]
  | no h ↦ let less : i < at = lt_of_not-le h in before words values (s + at) n (s + i) (omega arith) full (omega arith) ∙ same i small ∙ sym (before part values at n i (omega arith) full less)
]

-- the words after block b of frame f was written
abbrev pub with_values : List ℕ → ℕ → ℕ → List ℕ → List ℕ
with_values words f b values = paste words (1025 * f + 1 + 64 * b) values 64

length-with_values : (words : List ℕ) (f b : ℕ) (values : List ℕ) → AreFrameWords words → f < length words / 1025 → b < 16 → length values ≡ 64 → length (with_values words f b values) ≡ length words
length-with_values words f b values are inside low full = length-paste words (1025 * f + 1 + 64 * b) values 64 (omega (arith, are.whole)) (omega arith)

-- a block was written
pub block_written : (words bytes : List ℕ) (f b : ℕ) → AreFrameWords words → f < length words / 1025 → b < 16
    → frames_of (with_values words f b (block_words bytes)) ≡ set (frames_of words) f (with_block (frame_at (frames_of words) f) b bytes)
block_written words bytes f b are inside low =
    let values : List ℕ = block_words bytes in
    let full : length values ≡ 64 = length-block_words bytes in
    let new : List ℕ = with_values words f b values in
    let long : length new ≡ length words = length-with_values words f b values are inside low full in
    let room : 1025 * f + 1025 ≤ length words = omega (arith, are.whole) in
    let own : Frame = frame_of (drop (1025 * f) words) in
    let own_whole : length own.contents ≡ 1024 = length-contents words f room in
    let state : slice_index (drop (1025 * f) new) 0 ≡ slice_index (drop (1025 * f) words) 0 =
    state-at new f ∙ outside words values (1025 * f + 1 + 64 * b) 64 (1025 * f) (omega arith) (omega arith) (λ h. absurd (omega arith)) ∙ sym (state-at words f) in
    let new_whole : length (frame_of (drop (1025 * f) new)).contents ≡ 1024 = length-contents new f (omega arith) in
    let blocks : (frame_of (drop (1025 * f) new)).contents ≡ (with_block own b bytes).contents = ext_get_or 0 (frame_of (drop (1025 * f) new)).contents (paste own.contents (64 * b) values 64)
    (new_whole ∙ sym (length-paste own.contents (64 * b) values 64 (omega arith) (omega arith) ∙ own_whole))
    (λ j h. let short : j < 1024 = omega (arith, new_whole) in contents-at new f j short
    ∙ paste_part words own.contents values (1025 * f + 1) (64 * b) 64 1024 j (omega arith) own_whole (omega arith) (omega arith) (λ i hi. sym (contents-at words f i hi)) short) in
    frames_changed words new f are.whole long inside (λ g m far h. outside words values (1025 * f + 1 + 64 * b) 64 (1025 * g + m) (omega arith) (omega arith) (λ e. omega arith))
    ∙ ap (set (frames_of words) f) (same_fields (frame_of (drop (1025 * f) new)) (with_block own b bytes) (ap (λ (s : ℕ). phase_of (s % 4)) state) (ap (λ (s : ℕ). s / 2 ^ 32) state) blocks
    ∙ ap (λ (k : Frame). with_block k b bytes) (sym (frame_at-frames_of words f inside)))

pub block_kept : (words values : List ℕ) (f b : ℕ) → AreFrameWords words → f < length words / 1025 → b < 16 → length values ≡ 64 → AreFrameWords (with_values words f b values)
block_kept words values f b are inside low full =
    let same : (g : ℕ) → slice_index (with_values words f b values) (1025 * g) ≡ slice_index words (1025 * g) =
    λ g. outside words values (1025 * f + 1 + 64 * b) 64 (1025 * g) (omega (arith, are.whole)) (omega arith) (λ h. omega arith) in
    are_changed words (with_values words f b values) f are (length-with_values words f b values are inside low full)
    (λ g far. same g) (subst IsUnreadWord (sym (same f)) (are.states f inside))

-- each frame has its 1,024 words
pub frame_whole : (words : List ℕ) (f : ℕ) → AreFrameWords words → f < length words / 1025 → length (frame_at (frames_of words) f).contents ≡ 1024
frame_whole words f are inside = ap (λ (k : Frame). length k.contents) (frame_at-frames_of words f inside) ∙ length-contents words f (omega (arith, are.whole))

-- the frame that was put there
there : (frames new : List Frame) (f : ℕ) (k : Frame) → new ≡ set frames f k → f < length frames → frame_at new f ≡ k
there frames new f k is inside = ap (λ (l : List Frame). frame_at l f) is ∙ get_or-set_same frames f k no_frame inside

-- the bytes of the block that was stored, and those of another block
pub reads_stored : (frames new : List Frame) (f b : ℕ) (bytes : List ℕ) → new ≡ set frames f (with_block (frame_at frames f) b bytes) → f < length frames → b < 16
    → length (frame_at frames f).contents ≡ 1024 → flat_map (big_bytes 8) (block_words bytes) ≡ bytes → block_bytes (frame_at new f).contents b ≡ bytes
reads_stored frames new f b bytes is inside low whole back =
    ap (λ (k : Frame). block_bytes k.contents b) (there frames new f (with_block (frame_at frames f) b bytes) is inside) ∙ stored_here (frame_at frames f) b bytes low whole back

pub reads_other : (frames new : List Frame) (f b c : ℕ) (bytes : List ℕ) → new ≡ set frames f (with_block (frame_at frames f) b bytes) → f < length frames → b < 16 → c < 16 → c ≢ b
    → length (frame_at frames f).contents ≡ 1024 → block_bytes (frame_at new f).contents c ≡ block_bytes (frame_at frames f).contents c
reads_other frames new f b c bytes is inside low small far whole =
    ap (λ (k : Frame). block_bytes k.contents c) (there frames new f (with_block (frame_at frames f) b bytes) is inside) ∙ stored_elsewhere (frame_at frames f) b c bytes low small far whole

-- 64 words that are at a block's place are the block's bytes
pub is_loaded : (words found : List ℕ) (f b n : ℕ) → AreFrameWords words → f < length words / 1025 → b < 16 → n ≡ 64 → found ≡ take n (drop (1025 * f + 1 + 64 * b) words)
    → flat_map (big_bytes 8) found ≡ block_bytes (frame_at (frames_of words) f).contents b
is_loaded words found f b n are inside low some is =
    let at : ℕ = 1025 * f + 1 + 64 * b in
    let all : found ≡ take 64 (drop at words) = is ∙ ap (λ (m : ℕ). take m (drop at words)) some in
    let k : Frame = frame_of (drop (1025 * f) words) in
    let full : length found ≡ 64 = ap length all ∙ length-take-le 64 (drop at words) (omega (arith, length-drop at words, are.whole)) in
    is_block found k.contents b full low (length-contents words f (omega (arith, are.whole)))
    (λ i h. ap (λ (l : List ℕ). slice_index l i) all ∙ get_or-take 64 (drop at words) i 0 h ∙ get_or-drop at words i 0
    ∙ ap (λ (j : ℕ). slice_index words j) (omega arith) ∙ sym (contents-at words f (64 * b + i) (omega arith)))
    ∙ ap (λ (l : Frame). block_bytes l.contents b) (sym (frame_at-frames_of words f inside))

-- a frame that is seen has its words
pub within : (words : List ℕ) (frames : List Frame) (f : ℕ) → frames_of words ≡ frames → f < length frames → f < length words / 1025
within words frames f is h = let count : length (frames_of words) ≡ length frames = ap length is in omega (arith, length-frames_of words)

-- how far the words of a block go
pub block_inside : (words : List ℕ) (frames : List Frame) (f b : ℕ) → AreFrameWords words → frames_of words ≡ frames → f < length frames → b < 16
    → (1025 * f + 1 + 64 * b + 64 ≤ length words) × (length words ≤ 1049600)
block_inside words frames f b are is h low =
    let inside : f < length words / 1025 = within words frames f is h in
    (omega (arith, are.whole), omega (arith, are.whole, are.count))

-- the words in memory after a block was copied there: what holds of them, the frames, and that the frame was whole
pub copied : {Z : Type 0} (v : Vec ℕ Z) (was part bytes : List ℕ) (frames : List Frame) (f b n : ℕ) → AreFrameWords v.items → frames_of v.items ≡ frames → f < length frames → b < 16
    → was ≡ v.items → part ≡ block_words bytes → n ≡ 64
    → AreFrameWords (with_items v (put_mid (1025 * f + 1 + 64 * b) n was part)).items
    × (frames_of (with_items v (put_mid (1025 * f + 1 + 64 * b) n was part)).items ≡ set frames f (with_block (frame_at frames f) b bytes))
    × (length (frame_at frames f).contents ≡ 1024)
copied v was part bytes frames f b n are is h low slice block some =
    let values : List ℕ = block_words bytes in
    let at : ℕ = 1025 * f + 1 + 64 * b in
    let full : length values ≡ 64 = length-block_words bytes in
    let inside : f < length v.items / 1025 = within v.items frames f is h in
    let pasted : put_mid at n was part ≡ with_values v.items f b values = put_mid-paste at n was part values 64 block (sym some) (sym full) ∙ ap (λ (l : List ℕ). paste l at values 64) slice in
    let items : (with_items v (put_mid at n was part)).items ≡ with_values v.items f b values =
    with_items_is v (put_mid at n was part) (ap length pasted ∙ length-with_values v.items f b values are inside low full ∙ sym v.ok.0) ∙ pasted in (
      subst AreFrameWords (sym items) (block_kept v.items values f b are inside low full),
      ap frames_of items ∙ block_written v.items bytes f b are inside low ∙ ap (λ (l : List Frame). set l f (with_block (frame_at l f) b bytes)) is,
      ap (λ (l : List Frame). length (frame_at l f).contents) (sym is) ∙ frame_whole v.items f are inside,
    )

-- what a state word says of its frame
pub state_read : (words : List ℕ) (frames : List Frame) (f x : ℕ) → frames_of words ≡ frames → f < length frames → x ≡ slice_index words (1025 * f)
    → ((frame_at frames f).phase ≡ phase_of (x % 4)) × ((frame_at frames f).generation ≡ x / 2 ^ 32)
state_read words frames f x is inside read =
    let at : frame_at frames f ≡ frame_of (drop (1025 * f) words) = ap (λ (l : List Frame). frame_at l f) (sym is) ∙ frame_at-frames_of words f (within words frames f is inside) in
    let state : slice_index (drop (1025 * f) words) 0 ≡ x = state-at words f ∙ sym read in
    (ap (λ (k : Frame). k.phase) at ∙ ap (λ (s : ℕ). phase_of (s % 4)) state, ap (λ (k : Frame). k.generation) at ∙ ap (λ (s : ℕ). s / 2 ^ 32) state)
