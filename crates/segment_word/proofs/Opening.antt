-- The rule at the start: nothing is pinned, and each frame is as its words say. Those of a new drive are free at generation 1.
use Rattle.std.proofs.Common.{◌≡◌, ℕ, zero, suc, ◌+◌, ◌*◌, ◌/◌, ◌%◌, ◌^◌, ◌<◌, ◌≤◌, List, [], ◌∷◌, drop, length, slice_index, refl, sym, ap, ◌∙◌, subst, arith, length-drop, length-take-le, get_or-drop, get_or-take, drop-drop, add_assoc, add-zero, replicate, ext_get_or}
use lib.ListN.{length-replicate, get_or-replicate}
use Rattle.segment_word.specs.Handles.{fresh_frame}
use mathlib.Core.Option.{some, some-injective, some-ne-none}
use lib.ListN.{get_elem?}
use Rattle.atomic_table.specs.Table.{opening}
use Rattle.segment_word.specs.Frames.{Free, View, code_of, no_frame}
use Rattle.segment_word.specs.Layout.{word_of, frame_at, frame_of, phase_of, first_frames, frames_of}
use Rattle.segment_word.specs.FrameRule.{IsKeptFrame, AllAgree, AllRemembered, FrameRule, opening_view}
use Rattle.segment_word.specs.private.UnreadWords.{IsUnreadWord, AreFrameWords}

pub length-first_frames : (n : ℕ) (words : List ℕ) → length (first_frames n words) ≡ n
length-first_frames zero words = refl
length-first_frames (suc n) words = ap suc (length-first_frames n (drop 1025 words))

pub first_frames-at : (n f : ℕ) (words : List ℕ) → f < n → frame_at (first_frames n words) f ≡ frame_of (drop (1025 * f) words)
first_frames-at zero f words h = absurd (omega arith)
first_frames-at (suc n) zero words h = refl
first_frames-at (suc n) (suc f) words h = first_frames-at n f (drop 1025 words) (omega arith) ∙ ap frame_of (drop-drop (1025 * f) 1025 words ∙ ap (λ (i : ℕ). drop i words) (omega arith))

pub length-frames_of : (words : List ℕ) → length (frames_of words) ≡ length words / 1025
length-frames_of words = length-first_frames (length words / 1025) words

-- a word of a frame's blocks, and how many there are
pub contents-at : (words : List ℕ) (f j : ℕ) → j < 1024 → slice_index (frame_of (drop (1025 * f) words)).contents j ≡ slice_index words (1025 * f + 1 + j)
contents-at words f j h =
    let own : List ℕ = drop (1025 * f) words in
    get_or-take 1024 (drop 1 own) j 0 h ∙ get_or-drop 1 own j 0 ∙ get_or-drop (1025 * f) words (1 + j) 0 ∙ ap (λ (i : ℕ). slice_index words i) (sym (add_assoc (1025 * f) 1 j))

pub length-contents : (words : List ℕ) (f : ℕ) → 1025 * f + 1025 ≤ length words → length (frame_of (drop (1025 * f) words)).contents ≡ 1024
length-contents words f inside =
    let own : List ℕ = drop (1025 * f) words in
    length-take-le 1024 (drop 1 own) (omega (arith, length-drop 1 own, length-drop (1025 * f) words))

pub state-at : (words : List ℕ) (f : ℕ) → slice_index (drop (1025 * f) words) 0 ≡ slice_index words (1025 * f)
state-at words f = get_or-drop (1025 * f) words 0 0 ∙ ap (λ (i : ℕ). slice_index words i) (add-zero (1025 * f))

-- the phase of two bits has these two bits
pub code_of-phase_of : (c : ℕ) → c < 4 → code_of (phase_of c) ≡ c
code_of-phase_of zero h = refl
code_of-phase_of (suc zero) h = refl
code_of-phase_of (suc (suc zero)) h = refl
code_of-phase_of (suc (suc (suc zero))) h = refl
code_of-phase_of (suc (suc (suc (suc c)))) h = absurd (omega arith)

-- a frame that nobody reads is as its words say
pub unread_kept : (words : List ℕ) (f : ℕ) → 1025 * f + 1025 ≤ length words → IsUnreadWord (slice_index words (1025 * f)) → IsKeptFrame words 0 f (frame_of (drop (1025 * f) words))
unread_kept words f inside is =
    let state : slice_index (drop (1025 * f) words) 0 ≡ slice_index words (1025 * f) = state-at words f in
    let code : code_of (frame_of (drop (1025 * f) words)).phase ≡ slice_index (drop (1025 * f) words) 0 % 4 = code_of-phase_of (slice_index (drop (1025 * f) words) 0 % 4) (omega arith) in
    record {
      state = (let t : slice_index words (1025 * f) ≡ word_of (frame_of (drop (1025 * f) words)) 0 = omega arith in t);
      blocks = λ j h. sym (contents-at words f j h);
      whole = length-contents words f inside;
      counted = omega arith;
      unread = λ _. refl;
      started = omega arith;
      numbered = omega arith;
      goes_on = λ h. let some : 0 < slice_index words (1025 * f) % 4 = omega arith in let more : slice_index words (1025 * f) / 2 ^ 32 + 1 < 2 ^ 32 = is.goes_on some in omega arith;
    }

only : (words : List ℕ) (id : ℕ) (v : View) → get_elem? (opening_view words ∷ []) id ≡ some v → AllAgree (frames_of words) v.pins
only words zero v e i p q = absurd (some-ne-none p (sym (ap (λ (x : View). get_elem? x.pins i) (some-injective (opening_view words) v e) ∙ q)))
only words (suc id) v e i p q = absurd (some-ne-none v (sym e))

no_memory : (words : List ℕ) (id : ℕ) (v : View) → get_elem? (opening_view words ∷ []) id ≡ some v → AllRemembered (frames_of words) v.remembered
no_memory words zero v e i p q = absurd (some-ne-none p (sym (ap (λ (x : View). get_elem? x.remembered i) (some-injective (opening_view words) v e) ∙ q)))
no_memory words (suc id) v e i p q = absurd (some-ne-none v (sym e))

-- words of frames that nobody reads open a table
pub opens : (words : List ℕ) → AreFrameWords words → FrameRule (opening {S = Unit {0}} words [] (opening_view words))
opens words are =
    let size : length (frames_of words) ≡ length words / 1025 = length-frames_of words in
    record {
      sized = are.whole ∙ ap (λ (m : ℕ). 1025 * m) (sym size);
      some_frame = omega arith;
      kept = λ f h. let inside : f < length words / 1025 = omega arith in
          subst (IsKeptFrame words 0 f) (sym (first_frames-at (length words / 1025) f words inside)) (unread_kept words f (omega arith) (are.states f inside));
      pinned = λ id v e i p q. only words id v e i p q;
      remembered = λ id v e i p q. no_memory words id v e i p q;
    }

-- the state word of a free frame at generation 1
pub first_unread : (n : ℕ) → n ≡ 2 ^ 32 → IsUnreadWord n
first_unread n is = record { unread = omega arith; started = omega arith; numbered = omega arith; goes_on = λ h. omega arith }

blank_frame : (words : List ℕ) (f : ℕ) → 1025 * f + 1025 ≤ length words → slice_index words (1025 * f) ≡ 2 ^ 32 → ((j : ℕ) → j < 1024 → slice_index words (1025 * f + 1 + j) ≡ 0)
    → frame_of (drop (1025 * f) words) ≡ fresh_frame
blank_frame words f inside new zeros =
    let own : List ℕ = drop (1025 * f) words in
    let state : slice_index own 0 ≡ 2 ^ 32 = state-at words f ∙ new in
    let whole : length (frame_of own).contents ≡ 1024 = length-contents words f inside in
    let contents : (frame_of own).contents ≡ replicate 1024 0 = ext_get_or 0 (frame_of own).contents (replicate 1024 0) (whole ∙ sym (length-replicate {A = ℕ} 1024 0))
    (λ j h. let short : j < 1024 = omega (arith, whole) in contents-at words f j short ∙ zeros j short ∙ sym (get_or-replicate 1024 j 0 0 short)) in
    let phase : (frame_of own).phase ≡ Free = ap (λ (s : ℕ). phase_of (s % 4)) state in
    let generation : (frame_of own).generation ≡ 1 = ap (λ (s : ℕ). s / 2 ^ 32) state in
    λ t. record { phase = phase t; generation = generation t; contents = contents t }

pub blank_frames : (words : List ℕ) (n : ℕ) → length words ≡ 1025 * n → ((f : ℕ) → f < n → slice_index words (1025 * f) ≡ 2 ^ 32) → ((f j : ℕ) → j < 1024 → slice_index words (1025 * f + 1 + j) ≡ 0)
    → frames_of words ≡ replicate n fresh_frame
blank_frames words n long fresh zeros =
    let count : length words / 1025 ≡ n = omega arith in
    ap (λ (m : ℕ). first_frames m words) count
    ∙ ext_get_or no_frame (first_frames n words) (replicate n fresh_frame) (length-first_frames n words ∙ sym (length-replicate n fresh_frame))
    (λ f h. let inside : f < n = omega (arith, length-first_frames n words) in
    first_frames-at n f words inside ∙ blank_frame words f (omega arith) (fresh f inside) (zeros f) ∙ sym (get_or-replicate n f fresh_frame no_frame inside))
