-- Store keeps the rule: one block word of an open frame is written.
use Rattle.std.proofs.Common.{◌≡◌, ◌≢◌, ℕ, ◌+◌, ◌*◌, ◌<◌, List, set, length, slice_index, refl, sym, ap, ◌∙◌, subst, arith, get_or-set_same, get_or-set_other, length-set}
use mathlib.Core.Logic.{dite}
use mathlib.Core.Option.{none, some}
use native.Mathlib.Decide.{ℕ_discrete}
use lib.ListN.{get_elem?}
use Rattle.atomic_table.specs.Table.{step, keeps, Allows}
use Rattle.segment_word.specs.Frames.{Open, Frame, Pinned, View, code_of}
use Rattle.segment_word.specs.Layout.{frame_at}
use Rattle.segment_word.specs.Counting.{readers, drive_frames}
use Rattle.segment_word.specs.FrameRule.{IsKeptFrame, Agrees, AllAgree, FrameRules, FrameRule}
use Rattle.segment_word.specs.Steps.{Sat, Stores, with_word, with_frame}
use Rattle.segment_word.proofs.Sums.{readers-set, frames-first, frames-drive}
use Rattle.segment_word.proofs.Changes.{GoesOn, changed, agrees_set, agree_set, memories_set}

apart : (words : List ℕ) (f g j m x : ℕ) → g ≢ f → j < 1024 → m < 1025 → slice_index (set words (1025 * f + 1 + j) x) (1025 * g + m) ≡ slice_index words (1025 * g + m)
apart words f g j m x else hj h = get_or-set_other words (1025 * f + 1 + j) (1025 * g + m) x 0 (λ e. else (omega arith))

-- a block word of the frame is the written one or as it was, in the table and in what is known
same_blocks : (words : List ℕ) (f j x : ℕ) (contents : List ℕ) → 1025 * f + 1 + j < length words → j < length contents
    → ((i : ℕ) → i < 1024 → slice_index words (1025 * f + 1 + i) ≡ slice_index contents i)
    → (i : ℕ) → i < 1024 → slice_index (set words (1025 * f + 1 + j) x) (1025 * f + 1 + i) ≡ slice_index (set contents j x) i
same_blocks words f j x contents inside short blocks i h = dite (ℕ_discrete i j)
    (λ here. subst (λ (n : ℕ). slice_index (set words (1025 * f + 1 + j) x) (1025 * f + 1 + n) ≡ slice_index (set contents j x) n) (sym here)
    (get_or-set_same words (1025 * f + 1 + j) x 0 inside ∙ sym (get_or-set_same contents j x 0 short)))
    (λ else. get_or-set_other words (1025 * f + 1 + j) (1025 * f + 1 + i) x 0 (λ e. else (omega arith)) ∙ blocks i h ∙ sym (get_or-set_other contents j i x 0 else))

stored_kept : (words : List ℕ) (n f j x : ℕ) (k : Frame) → IsKeptFrame words n f k → 1025 * f + 1 + j < length words → j < 1024
    → IsKeptFrame (set words (1025 * f + 1 + j) x) n f (with_word k j x)
stored_kept words n f j x k is inside hj = record {
  state = get_or-set_other words (1025 * f + 1 + j) (1025 * f) x 0 (λ e. omega arith) ∙ is.state;
  blocks = same_blocks words f j x k.contents inside (omega (arith, is.whole)) is.blocks;
  whole = length-set k.contents j x ∙ is.whole;
  counted = is.counted;
  unread = is.unread;
  started = is.started;
  numbered = is.numbered;
  goes_on = is.goes_on;
}

pub stores : (slots id : ℕ) (me : Sat) (f j x : ℕ) → id ≡ 0 → f < length me.0.frames → j < 1024 → (frame_at me.0.frames f).phase ≡ Open
    → Allows FrameRule slots id me (1025 * f + 1 + j) (λ _. x) (λ _. Stores (step slots (1025 * f + 1 + j) x 0 none) me x)
stores slots id me f j x z inside hj is_open s rule _ at small =
    let known : drive_frames s.views ≡ me.0.frames = frames-first s.views id me.0 z at in
    let r : FrameRules s.words s.views me.0.frames = subst (λ (l : List Frame). FrameRules s.words s.views l) known rule in
    let k : Frame = frame_at me.0.frames f in
    let w : View = with_frame me.0 f (with_word k j x) in
    let place : 1025 * f + 1 + j < length s.words = omega (arith, r.sized) in
    let count : (g : ℕ) → readers g (set s.views id w) ≡ readers g s.views = λ g. let t = readers-set g s.views id me.0 w at in omega arith in
    let kept : IsKeptFrame (set s.words (1025 * f + 1 + j) x) (readers f (set s.views id w)) f (with_word k j x) =
    subst (λ (n : ℕ). IsKeptFrame (set s.words (1025 * f + 1 + j) x) n f (with_word k j x)) (sym (count f)) (stored_kept s.words (readers f s.views) f j x k (r.kept f inside) place hj) in
    let one : code_of k.phase ≡ 1 = ap code_of is_open in
    let goes : GoesOn k (with_word k j x) = record { later = omega arith; kept = λ _ sealed. absurd (omega arith) } in
    let agree : (p : Pinned) → Agrees me.0.frames p → Agrees (set me.0.frames f (with_word k j x)) p =
    λ p a. agrees_set me.0.frames f (with_word k j x) p a goes (λ _. refl) in
    let pins : (i : ℕ) (v : View) → get_elem? (set s.views id w) i ≡ some v → AllAgree (set me.0.frames f (with_word k j x)) v.pins =
    agree_set (set me.0.frames f (with_word k j x)) s.views id w (λ i v e q p t. agree p (r.pinned i v e q p t)) (λ q p t. agree p (r.pinned id me.0 at q p t)) in
    let after = changed s.words (set s.words (1025 * f + 1 + j) x) s.views (set s.views id w) me.0.frames f (with_word k j x) r inside (length-set s.words (1025 * f + 1 + j) x)
    (λ g m else h. apart s.words f g j m x else hj h) (λ g _. count g) kept goes pins (memories_set me.0.frames s.views id w r.remembered (r.remembered id me.0 at)) in (
      w,
      keeps,
      tt,
      subst (λ (l : List Frame). FrameRules (set s.words (1025 * f + 1 + j) x) (set s.views id w) l) (sym (frames-drive s.views id me.0 w z at)) after,
      λ g i h hi e. let is : f ≡ g = omega arith in let js : j ≡ i = omega arith in (
        subst (λ (n : ℕ). ◌≡◌ {A = Sat} (with_frame me.0 f (with_word k j x), me.1) (with_frame me.0 f (with_word k n x), me.1)) js refl
            ∙ subst (λ (n : ℕ). ◌≡◌ {A = Sat} (with_frame me.0 f (with_word (frame_at me.0.frames f) i x), me.1) (with_frame me.0 n (with_word (frame_at me.0.frames n) i x), me.1)) is refl,
        subst (λ (n : ℕ). length (frame_at me.0.frames n).contents ≡ 1024) is (r.kept f inside).whole,
      ),
    )
