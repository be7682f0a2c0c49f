-- The rule after a step on a word of one frame.
use Rattle.std.proofs.Common.{◌≡◌, ◌≢◌, inl, inr, ℕ, ◌+◌, ◌*◌, ◌<◌, ◌≤◌, List, set, length, slice_index, refl, sym, ap, ◌∙◌, subst, arith, get_or-set_same, get_or-set_other, length-set, add-zero, add_assoc}
use mathlib.Core.Logic.{dite}
use mathlib.Core.Option.{some}
use native.Mathlib.Decide.{ℕ_discrete}
use lib.ListN.{get_elem?}
use Rattle.atomic_table.proofs.Lists.{at_set}
use Rattle.segment_word.specs.Frames.{Frame, Pinned, View, code_of, no_frame}
use Rattle.segment_word.specs.Layout.{word_of, frame_at}
use Rattle.segment_word.specs.Counting.{readers}
use Rattle.segment_word.specs.FrameRule.{IsKeptFrame, Agrees, IsRemembered, AllAgree, AllRemembered, FrameRules}

-- A frame before a step and after it, for each step that there is: its generation doesn't fall. Where it stays, a frame
-- that was sealed or being emptied still is one of these, with the same contents.
pub record GoesOn (k k' : Frame) : Type 0 where
  pub later : k.generation ≤ k'.generation
  pub kept : k'.generation ≡ k.generation → 2 ≤ code_of k.phase → (2 ≤ code_of k'.phase) × (k'.contents ≡ k.contents)

-- a step that leaves the frame
pub stays : (k : Frame) → GoesOn k k
stays k = record { later = omega arith; kept = λ _ sealed. (sealed, refl) }

-- what is known of a frame stays where its words and its count do
pub kept_same : (words words' : List ℕ) (n n' f : ℕ) (k : Frame) → IsKeptFrame words n f k
    → ((m : ℕ) → m < 1025 → slice_index words' (1025 * f + m) ≡ slice_index words (1025 * f + m)) → n' ≡ n → IsKeptFrame words' n' f k
kept_same words words' n n' f k is same count = record {
  state = ap (λ (i : ℕ). slice_index words' i) (sym (add-zero (1025 * f))) ∙ same 0 (omega arith) ∙ ap (λ (i : ℕ). slice_index words i) (add-zero (1025 * f)) ∙ is.state ∙ ap (λ (c : ℕ). word_of k c) (sym count);
  blocks = λ j h. ap (λ (i : ℕ). slice_index words' i) (add_assoc (1025 * f) 1 j) ∙ same (1 + j) (omega arith) ∙ ap (λ (i : ℕ). slice_index words i) (sym (add_assoc (1025 * f) 1 j)) ∙ is.blocks j h;
  whole = is.whole;
  counted = omega (arith, is.counted);
  unread = λ h. count ∙ is.unread h;
  started = is.started;
  numbered = is.numbered;
  goes_on = is.goes_on;
}

-- a frame where one was replaced
there : (frames : List Frame) (f n : ℕ) (k : Frame) → n ≡ f → n < length frames → frame_at (set frames f k) n ≡ k
there frames f n k here inside = ap (λ (m : ℕ). frame_at (set frames f k) m) here ∙ get_or-set_same frames f k no_frame (subst (λ (m : ℕ). m < length frames) here inside)

-- a pin tells the truth of a frame that went on, where that keeps its generation
pub agrees_set : (frames : List Frame) (f : ℕ) (k : Frame) (p : Pinned) → Agrees frames p → GoesOn (frame_at frames f) k
    → (p.number ≡ f → k.generation ≡ (frame_at frames f).generation) → Agrees (set frames f k) p
agrees_set frames f k p a goes same =
    let long = length-set frames f k in
    dite (ℕ_discrete p.number f)
    (λ here.
    let was : frame_at frames p.number ≡ frame_at frames f = ap (frame_at frames) here in
    let now : frame_at (set frames f k) p.number ≡ k = there frames f p.number k here a.inside in
    let t = goes.kept (same here) (subst (λ (x : Frame). 2 ≤ code_of x.phase) was a.sealed) in
    record {
      inside = omega (arith, a.inside);
      sealed = subst (λ (x : Frame). 2 ≤ code_of x.phase) (sym now) t.0;
      generation = a.generation ∙ ap (λ (x : Frame). x.generation) was ∙ sym (same here) ∙ ap (λ (x : Frame). x.generation) (sym now);
      contents = a.contents ∙ ap (λ (x : Frame). x.contents) was ∙ sym t.1 ∙ ap (λ (x : Frame). x.contents) (sym now);
    })
    (λ else.
    let now : frame_at frames p.number ≡ frame_at (set frames f k) p.number = sym (get_or-set_other frames f p.number k no_frame else) in
    record {
      inside = omega (arith, a.inside);
      sealed = subst (λ (x : Frame). 2 ≤ code_of x.phase) now a.sealed;
      generation = a.generation ∙ ap (λ (x : Frame). x.generation) now;
      contents = a.contents ∙ ap (λ (x : Frame). x.contents) now;
    })

-- no generation falls where one frame went on
rises : (frames : List Frame) (f n : ℕ) (k : Frame) → n < length frames → GoesOn (frame_at frames f) k → (frame_at frames n).generation ≤ (frame_at (set frames f k) n).generation
rises frames f n k inside goes = dite (ℕ_discrete n f)
    (λ here. subst (λ (x : Frame × Frame). x.0.generation ≤ x.1.generation) (λ t. (sym (ap (frame_at frames) here) t, sym (there frames f n k here inside) t)) goes.later)
    (λ else. subst (λ (x : Frame). (frame_at frames n).generation ≤ x.generation) (sym (get_or-set_other frames f n k no_frame else)) (omega arith))

-- what is remembered is true of a frame that went on
pub remembered_set : (frames : List Frame) (f : ℕ) (k : Frame) (p : Pinned) → IsRemembered frames p → GoesOn (frame_at frames f) k → IsRemembered (set frames f k) p
remembered_set frames f k p m goes =
    let long = length-set frames f k in
    let more = rises frames f p.number k m.inside goes in
    record {
      inside = omega (arith, m.inside);
      reached = omega (arith, m.reached);
      same = λ e. let was : p.generation ≡ (frame_at frames p.number).generation = omega (arith, m.reached) in
          agrees_set frames f k p (m.same was) goes
          (λ here. sym (ap (λ (x : Frame). x.generation) (there frames f p.number k here m.inside)) ∙ sym e ∙ was ∙ ap (λ (n : ℕ). (frame_at frames n).generation) here);
    }

-- the rule after a step that changed the words, the count and what is known of frame f alone
pub changed : (words words' : List ℕ) (views views' : List View) (frames : List Frame) (f : ℕ) (k : Frame) → FrameRules words views frames → f < length frames
    → length words' ≡ length words
    → ((g m : ℕ) → g ≢ f → m < 1025 → slice_index words' (1025 * g + m) ≡ slice_index words (1025 * g + m))
    → ((g : ℕ) → g ≢ f → readers g views' ≡ readers g views)
    → IsKeptFrame words' (readers f views') f k → GoesOn (frame_at frames f) k
    → ((id : ℕ) (v : View) → get_elem? views' id ≡ some v → AllAgree (set frames f k) v.pins)
    → ((id : ℕ) (v : View) → get_elem? views' id ≡ some v → AllRemembered frames v.remembered)
    → FrameRules words' views' (set frames f k)
changed words words' views views' frames f k r inside long apart counts here goes agree memories = record {
  sized = long ∙ r.sized ∙ ap (λ (n : ℕ). 1025 * n) (sym (length-set frames f k));
  some_frame = omega (arith, length-set frames f k, r.some_frame);
  kept = λ g h. dite (ℕ_discrete g f)
      (λ is. subst (λ (n : ℕ). IsKeptFrame words' (readers n views') n (frame_at (set frames f k) n)) (sym is)
      (subst (λ (x : Frame). IsKeptFrame words' (readers f views') f x) (sym (get_or-set_same frames f k no_frame inside)) here))
      (λ else. subst (λ (x : Frame). IsKeptFrame words' (readers g views') g x) (sym (get_or-set_other frames f g k no_frame else))
      (kept_same words words' (readers g views) (readers g views') g (frame_at frames g) (r.kept g (subst (λ (n : ℕ). g < n) (length-set frames f k) h)) (λ m hm. apart g m else hm) (counts g else)));
  pinned = agree;
  remembered = λ id v e i p q. remembered_set frames f k p (memories id v e i p q) goes;
}

-- what holds of all views holds after one view changed, where it holds of that
pub view_set : (P : View → Type 0) (views : List View) (id : ℕ) (w : View) → ((j : ℕ) (v : View) → get_elem? views j ≡ some v → P v) → P w
    → (j : ℕ) (v : View) → get_elem? (set views id w) j ≡ some v → P v
view_set P views id w all new j v e = elim (at_set views id j w v e) as (λ _. P v) [ inl t ↦ subst P t.1 new | inr t ↦ all j v t.1 ]

-- the pins of all views tell the truth then
pub agree_set : (frames : List Frame) (views : List View) (id : ℕ) (w : View) → ((j : ℕ) (v : View) → get_elem? views j ≡ some v → AllAgree frames v.pins) → AllAgree frames w.pins
    → (j : ℕ) (v : View) → get_elem? (set views id w) j ≡ some v → AllAgree frames v.pins
agree_set frames = view_set (λ (v : View). AllAgree frames v.pins)

-- and what is remembered is true
pub memories_set : (frames : List Frame) (views : List View) (id : ℕ) (w : View) → ((j : ℕ) (v : View) → get_elem? views j ≡ some v → AllRemembered frames v.remembered) → AllRemembered frames w.remembered
    → (j : ℕ) (v : View) → get_elem? (set views id w) j ≡ some v → AllRemembered frames v.remembered
memories_set frames = view_set (λ (v : View). AllRemembered frames v.remembered)
