-- Open, seal and mark keep the rule: one is added to the state word of a frame, and it is in its next phase.
use Rattle.std.proofs.Common.{◌≡◌, ◌⊎◌, inl, inr, ℕ, ◌+◌, ◌*◌, ◌%◌, ◌^◌, ◌<◌, ◌≤◌, List, set, length, slice_index, refl, sym, ◌∙◌, subst, arith, get_or-set_same, get_or-set_other, length-set, mod-eq_of_lt}
use mathlib.Core.Option.{none, some}
use lib.ListN.{get_elem?}
use Rattle.atomic_table.specs.Table.{step, keeps, Allows}
use Rattle.segment_word.specs.Frames.{Phase, Free, Open, Sealed, Draining, Frame, Pinned, View, code_of}
use Rattle.segment_word.specs.Layout.{word_of, frame_at}
use Rattle.segment_word.specs.Counting.{readers, drive_frames}
use Rattle.segment_word.specs.FrameRule.{IsKeptFrame, Agrees, AllAgree, FrameRules, FrameRule}
use Rattle.segment_word.specs.Steps.{Sat, Raises, raised, next_phase, with_frame}
use Rattle.segment_word.proofs.Sums.{readers-set, frames-first, frames-drive}
use Rattle.segment_word.proofs.Words.{apart, code_below_four}
use Rattle.segment_word.proofs.Changes.{GoesOn, changed, agrees_set, agree_set, memories_set}

next_code : (p : Phase) → code_of p < 3 → code_of (next_phase p) ≡ code_of p + 1
next_code Free h = omega arith
next_code Open h = omega arith
next_code Sealed h = omega arith
next_code Draining h = absurd (omega arith)

still_sealed : (p : Phase) → 2 ≤ code_of p → 2 ≤ code_of (next_phase p)
still_sealed Free h = absurd (omega arith)
still_sealed Open h = absurd (omega arith)
still_sealed Sealed h = omega arith
still_sealed Draining h = omega arith

zero_or : (p : Phase) → (code_of p ≡ 0) ⊎ (0 < code_of p)
zero_or Free = inl refl
zero_or Open = inr (omega arith)
zero_or Sealed = inr (omega arith)
zero_or Draining = inr (omega arith)

-- what is known of the frame after its word rose by one
pub raised_kept : (words : List ℕ) (n f x : ℕ) (k : Frame) → IsKeptFrame words n f k → 1025 * f < length words → code_of k.phase < 3 → (code_of k.phase ≡ 0 → k.generation + 1 < 2 ^ 32)
    → x ≡ (slice_index words (1025 * f) + 1) % 2 ^ 64
    → IsKeptFrame (set words (1025 * f) x) n f (raised k)
raised_kept words n f x k is inside low may e =
    let code = next_code k.phase low in
    let w = is.state in
    let c = is.counted in
    let b = code_below_four k.phase in
    let g = is.numbered in
    let fits : slice_index words (1025 * f) + 1 < 2 ^ 64 = omega arith in
    let new : x ≡ slice_index words (1025 * f) + 1 = e ∙ mod-eq_of_lt fits in
    record {
      state = get_or-set_same words (1025 * f) x 0 inside ∙ (let t : x ≡ word_of (raised k) n = omega arith in t);
      blocks = λ j h. get_or-set_other words (1025 * f) (1025 * f + 1 + j) x 0 (λ q. omega arith) ∙ is.blocks j h;
      whole = is.whole;
      counted = is.counted;
      unread = λ h. is.unread (omega arith);
      started = is.started;
      numbered = is.numbered;
      goes_on = λ _. elim (zero_or k.phase) as (λ _. k.generation + 1 < 2 ^ 32) [ inl z ↦ may z | inr p ↦ is.goes_on p ];
    }

raise_goes : (k : Frame) → GoesOn k (raised k)
raise_goes k = record { later = omega arith; kept = λ _ sealed. (still_sealed k.phase sealed, refl) }

pub raises : (slots id : ℕ) (me : Sat) (f : ℕ) → id ≡ 0 → f < length me.0.frames → code_of (frame_at me.0.frames f).phase < 3
    → (code_of (frame_at me.0.frames f).phase ≡ 0 → (frame_at me.0.frames f).generation + 1 < 2 ^ 32)
    → Allows FrameRule slots id me (1025 * f) (λ n. (n + 1) % 2 ^ 64) (Raises (step slots (1025 * f) 1 0 none) me)
raises slots id me f z inside low may s rule _ at small =
    let known : drive_frames s.views ≡ me.0.frames = frames-first s.views id me.0 z at in
    let r : FrameRules s.words s.views me.0.frames = subst (λ (l : List Frame). FrameRules s.words s.views l) known rule in
    let k : Frame = frame_at me.0.frames f in
    let w : View = with_frame me.0 f (raised k) in
    let x : ℕ = (slice_index s.words (1025 * f) + 1) % 2 ^ 64 in
    let place : 1025 * f < length s.words = omega (arith, r.sized) in
    let count : (g : ℕ) → readers g (set s.views id w) ≡ readers g s.views = λ g. let t = readers-set g s.views id me.0 w at in omega arith in
    let kept : IsKeptFrame (set s.words (1025 * f) x) (readers f (set s.views id w)) f (raised k) =
    subst (λ (n : ℕ). IsKeptFrame (set s.words (1025 * f) x) n f (raised k)) (sym (count f)) (raised_kept s.words (readers f s.views) f x k (r.kept f inside) place low may refl) in
    let goes : GoesOn k (raised k) = raise_goes k in
    let agree : (p : Pinned) → Agrees me.0.frames p → Agrees (set me.0.frames f (raised k)) p =
    λ p a. agrees_set me.0.frames f (raised k) p a goes (λ _. refl) in
    let pins : (j : ℕ) (v : View) → get_elem? (set s.views id w) j ≡ some v → AllAgree (set me.0.frames f (raised k)) v.pins =
    agree_set (set me.0.frames f (raised k)) s.views id w (λ j v e i p q. agree p (r.pinned j v e i p q)) (λ i p q. agree p (r.pinned id me.0 at i p q)) in
    let after = changed s.words (set s.words (1025 * f) x) s.views (set s.views id w) me.0.frames f (raised k) r inside (length-set s.words (1025 * f) x)
    (λ g m else h. apart s.words f g m x else h) (λ g _. count g) kept goes pins (memories_set me.0.frames s.views id w r.remembered (r.remembered id me.0 at)) in (
      w,
      keeps,
      tt,
      subst (λ (l : List Frame). FrameRules (set s.words (1025 * f) x) (set s.views id w) l) (sym (frames-drive s.views id me.0 w z at)) after,
      λ g h e. let is : f ≡ g = omega arith in subst (λ (n : ℕ). ◌≡◌ {A = Sat} (with_frame me.0 f (raised (frame_at me.0.frames f)), me.1) (with_frame me.0 n (raised (frame_at me.0.frames n)), me.1)) is refl,
    )
