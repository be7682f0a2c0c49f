-- Release keeps the rule: the word of a frame that is being emptied and has no reader becomes that of its next life.
use Rattle.std.proofs.Common.{◌≡◌, ◌≢◌, ℕ, zero, suc, ◌+◌, ◌-◌, ◌*◌, ◌^◌, ◌<◌, List, [], ◌∷◌, set, length, slice_index, refl, sym, ap, ◌∙◌, subst, arith, get_or-set_same, get_or-set_other, length-set, eqb, eq-eqb, ne_eqb}
use mathlib.Core.Option.{none, some, some-injective, some-ne-none}
use mathlib.Core.Logic.{dite}
use native.Mathlib.Decide.{ℕ_discrete}
use lib.ListN.{get_elem?}
use lib.Seq.{set-get_or}
use prog.Atomic.{either}
use Rattle.atomic_table.specs.Table.{step, keeps, stepped, Allows}
use Rattle.segment_word.specs.Frames.{Draining, Frame, Pinned, View, code_of}
use Rattle.segment_word.specs.Layout.{word_of, frame_at}
use Rattle.segment_word.specs.Counting.{pins_in, readers, drive_frames}
use Rattle.segment_word.specs.FrameRule.{IsKeptFrame, AllAgree, AllRemembered, FrameRules, FrameRule}
use Rattle.segment_word.specs.Steps.{Sat, Frees, IsStateOf, released, with_frame, with_try}
use Rattle.segment_word.proofs.Sums.{readers-set, frames-first, frames-set, frames-drive, counts_one}
use Rattle.segment_word.proofs.Words.{apart}
use Rattle.segment_word.proofs.Changes.{GoesOn, changed, agrees_set, agree_set, memories_set}
use Rattle.segment_word.proofs.Moving.{regrouped}

-- where a frame has no reader, no view has a pin of it
none_in : (f : ℕ) (views : List View) → readers f views ≡ 0 → (id : ℕ) (v : View) → get_elem? views id ≡ some v → pins_in f v.pins ≡ 0
none_in f [] z id v e = absurd (some-ne-none v (sym e))
none_in f (x ∷ xs) z zero v e = let is : pins_in f x.pins ≡ pins_in f v.pins = ap (λ (r : View). pins_in f r.pins) (some-injective x v e) in omega arith
none_in f (x ∷ xs) z (suc id) v e = none_in f xs (omega arith) id v e

none_of : (f : ℕ) (pins : List Pinned) → pins_in f pins ≡ 0 → (i : ℕ) (p : Pinned) → get_elem? pins i ≡ some p → p.number ≢ f
none_of f [] z i p e = absurd (some-ne-none p (sym e))
none_of f (x ∷ xs) z zero p e = λ is. let one = counts_one x.number f (ap (λ (q : Pinned). q.number) (some-injective x p e) ∙ is) in absurd (omega arith)
none_of f (x ∷ xs) z (suc i) p e = none_of f xs (omega arith) i p e

-- what is known of a frame in its next life
released_kept : (words : List ℕ) (n f x : ℕ) (k : Frame) → IsKeptFrame words n f k → n ≡ 0 → 1025 * f < length words → k.phase ≡ Draining → x ≡ word_of (released k) 0
    → IsKeptFrame (set words (1025 * f) x) n f (released k)
released_kept words n f x k is unread inside draining e =
    let code : code_of k.phase ≡ 3 = ap code_of draining in
    let free : code_of (released k).phase ≡ 0 = refl in
    let more : k.generation + 1 < 2 ^ 32 = is.goes_on (omega arith) in
    record {
      state = get_or-set_same words (1025 * f) x 0 inside ∙ (let t : x ≡ word_of (released k) n = e ∙ ap (word_of (released k)) (sym unread) in t);
      blocks = λ j h. get_or-set_other words (1025 * f) (1025 * f + 1 + j) x 0 (λ q. omega arith) ∙ is.blocks j h;
      whole = is.whole;
      counted = is.counted;
      unread = λ h. unread;
      started = omega arith;
      numbered = more;
      goes_on = λ h. absurd (omega arith);
    }

-- the word that a frame has
state_of : (words : List ℕ) (n f : ℕ) (k : Frame) → IsKeptFrame words n f k → IsStateOf k (slice_index words (1025 * f))
state_of words n f k is = record {
  readers = n;
  word = is.state;
  few = is.counted;
  unread = is.unread;
  started = is.started;
  numbered = is.numbered;
  goes_on = is.goes_on;
}

-- the rule after a release that won
won : (words : List ℕ) (views : List View) (frames : List Frame) (id : ℕ) (v w : View) (f x : ℕ) → FrameRules words views frames → get_elem? views id ≡ some v → w.pins ≡ v.pins → w.remembered ≡ v.remembered
    → f < length frames → (frame_at frames f).phase ≡ Draining → readers f views ≡ 0 → x ≡ word_of (released (frame_at frames f)) 0
    → FrameRules (set words (1025 * f) x) (set views id w) (set frames f (released (frame_at frames f)))
won words views frames id v w f x r at same memory inside draining unread e =
    let k : Frame = frame_at frames f in
    let after : List Frame = set frames f (released k) in
    let place : 1025 * f < length words = omega (arith, r.sized) in
    let count : (g : ℕ) → readers g (set views id w) ≡ readers g views = λ g. let t = readers-set g views id v w at in let o : pins_in g w.pins ≡ pins_in g v.pins = ap (pins_in g) same in omega arith in
    let kept : IsKeptFrame (set words (1025 * f) x) (readers f (set views id w)) f (released k) =
    subst (λ (n : ℕ). IsKeptFrame (set words (1025 * f) x) n f (released k)) (sym (count f)) (released_kept words (readers f views) f x k (r.kept f inside) unread place draining e) in
    let goes : GoesOn k (released k) = record { later = omega arith; kept = λ e _. absurd (omega arith) } in
    let agree : (j : ℕ) (y : View) → get_elem? views j ≡ some y → AllAgree after y.pins =
    λ j y there i p q. agrees_set frames f (released k) p (r.pinned j y there i p q) goes (λ here. absurd (none_of f y.pins (none_in f views unread j y there) i p q here)) in
    let pins : (j : ℕ) (y : View) → get_elem? (set views id w) j ≡ some y → AllAgree after y.pins =
    agree_set after views id w agree (subst (λ (l : List Pinned). AllAgree after l) (sym same) (agree id v at)) in
    changed words (set words (1025 * f) x) views (set views id w) frames f (released k) r inside (length-set words (1025 * f) x)
    (λ g m else h. apart words f g m x else h) (λ g _. count g) kept goes pins
    (memories_set frames views id w r.remembered (subst (λ (l : List Pinned). AllRemembered frames l) (sym memory) (r.remembered id v at)))

-- the rule after a release that didn't win
lost : (words : List ℕ) (views : List View) (id : ℕ) (v w : View) (i : ℕ) → FrameRules words views (drive_frames views) → get_elem? views id ≡ some v → w.pins ≡ v.pins → w.remembered ≡ v.remembered → w.frames ≡ v.frames
    → FrameRules (set words i (slice_index words i)) (set views id w) (drive_frames (set views id w))
lost words views id v w i r at same memory frames =
    subst (λ (l : List ℕ). FrameRules l (set views id w) (drive_frames (set views id w))) (sym (set-get_or words i 0))
    (regrouped words views (set views id w) r (frames-set views id v w at frames)
    (λ g. let t = readers-set g views id v w at in let o : pins_in g w.pins ≡ pins_in g v.pins = ap (pins_in g) same in omega arith)
    (agree_set (drive_frames views) views id w r.pinned (subst (λ (l : List Pinned). AllAgree (drive_frames views) l) (sym same) (r.pinned id v at)))
    (memories_set (drive_frames views) views id w r.remembered (subst (λ (l : List Pinned). AllRemembered (drive_frames views) l) (sym memory) (r.remembered id v at))))

-- a word of the frame that is the word without a reader counts none
unread_word : (k : Frame) (n m old : ℕ) → m ≡ word_of k n → m ≡ old → old ≡ word_of k 0 → n ≡ 0
unread_word k n m old is hit was = omega arith

-- the word of the next life, from that of a frame that is being emptied
pub next_word : (k : Frame) (old new : ℕ) → k.phase ≡ Draining → old ≡ word_of k 0 → new ≡ old - 3 + 2 ^ 32 → new ≡ word_of (released k) 0
next_word k old new draining was is =
    let code : code_of k.phase ≡ 3 = ap code_of draining in
    let free : code_of (released k).phase ≡ 0 = refl in
    omega arith

pub frees : (slots id : ℕ) (me : Sat) (f old new : ℕ) → id ≡ 0 → f < length me.0.frames → (frame_at me.0.frames f).phase ≡ Draining
    → old ≡ word_of (frame_at me.0.frames f) 0 → new ≡ word_of (released (frame_at me.0.frames f)) 0
    → Allows FrameRule slots id me (1025 * f) (λ n. either (eqb n old) new n) (Frees (step slots (1025 * f) old new none) me)
frees slots id me f old new z inside draining was next s rule _ at small =
    let n : ℕ = slice_index s.words (1025 * f) in
    let known : drive_frames s.views ≡ me.0.frames = frames-first s.views id me.0 z at in
    let r : FrameRules s.words s.views me.0.frames = subst (λ (l : List Frame). FrameRules s.words s.views l) known rule in
    let k : Frame = frame_at me.0.frames f in
    let state : IsStateOf k n = state_of s.words (readers f s.views) f k (r.kept f inside) in
    let there : (g : ℕ) → 1025 * f ≡ 1025 * g → f ≡ g = λ g e. omega arith in
    dite (ℕ_discrete n old)
    (λ hit.
    let w : View = with_try (with_frame me.0 f (released k)) f n in
    let unread : readers f s.views ≡ 0 = unread_word k (readers f s.views) n old (r.kept f inside).state hit was in
    let after : FrameRules (set s.words (1025 * f) new) (set s.views id w) (set me.0.frames f (released k)) = won s.words s.views me.0.frames id me.0 w f new r at refl refl inside draining unread next in (
      w,
      keeps,
      tt,
      subst (λ b. FrameRule (stepped s (1025 * f) (either b new n) id me.1 w keeps)) (sym (eq-eqb n old hit))
          (subst (λ (l : List Frame). FrameRules (set s.words (1025 * f) new) (set s.views id w) l) (sym (frames-drive s.views id me.0 w z at)) after),
      λ g h e. subst (λ (x : ℕ). IsStateOf (frame_at me.0.frames x) n × (n ≡ old → ◌≡◌ {A = Sat} (w, me.1) (with_try (with_frame me.0 x (released (frame_at me.0.frames x))) x n, me.1)) × (n ≢ old → ◌≡◌ {A = Sat} (w, me.1) (with_try me.0 x n, me.1))) (there g e)
          (state, (λ _. refl), λ miss. absurd (miss hit)),
    ))
    (λ miss.
    let w : View = with_try me.0 f n in (
      w,
      keeps,
      tt,
      subst (λ b. FrameRule (stepped s (1025 * f) (either b new n) id me.1 w keeps)) (sym (ne_eqb n old miss)) (lost s.words s.views id me.0 w (1025 * f) rule at refl refl refl),
      λ g h e. subst (λ (x : ℕ). IsStateOf (frame_at me.0.frames x) n × (n ≡ old → ◌≡◌ {A = Sat} (w, me.1) (with_try (with_frame me.0 x (released (frame_at me.0.frames x))) x n, me.1)) × (n ≢ old → ◌≡◌ {A = Sat} (w, me.1) (with_try me.0 x n, me.1))) (there g e)
          (state, (λ hit. absurd (miss hit)), λ _. refl),
    ))
