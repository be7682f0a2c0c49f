-- Pin and unpin keep the rule: a reader more or less in the state word, and a pin more or less in a view.
use Rattle.std.proofs.Common.{◌≡◌, ◌≢◌, ℕ, zero, suc, ◌+◌, ◌-◌, ◌*◌, ◌/◌, ◌%◌, ◌^◌, ◌<◌, ◌≤◌, List, ◌∷◌, set, length, slice_index, refl, sym, ap, ◌∙◌, subst, arith, get_or-set_same, get_or-set_other, length-set, eqb, eq-eqb, ne_eqb, lt_of_not-le}
use mathlib.Core.Option.{none, some, some-injective}
use mathlib.Core.Logic.{dite}
use native.Mathlib.Decide.{dec_le, ℕ_discrete}
use lib.ListN.{get_elem?, get_or-eq_default}
use lib.Seq.{set-get_or}
use prog.Atomic.{either}
use Rattle.atomic_table.specs.Table.{State, step, keeps, stepped, Allows}
use Rattle.segment_word.specs.Frames.{Frame, Pinned, View, code_of, no_frame}
use Rattle.segment_word.specs.Layout.{word_of, frame_at}
use Rattle.segment_word.specs.Counting.{pins_in, readers, drive_frames}
use Rattle.segment_word.specs.FrameRule.{IsKeptFrame, Agrees, AllAgree, AllRemembered, FrameRules, FrameRule}
use Rattle.segment_word.specs.Steps.{Sat, Pins, Unpins, with_pins, older}
use Rattle.segment_word.proofs.Sums.{readers-set, frames-set, counts_one, counts_none}
use Rattle.segment_word.proofs.Words.{apart, code_below_four}
use Rattle.segment_word.proofs.Changes.{stays, changed, agree_set, memories_set}
use Rattle.segment_word.proofs.Looking.{unmoved}

-- what is known of a frame that may be read, after its word counts n' pins
recounted : (words : List ℕ) (n n' f x : ℕ) (k : Frame) → IsKeptFrame words n f k → 1025 * f < length words → 2 ≤ code_of k.phase → n' ≤ 1048576 → x ≡ word_of k n' → IsKeptFrame (set words (1025 * f) x) n' f k
recounted words n n' f x k is inside sealed few e = record {
  state = get_or-set_same words (1025 * f) x 0 inside ∙ e;
  blocks = λ j h. get_or-set_other words (1025 * f) (1025 * f + 1 + j) x 0 (λ q. omega arith) ∙ is.blocks j h;
  whole = is.whole;
  counted = few;
  unread = λ h. absurd (omega arith);
  started = is.started;
  numbered = is.numbered;
  goes_on = is.goes_on;
}

-- the rule after the state word of a frame that may be read counts the pins as a changed view has them
turned : (s : State (Unit {0}) View) (id : ℕ) (v w : View) (f x : ℕ) → FrameRule s → get_elem? s.views id ≡ some v → w.frames ≡ v.frames → w.remembered ≡ v.remembered
    → f < length (drive_frames s.views) → 2 ≤ code_of (frame_at (drive_frames s.views) f).phase
    → ((g : ℕ) → g ≢ f → pins_in g w.pins ≡ pins_in g v.pins)
    → readers f (set s.views id w) ≤ 1048576 → x ≡ word_of (frame_at (drive_frames s.views) f) (readers f (set s.views id w))
    → AllAgree (drive_frames s.views) w.pins
    → FrameRules (set s.words (1025 * f) x) (set s.views id w) (drive_frames (set s.views id w))
turned s id v w f x r at same memory inside sealed others few e agree =
    let frames : List Frame = drive_frames s.views in
    let place : 1025 * f < length s.words = omega (arith, r.sized) in
    let again : set frames f (frame_at frames f) ≡ frames = set-get_or frames f no_frame in
    let pins : (j : ℕ) (y : View) → get_elem? (set s.views id w) j ≡ some y → AllAgree (set frames f (frame_at frames f)) y.pins =
    subst (λ (l : List Frame). (j : ℕ) (y : View) → get_elem? (set s.views id w) j ≡ some y → AllAgree l y.pins) (sym again) (agree_set frames s.views id w r.pinned agree) in
    let after = changed s.words (set s.words (1025 * f) x) s.views (set s.views id w) frames f (frame_at frames f) r inside (length-set s.words (1025 * f) x)
    (λ g m far h. apart s.words f g m x far h)
    (λ g far. let t = readers-set g s.views id v w at in let o = others g far in omega arith)
    (recounted s.words (readers f s.views) (readers f (set s.views id w)) f x (frame_at frames f) (r.kept f inside) place sealed few e)
    (stays (frame_at frames f)) pins (memories_set frames s.views id w r.remembered (subst (λ (l : List Pinned). AllRemembered frames l) (sym memory) (r.remembered id v at))) in
    subst (λ (l : List Frame). FrameRules (set s.words (1025 * f) x) (set s.views id w) l) (again ∙ sym (frames-set s.views id v w at same)) after

agree_new : (frames : List Frame) (p : Pinned) (ps : List Pinned) → Agrees frames p → AllAgree frames ps → AllAgree frames (p ∷ ps)
agree_new frames p ps a all zero q e = subst (Agrees frames) (some-injective p q e) a
agree_new frames p ps a all (suc i) q e = all i q e

-- a newest pin counts one in its own frame and none in another
counts_new : (f : ℕ) (p : Pinned) (ps : List Pinned) → p.number ≡ f → pins_in f (p ∷ ps) ≡ 1 + pins_in f ps
counts_new f p ps e = let t = counts_one p.number f e in omega arith

counts_old : (g : ℕ) (p : Pinned) (ps : List Pinned) → p.number ≢ g → pins_in g (p ∷ ps) ≡ pins_in g ps
counts_old g p ps e = let t = counts_none p.number g e in omega arith

-- a word that isn't 0 is in the table
has_place : (words : List ℕ) (i : ℕ) → slice_index words i ≢ 0 → i < length words
has_place words i some_word = elim (dec_le (length words) i) as (λ _. i < length words) [ yes out ↦ absurd (some_word (get_or-eq_default words 0 out)) | no h ↦ lt_of_not-le h ]

-- what a state word of a frame says by its bits
says_sealed : (k : Frame) (n old : ℕ) → n ≤ 1048576 → k.generation < 2 ^ 32 → old ≡ word_of k n → old % 4 ≡ 2 → code_of k.phase ≡ 2
says_sealed k n old few small is two = let b = code_below_four k.phase in omega arith

says_readers : (k : Frame) (n old : ℕ) → n ≤ 1048576 → k.generation < 2 ^ 32 → old ≡ word_of k n → old % 2 ^ 32 / 4 ≡ n
says_readers k n old few small is = let b = code_below_four k.phase in omega arith

pub pins : (slots id : ℕ) (me : Sat) (f old new : ℕ) → old % 4 ≡ 2 → old % 2 ^ 32 / 4 < 1048576 → new ≡ old + 4
    → Allows FrameRule slots id me (1025 * f) (λ n. either (eqb n old) new n) (Pins (step slots (1025 * f) old new none) me)
pins slots id me f old new two few e s r _ at small = dite (ℕ_discrete (slice_index s.words (1025 * f)) old)
    (λ hit.
    let frames : List Frame = drive_frames s.views in
    let place : 1025 * f < length s.words = has_place s.words (1025 * f) (λ none_there. omega arith) in
    let inside : f < length frames = let z = r.sized in omega arith in
    let k : Frame = frame_at frames f in
    let is : IsKeptFrame s.words (readers f s.views) f k = r.kept f inside in
    let said : old ≡ word_of k (readers f s.views) = sym hit ∙ is.state in
    let sealed : code_of k.phase ≡ 2 = says_sealed k (readers f s.views) old is.counted is.numbered said two in
    let count : old % 2 ^ 32 / 4 ≡ readers f s.views = says_readers k (readers f s.views) old is.counted is.numbered said in
    let p : Pinned = record { number = f; generation = k.generation; contents = k.contents } in
    let w : View = with_pins me.0 (p ∷ me.0.pins) in
    let more : readers f (set s.views id w) ≡ readers f s.views + 1 = let t = readers-set f s.views id me.0 w at in let o = counts_new f p me.0.pins refl in omega arith in
    let a : Agrees frames p = record { inside = inside; sealed = omega (arith, sealed); generation = refl; contents = refl } in (
      w,
      keeps,
      tt,
      subst (λ b. FrameRule (stepped s (1025 * f) (either b new (slice_index s.words (1025 * f))) id me.1 w keeps)) (sym (eq-eqb (slice_index s.words (1025 * f)) old hit))
          (turned s id me.0 w f new r at refl refl inside (omega (arith, sealed)) (λ g far. counts_old g p me.0.pins (λ q. far (sym q))) (omega arith) (omega arith)
          (agree_new frames p me.0.pins a (r.pinned id me.0 at))),
      ((λ _. (p, refl, refl)), λ miss. absurd (miss hit)),
    ))
    (λ miss. (
      me.0,
      keeps,
      tt,
      subst (λ b. FrameRule (stepped s (1025 * f) (either b new (slice_index s.words (1025 * f))) id me.1 me.0 keeps)) (sym (ne_eqb (slice_index s.words (1025 * f)) old miss)) (unmoved s id me (1025 * f) r at),
      ((λ hit. absurd (miss hit)), λ _. refl),
    ))

pub unpins : (slots id : ℕ) (me : Sat) (f : ℕ) (p : Pinned) (ps : List Pinned) → me.0.pins ≡ p ∷ ps → p.number ≡ f
    → Allows FrameRule slots id me (1025 * f) (λ n. (n + (2 ^ 64 - 4)) % 2 ^ 64) (Unpins (step slots (1025 * f) 4 0 none) me)
unpins slots id me f p ps has here s r _ at small =
    let frames : List Frame = drive_frames s.views in
    let a : Agrees frames p = r.pinned id me.0 at 0 p (ap (λ (l : List Pinned). get_elem? l 0) has) in
    let inside : f < length frames = subst (λ (n : ℕ). n < length frames) here a.inside in
    let k : Frame = frame_at frames f in
    let sealed : 2 ≤ code_of k.phase = subst (λ (n : ℕ). 2 ≤ code_of (frame_at frames n).phase) here a.sealed in
    let is : IsKeptFrame s.words (readers f s.views) f k = r.kept f inside in
    let w : View = with_pins me.0 (older me.0.pins) in
    let rest : older me.0.pins ≡ ps = ap older has in
    let one : pins_in f me.0.pins ≡ 1 + pins_in f (older me.0.pins) = ap (pins_in f) has ∙ counts_new f p ps here ∙ ap (λ (l : List Pinned). 1 + pins_in f l) (sym rest) in
    let fewer : readers f s.views ≡ readers f (set s.views id w) + 1 = let t = readers-set f s.views id me.0 w at in omega arith in
    let x : ℕ = (slice_index s.words (1025 * f) + (2 ^ 64 - 4)) % 2 ^ 64 in
    let new : x ≡ word_of k (readers f (set s.views id w)) = let w0 = is.state in let c = is.counted in let g = is.numbered in let b = code_below_four k.phase in omega arith in (
      w,
      keeps,
      tt,
      turned s id me.0 w f x r at refl refl inside sealed
          (λ g far. sym (ap (pins_in g) has ∙ counts_old g p ps (λ q. far (sym q ∙ here)) ∙ ap (pins_in g) (sym rest)))
          (let c = is.counted in omega arith) new
          (λ i q e. r.pinned id me.0 at (suc i) q (ap (λ (l : List Pinned). get_elem? l (suc i)) has ∙ ap (λ (l : List Pinned). get_elem? l i) (sym rest) ∙ e)),
      refl,
    )
