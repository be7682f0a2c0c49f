-- Pins and memories go from one seat to another: the rule is kept where a view is cut from its pins, where a new view
-- remembers what one knows, and where two views are joined.
use Rattle.std.proofs.Common.{◌≡◌, inl, inr, ℕ, zero, suc, ◌+◌, ◌<◌, List, [], ◌∷◌, ◌++◌, set, length, refl, sym, ◌∙◌, subst, arith}
use mathlib.Core.Option.{some, some-ne-none}
use lib.ListN.{get_elem?}
use Rattle.atomic_table.specs.Table.{Splits, Joins}
use Rattle.atomic_table.proofs.Lists.{at_snoc, set_else}
use Rattle.segment_word.specs.Frames.{Frame, Pinned, View, nothing_known}
use Rattle.segment_word.specs.Layout.{frame_at}
use Rattle.segment_word.specs.Counting.{pins_in, readers, drive_frames}
use Rattle.segment_word.specs.FrameRule.{IsKeptFrame, Agrees, IsRemembered, AllAgree, AllRemembered, FrameRules, FrameRule}
use Rattle.segment_word.specs.Steps.{pins_of, without_pins, memory_of, joined_view}
use Rattle.segment_word.proofs.Sums.{readers-set, readers-snoc, frames-set, frames-snoc, pins_in-append}
use Rattle.segment_word.proofs.Changes.{agree_set, memories_set}

-- the rule speaks of the views only by the drive's frames, the counts, the pins and what is remembered
pub regrouped : (words : List ℕ) (views views' : List View) → FrameRules words views (drive_frames views) → drive_frames views' ≡ drive_frames views
    → ((g : ℕ) → readers g views' ≡ readers g views) → ((id : ℕ) (v : View) → get_elem? views' id ≡ some v → AllAgree (drive_frames views) v.pins)
    → ((id : ℕ) (v : View) → get_elem? views' id ≡ some v → AllRemembered (drive_frames views) v.remembered)
    → FrameRules words views' (drive_frames views')
regrouped words views views' r same counts agree memories = subst (λ (l : List Frame). FrameRules words views' l) (sym same) (record {
  sized = r.sized;
  some_frame = r.some_frame;
  kept = λ f h. subst (λ (n : ℕ). IsKeptFrame words n f (frame_at (drive_frames views) f)) (sym (counts f)) (r.kept f h);
  pinned = agree;
  remembered = memories;
})

no_pins : (frames : List Frame) → AllAgree frames []
no_pins frames i p e = absurd (some-ne-none p (sym e))

no_memories : (frames : List Frame) → AllRemembered frames []
no_memories frames i p e = absurd (some-ne-none p (sym e))

-- what holds of each of two lists holds of both together
each_both : (P : Pinned → Type 0) (ps qs : List Pinned) → ((i : ℕ) (p : Pinned) → get_elem? ps i ≡ some p → P p) → ((i : ℕ) (p : Pinned) → get_elem? qs i ≡ some p → P p)
    → (i : ℕ) (p : Pinned) → get_elem? (ps ++ qs) i ≡ some p → P p
each_both P [] qs a b i p e = b i p e
each_both P (x ∷ ps) qs a b zero p e = a zero p e
each_both P (x ∷ ps) qs a b (suc i) p e = each_both P ps qs (λ j q h. a (suc j) q h) b i p e

-- what holds of all views holds where one is added of which it holds
view_snoc : (P : View → Type 0) (views : List View) (w : View) → ((j : ℕ) (v : View) → get_elem? views j ≡ some v → P v) → P w
    → (j : ℕ) (v : View) → get_elem? (views ++ w ∷ []) j ≡ some v → P v
view_snoc P views w all new j v e = elim (at_snoc views w v j e) as (λ _. P v) [ inl old ↦ all j v old | inr is ↦ subst P is new ]

-- A pin tells the truth, so what it says is remembered truly: its frame is at that very generation.
pub pins_remembered : (frames : List Frame) (pins : List Pinned) → AllAgree frames pins → AllRemembered frames pins
pins_remembered frames pins all i p e = let a = all i p e in record { inside = a.inside; reached = omega (arith, a.generation); same = λ _. a }

-- the rule where a view keeps its frames and a new one without frames comes
added : (id : ℕ) (v left right : View) → left.frames ≡ v.frames → ((f : ℕ) → pins_in f left.pins + pins_in f right.pins ≡ pins_in f v.pins)
    → ((frames : List Frame) → AllAgree frames v.pins → AllAgree frames left.pins × AllAgree frames right.pins)
    → ((frames : List Frame) → AllAgree frames v.pins → AllRemembered frames v.remembered → AllRemembered frames left.remembered × AllRemembered frames right.remembered)
    → Splits {S = Unit {0}} FrameRule id v left right
added id v left right known counts pins memories s r at =
    let frames : List Frame = drive_frames s.views in
    let views : List View = set s.views id left in
    let same : drive_frames views ≡ frames = frames-set s.views id v left at known in
    let some_frame : 0 < length (drive_frames views) = subst (λ (l : List Frame). 0 < length l) (sym same) r.some_frame in
    let agree = pins frames (r.pinned id v at) in
    let told = memories frames (r.pinned id v at) (r.remembered id v at) in
    regrouped s.words s.views (views ++ right ∷ []) r (frames-snoc views right some_frame ∙ same)
    (λ g. let a = readers-snoc g views right in let b = readers-set g s.views id v left at in let c = counts g in omega arith)
    (view_snoc (λ (y : View). AllAgree frames y.pins) views right (agree_set frames s.views id left r.pinned agree.0) agree.1)
    (view_snoc (λ (y : View). AllRemembered frames y.remembered) views right (memories_set frames s.views id left r.remembered told.0) told.1)

pub splits : (id : ℕ) (v : View) → Splits {S = Unit {0}} FrameRule id v (without_pins v) (pins_of v)
splits id v = added id v (without_pins v) (pins_of v) refl (λ f. omega arith) (λ frames all. (no_pins frames, all)) (λ frames _ all. (all, no_memories frames))

pub remembers : (id : ℕ) (v : View) → Splits {S = Unit {0}} FrameRule id v v (memory_of v)
remembers id v = added id v v (memory_of v) refl (λ f. omega arith) (λ frames all. (all, no_pins frames))
    (λ frames pins all. (all, each_both (IsRemembered frames) v.remembered v.pins all (pins_remembered frames v.pins pins)))

pub joins : (id : ℕ) (v : View) (other : ℕ) (w : View) → w.frames ≡ [] → Joins {S = Unit {0}} FrameRule id v other w (joined_view v w) nothing_known
joins id v other w none s r at apart there =
    let frames : List Frame = drive_frames s.views in
    let both : List View = set s.views id (joined_view v w) in
    let was : get_elem? s.views other ≡ some w = sym (set_else s.views id other (joined_view v w) apart) ∙ there in
    let pins : AllAgree frames (joined_view v w).pins = each_both (Agrees frames) w.pins v.pins (r.pinned other w was) (r.pinned id v at) in
    let memories : AllRemembered frames (joined_view v w).remembered = each_both (IsRemembered frames) w.remembered v.remembered (r.remembered other w was) (r.remembered id v at) in
    regrouped s.words s.views (set both other nothing_known) r
    (frames-set both other w nothing_known there (sym none) ∙ frames-set s.views id v (joined_view v w) at refl)
    (λ g. let a = readers-set g both other w nothing_known there in let b = readers-set g s.views id v (joined_view v w) at in let c = pins_in-append g w.pins v.pins in omega arith)
    (agree_set frames both other nothing_known (agree_set frames s.views id (joined_view v w) r.pinned pins) (no_pins frames))
    (memories_set frames both other nothing_known (memories_set frames s.views id (joined_view v w) r.remembered memories) (no_memories frames))
