-- What the pins of a plan have of a frame.
use Rattle.std.proofs.Common.{◌≡◌, ℕ, suc, ◌<◌, ◌==◌, cond, List, [], ◌∷◌, ◌++◌, take, drop, Result, Ok, Err, OnOk, inl, inr, refl, ap, sym, ◌∙◌, arith}
use Rattle.std.proofs.lemmas.Bool.{cases_Bool, eqb-true, cond-true, cond-false}
use Rattle.s4_types.specs.declared.refusals.Refusal.{Refusal}
use Rattle.segment_word.specs.Frames.{Pinned}
use Rattle.segment_word.specs.Handles.{IsAmong}
use Rattle.segment_word.specs.Layout.{block_bytes}
use Rattle.segment_word.specs.Counting.{pins_in}
use Rattle.time_read.specs.Plans.{contents_pinned}

-- one of the pins is of this frame, and has these contents
record IsThere (f : ℕ) (pins : List Pinned) : Type 0 where
  pub pin : Pinned
  pub among : IsAmong pin pins
  pub frame : pin.number ≡ f
  pub contents : contents_pinned f pins ≡ pin.contents

is_there : (f : ℕ) (pins : List Pinned) → 0 < pins_in f pins → IsThere f pins
is_there f [] h = absurd (omega arith)
is_there f (p ∷ pins) h = elim (cases_Bool (p.number == f)) [
  | inl here ↦ record {
    pin = p;
    among = (0, refl);
    frame = eqb-true p.number f here;
    contents = cond-true (p.number == f) p.contents (contents_pinned f pins) here;
  }
  | inr other ↦
      let none : ◌≡◌ {A = ℕ} (cond (p.number == f) 1 0) 0 = cond-false {A = ℕ} (p.number == f) 1 0 other in
      let rest = is_there f pins (omega (arith, none)) in
      record {
        pin = rest.pin;
        among = (suc rest.among.0, rest.among.1);
        frame = rest.frame;
        contents = cond-false (p.number == f) p.contents (contents_pinned f pins) other ∙ rest.contents;
      }
]

-- what is read of a pinned block is what the pins have of it
pub pinned_bytes : (f b : ℕ) (pins : List Pinned) (bytes : List ℕ) → 0 < pins_in f pins → ((p : Pinned) → IsAmong p pins → p.number ≡ f → bytes ≡ block_bytes p.contents b)
    → bytes ≡ block_bytes (contents_pinned f pins) b
pinned_bytes f b pins bytes counted is =
    let there = is_there f pins counted in
    is there.pin there.among there.frame ∙ ap (λ (c : List ℕ). block_bytes c b) (sym there.contents)

-- what is added of a pinned block is a part of what the pins have of it
pub pinned_part : (r : Result (Unit {0}) Refusal) (f b n s : ℕ) (pins : List Pinned) (old new : List ℕ) → 0 < pins_in f pins → OnOk r ((p : Pinned) → IsAmong p pins → p.number ≡ f → new ≡ old ++ take n (drop s (block_bytes p.contents b)))
    → OnOk r (new ≡ old ++ take n (drop s (block_bytes (contents_pinned f pins) b)))
pinned_part (Err e) f b n s pins old new counted told = tt
pinned_part (Ok u) f b n s pins old new counted told =
    let there = is_there f pins counted in
    told there.pin there.among there.frame ∙ ap (λ (c : List ℕ). old ++ take n (drop s (block_bytes c b))) (sym there.contents)
