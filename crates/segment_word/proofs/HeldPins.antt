-- Facts about the pins of one seat.
use Rattle.std.proofs.Common.{◌≡◌, ◌≢◌, ℕ, suc, ◌+◌, ◌*◌, ◌%◌, ◌<◌, Bool, true, false, ◌==◌, ◌||◌, List, [], ◌∷◌, ◌++◌, length, refl, sym, ap, ◌∙◌, subst, arith, ap₂, length-append, eq-eqb, ne_eqb}
use mathlib.Core.Option.{some, some-ne-none}
use native.Mathlib.Decide.{ℕ_discrete}
use lib.ListN.{get_elem?}
use Rattle.std.specs.List.{list_any}
use Rattle.std.proofs.lemmas.Bool.{false≢true}
use Rattle.std.proofs.lemmas.List.Folds.{list_any-append}
use Rattle.atomic_table.specs.Seated.{TableId}
use Rattle.segment_word.specs.Frames.{Sealed, Frame, Pinned, View, code_of}
use Rattle.segment_word.specs.Layout.{frame_at}
use Rattle.segment_word.specs.FrameRule.{Agrees, AllAgree}
use Rattle.segment_word.specs.Steps.{IsStateOf, GainsPin, with_pins, older}
use Rattle.segment_word.specs.Handles.{pin_of, IsAmong, AllInside}
use Rattle.segment_word.specs.Counting.{pins_in, numbers_of}
use Rattle.segment_word.proofs.Sums.{counts_one, counts_none}

-- the state word of a sealed frame
pub sealed_word : (k : Frame) (n : ℕ) → k.phase ≡ Sealed → IsStateOf k n → n % 4 ≡ 2
sealed_word k n sealed is = let code : code_of k.phase ≡ 2 = ap code_of sealed in let w = is.word in omega arith

-- a pin that tells the truth is that of the frame as it is known
pub pin_is : (frames : List Frame) (f : ℕ) (p : Pinned) → p.number ≡ f → Agrees frames p → p ≡ pin_of frames f
pin_is frames f p is a =
    let generation : p.generation ≡ (frame_at frames f).generation = a.generation ∙ ap (λ (n : ℕ). (frame_at frames n).generation) is in
    let contents : p.contents ≡ (frame_at frames f).contents = a.contents ∙ ap (λ (n : ℕ). (frame_at frames n).contents) is in
    λ t. record { number = is t; generation = generation t; contents = contents t }

-- the pin that came is that of the frame as it is known
pub newest_pin : (frames : List Frame) (f : ℕ) (v w : View) → GainsPin f v w → AllAgree frames w.pins → w ≡ with_pins v (pin_of frames f ∷ v.pins)
newest_pin frames f v w g all =
    let a : Agrees frames g.0 = all 0 g.0 (ap (λ (y : View). get_elem? y.pins 0) g.2) in
    g.2 ∙ ap (λ (p : Pinned). with_pins v (p ∷ v.pins)) (pin_is frames f g.0 g.1 a)

-- a frame that is counted has a pin in the list
pub pins_in-some : (f : ℕ) (pins : List Pinned) → 0 < pins_in f pins → (p : Pinned) × IsAmong p pins × (p.number ≡ f)
pins_in-some f [] h = absurd (omega arith)
pins_in-some f (p ∷ ps) h = elim (ℕ_discrete p.number f) as (λ _. (q : Pinned) × IsAmong q (p ∷ ps) × (q.number ≡ f)) [
  | yes is ↦ (p, (0, refl), is)
  | no far ↦ let t = counts_none p.number f far in let r = pins_in-some f ps (omega arith) in (r.0, (suc r.1.0, r.1.1), r.2)
]

-- so it has its place in the table
pub counted_inside : (z : TableId) (f : ℕ) (pins : List Pinned) → AllInside z pins → 0 < pins_in f pins → 1025 * f + 1024 < z.words
counted_inside z f pins all h = let t = pins_in-some f pins h in let r = all t.1.0 t.0 t.1.1 in subst (λ (n : ℕ). 1025 * n + 1024 < z.words) t.2 r

last_true : (a b : ℕ) (r : Bool) → a ≡ b → (r || list_any (λ y. y == b) (a ∷ [])) ≡ true
last_true a b true is = refl
last_true a b false is = rw (eq-eqb a b is) refl

last_false : (a b : ℕ) (r : Bool) → a ≢ b → (r || list_any (λ y. y == b) (a ∷ [])) ≡ r
last_false a b true far = refl
last_false a b false far = rw (ne_eqb a b far) refl

-- a test among the numbers is a count that isn't 0
pub among_counts : (f : ℕ) (pins : List Pinned) → list_any (λ y. y == f) (numbers_of pins) ≡ true → 0 < pins_in f pins
among_counts f [] e = absurd (false≢true e)
among_counts f (p ∷ ps) e = elim (ℕ_discrete p.number f) as (λ _. 0 < pins_in f (p ∷ ps)) [
  | yes is ↦ let t = counts_one p.number f is in omega arith
  | no far ↦ let t = counts_none p.number f far in
      let other : list_any (λ y. y == f) (numbers_of ps) ≡ true = sym (list_any-append (λ y. y == f) (numbers_of ps) (p.number ∷ []) ∙ last_false p.number f (list_any (λ y. y == f) (numbers_of ps)) far) ∙ e in
      let r = among_counts f ps other in omega arith
]

pub counts_among : (f : ℕ) (pins : List Pinned) → 0 < pins_in f pins → list_any (λ y. y == f) (numbers_of pins) ≡ true
counts_among f [] h = absurd (omega arith)
counts_among f (p ∷ ps) h = list_any-append (λ y. y == f) (numbers_of ps) (p.number ∷ []) ∙ elim (ℕ_discrete p.number f) as (λ _. (list_any (λ y. y == f) (numbers_of ps) || list_any (λ y. y == f) (p.number ∷ [])) ≡ true) [
  | yes is ↦ last_true p.number f (list_any (λ y. y == f) (numbers_of ps)) is
  | no far ↦ let t = counts_none p.number f far in last_false p.number f (list_any (λ y. y == f) (numbers_of ps)) far ∙ counts_among f ps (omega arith)
]

-- a list that ends alike is alike
pub ends_alike : (xs ys : List ℕ) (x y : ℕ) → xs ++ x ∷ [] ≡ ys ++ y ∷ [] → (xs ≡ ys) × (x ≡ y)
ends_alike [] [] x y e = (refl, cc)
ends_alike [] (b ∷ ys) x y e = absurd (omega (arith, ap length e, length-append ys (y ∷ [])))
ends_alike (a ∷ xs) [] x y e = absurd (omega (arith, ap length e, length-append xs (x ∷ [])))
ends_alike (a ∷ xs) (b ∷ ys) x y e = let head : a ≡ b = cc in let tail : xs ++ x ∷ [] ≡ ys ++ y ∷ [] = cc in let t = ends_alike xs ys x y tail in (ap₂ (λ (n : ℕ) (l : List ℕ). n ∷ l) head t.0, t.1)

-- the newest of the numbers is that of the newest pin
pub popped : (pins : List Pinned) (numbers : List ℕ) (f : ℕ) → numbers_of pins ≡ numbers ++ f ∷ [] → (p : Pinned) × (p.number ≡ f) × (pins ≡ p ∷ older pins)
popped [] numbers f e = absurd (omega (arith, ap length e, length-append numbers (f ∷ [])))
popped (p ∷ ps) numbers f e = (p, (ends_alike (numbers_of ps) numbers p.number f e).1, refl)

pub popped_rest : (pins : List Pinned) (numbers : List ℕ) (f : ℕ) → numbers_of pins ≡ numbers ++ f ∷ [] → numbers ≡ numbers_of (older pins)
popped_rest [] numbers f e = absurd (omega (arith, ap length e, length-append numbers (f ∷ [])))
popped_rest (p ∷ ps) numbers f e = sym (ends_alike (numbers_of ps) numbers p.number f e).0

-- without a number there is no pin
pub none_counted : (pins : List Pinned) → numbers_of pins ≡ [] → pins ≡ []
none_counted [] e = refl
none_counted (p ∷ ps) e = absurd (omega (arith, ap length e, length-append (numbers_of ps) (p.number ∷ [])))

-- the older pins are pins
pub older_at : (pins : List Pinned) (i : ℕ) (p : Pinned) → get_elem? (older pins) i ≡ some p → get_elem? pins (suc i) ≡ some p
older_at [] i p e = absurd (some-ne-none p (sym e))
older_at (q ∷ ps) i p e = e

pub length-older : (pins : List Pinned) (p : Pinned) → pins ≡ p ∷ older pins → length pins ≡ length (older pins) + 1
length-older pins p e = let t = ap length e in omega arith
