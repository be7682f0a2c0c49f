-- A plan that counts on one more frame.
use Rattle.std.proofs.Common.{◌≡◌, ℕ, ◌<◌, ◌==◌, ◌⊎◌, ◌↔◌, cond, true≢false, List, ◌∷◌, Option, Some, None, IsSome, IfSome, Result, Ok, Err, IsOk, OnOk, inl, inr, refl, ap, sym, subst, ◌∙◌, arith}
use Rattle.std.proofs.lemmas.Bool.{cases_Bool, cases_lt, eqb-true, eqb-false, cond-true, cond-false}
use Rattle.std.proofs.lemmas.Option.{same_Some}
use Rattle.s4_types.specs.Pointer.{Place}
use Rattle.s4_types.specs.declared.refusals.Refusal.{Refusal}
use Rattle.block_log.specs.Log.{Stored}
use Rattle.inode.specs.Contents.{contents_of, bytes_stored}
use Rattle.segment_word.specs.Frames.{Pinned}
use Rattle.segment_word.specs.Handles.{Held, IsAmong, pin_of}
use Rattle.segment_word.specs.Layout.{block_bytes}
use Rattle.segment_word.specs.Counting.{pins_in}
use Rattle.segment_table.specs.Table.{Table, held_at}
use Rattle.time_read.specs.Plans.{PlanFields, pins_held, contents_pinned}
use Rattle.time_read.specs.private.Planning.{CountsOn}
use Rattle.time_read.proofs.Pins.{pinned_bytes}

-- what is told of a pin that counts on a held block's frame
pub record Counted (t : Table) (p : Place) (old new : Held) : Type 0 where
  pub at : old.table ≡ t.seat.table
  pub again : 0 < pins_in p.frame old.pins → new ≡ old
  pub pinned : pins_in p.frame old.pins ≡ 0 → new ≡ record old { pins = pin_of t.seat.frames p.frame ∷ old.pins }
  pub counted : 0 < pins_in p.frame new.pins
  pub bytes : (q : Pinned) → IsAmong q new.pins → q.number ≡ p.frame → IfSome (held_at t p) (λ block. block_bytes q.contents p.block ≡ block.bytes)
  pub held : IsSome (held_at t p)

-- the bytes of a held block
held_bytes : (block : Option Stored) (bytes : List ℕ) → IsSome block → IfSome block (λ b. bytes ≡ b.bytes) → bytes ≡ bytes_stored block
held_bytes None bytes some is = absurd (true≢false (sym some))
held_bytes (Some b) bytes some is = is

-- one more pin counts on its own frame besides
one_more : (f g : ℕ) (pins : List Pinned) (pin : Pinned) → pin.number ≡ g → (0 < pins_in f (pin ∷ pins)) ↔ ((0 < pins_in f pins) ⊎ (g ≡ f))
one_more f g pins pin is = elim (cases_Bool (pin.number == f)) [
  | inl here ↦
      let one : ◌≡◌ {A = ℕ} (cond (pin.number == f) 1 0) 1 = cond-true {A = ℕ} (pin.number == f) 1 0 here in
      ((λ _. inr (sym is ∙ eqb-true pin.number f here)), (λ _. omega (arith, one)))
  | inr other ↦
      let none : ◌≡◌ {A = ℕ} (cond (pin.number == f) 1 0) 0 = cond-false {A = ℕ} (pin.number == f) 1 0 other in (
        (λ some. inl (omega (arith, none, some))),
        (λ either. elim either [
          | inl some ↦ omega (arith, none, some)
          | inr same ↦ absurd (eqb-false pin.number f other (is ∙ same))
        ]),
      )
]

-- a pin that is there keeps what it has, whichever pin comes in front of it
in_front : (f g : ℕ) (pins : List Pinned) (pin : Pinned) → pin.number ≡ g → pins_in g pins ≡ 0 → 0 < pins_in f pins → contents_pinned f (pin ∷ pins) ≡ contents_pinned f pins
in_front f g pins pin is none some = elim (cases_Bool (pin.number == f)) [
  | inl here ↦
      let same : g ≡ f = sym is ∙ eqb-true pin.number f here in
      let none_here : pins_in f pins ≡ 0 = ap (λ (n : ℕ). pins_in n pins) (sym same) ∙ none in
      absurd (omega (arith, none_here, some))
  | inr other ↦ cond-false (pin.number == f) pin.contents (contents_pinned f pins) other
]

contents_kept : (t : Table) (p : Place) (old new : Held) → Counted t p old new → (f : ℕ) → 0 < pins_in f old.pins → contents_pinned f new.pins ≡ contents_pinned f old.pins
contents_kept t p old new c f some = elim (cases_lt 0 (pins_in p.frame old.pins)) [
  | inl there ↦ ap (λ (h : Held). contents_pinned f h.pins) (c.again there)
  | inr none ↦
      let no_pin : pins_in p.frame old.pins ≡ 0 = omega arith in
      ap (λ (h : Held). contents_pinned f h.pins) (c.pinned no_pin)
      ∙ in_front f p.frame old.pins (pin_of t.seat.frames p.frame) refl no_pin some
]

frames_counted : (t : Table) (p : Place) (old new : Held) → Counted t p old new → (f : ℕ) → (0 < pins_in f new.pins) ↔ ((0 < pins_in f old.pins) ⊎ (p.frame ≡ f))
frames_counted t p old new c f = elim (cases_lt 0 (pins_in p.frame old.pins)) [
  | inl there ↦
      let same : new ≡ old = c.again there in (
        (λ some. inl (subst (λ (h : Held). 0 < pins_in f h.pins) same some)),
        (λ either. elim either [
          | inl some ↦ subst (λ (h : Held). 0 < pins_in f h.pins) (sym same) some
          | inr is ↦ subst (λ (n : ℕ). 0 < pins_in n new.pins) is c.counted
        ]),
      )
  | inr none ↦
      let no_pin : pins_in p.frame old.pins ≡ 0 = omega arith in
      subst (λ (h : Held). (0 < pins_in f h.pins) ↔ ((0 < pins_in f old.pins) ⊎ (p.frame ≡ f))) (sym (c.pinned no_pin)) (one_more f p.frame old.pins (pin_of t.seat.frames p.frame) refl)
]

from_counted : (t : Table) (p : Place) (before : PlanFields) (old new : Held) → old.pins ≡ pins_held before.pin → new.table ≡ old.table → Counted t p old new → CountsOn t p before (record before { pin = Some new })
from_counted t p before old new old_is table c = record {
  keeps = record {
    at = λ held is. ap (λ (h : Held). h.table) (sym (same_Some new held is)) ∙ table ∙ c.at;
    contents = λ f some. contents_kept t p old new c f (subst (λ (l : List Pinned). 0 < pins_in f l) (sym old_is) some) ∙ ap (contents_pinned f) old_is;
  };
  frames = λ f. subst (λ (l : List Pinned). (0 < pins_in f new.pins) ↔ ((0 < pins_in f l) ⊎ (p.frame ≡ f))) old_is (frames_counted t p old new c f);
  bytes = sym (pinned_bytes p.frame p.block new.pins (contents_of (held_at t) p) c.counted (λ q among is. sym (held_bytes (held_at t p) (block_bytes q.contents p.block) c.held (c.bytes q among is))));
  rest = refl;
}

-- a plan whose pin was told to count on the frame of a held block
pub counts_on : (t : Table) (p : Place) (before after : PlanFields) (old new : Held) (r : Result (Unit {0}) Refusal) → old.table ≡ t.seat.table → old.pins ≡ pins_held before.pin
    → (0 < pins_in p.frame old.pins → IsOk r × (new ≡ old)) → (pins_in p.frame old.pins ≡ 0 → OnOk r (new ≡ record old { pins = pin_of t.seat.frames p.frame ∷ old.pins })) → OnOk r (0 < pins_in p.frame new.pins)
    → OnOk r ((q : Pinned) → IsAmong q new.pins → q.number ≡ p.frame → IfSome (held_at t p) (λ block. block_bytes q.contents p.block ≡ block.bytes))
    → new.table ≡ old.table → IsSome (held_at t p) → after ≡ record before { pin = Some new } → OnOk r (CountsOn t p before after)
counts_on t p before after old new (Err e) at old_is again pinned counted bytes table held is = tt
counts_on t p before after old new (Ok u) at old_is again pinned counted bytes table held is =
    subst (CountsOn t p before) (sym is) (from_counted t p before old new old_is table (record {
      at = at;
      again = λ some. (again some).1;
      pinned = pinned;
      counted = counted;
      bytes = bytes;
      held = held;
    }))
