-- Where the bytes that a slot refers to come from.
use Rattle.std.proofs.Common.{◌≡◌, ℕ, ◌<◌, ◌⊎◌, ◌↔◌, true, false, true≢false, Option, Some, None, inl, inr, refl, ap, sym, subst, ◌∙◌}
use Rattle.std.proofs.lemmas.Bool.{cond-true, cond-false, eqb-true, eq-eqb}
use Rattle.s4_types.specs.Pointer.{Place}
use Rattle.inode.specs.Contents.{contents_of}
use Rattle.inode.specs.Laws.{slot_bytes}
use Rattle.segment_word.specs.Frames.{Phase, Open, Sealed, is_open}
use Rattle.segment_word.specs.Layout.{frame_at}
use Rattle.segment_word.specs.Counting.{pins_in}
use Rattle.segment_table.specs.Table.{Table, held_at}
use Rattle.time_read.specs.Plans.{Piece, Hole, Copied, Pinned, PlanFields, pins_held, piece_of, piece_bytes, is_pinned, is_pinned_in, IsAt}
use Rattle.time_read.specs.private.Planning.{Keeps, CountsOn, Locates}

phase_of_place : Table → Place → Phase
phase_of_place t p = (frame_at t.seat.frames p.frame).phase

-- what a block of the open frame gives, and one of a sealed frame
pub open_piece : (t : Table) (p : Place) → (frame_at t.seat.frames p.frame).phase ≡ Open → piece_of t (Some p) ≡ Copied (contents_of (held_at t) p)
open_piece t p phase = cond-true (is_open (frame_at t.seat.frames p.frame).phase) (Copied (contents_of (held_at t) p)) (Pinned p.frame p.block) (ap is_open phase)

pub sealed_piece : (t : Table) (p : Place) → (frame_at t.seat.frames p.frame).phase ≡ Sealed → piece_of t (Some p) ≡ Pinned p.frame p.block
sealed_piece t p phase = cond-false (is_open (frame_at t.seat.frames p.frame).phase) (Copied (contents_of (held_at t) p)) (Pinned p.frame p.block) (ap is_open phase)

-- a pin that stays keeps all
stays : (t : Table) (plan : PlanFields) → IsAt t plan.pin → Keeps t plan.pin plan.pin
stays t plan at = record { at = at; contents = λ f some. refl }

-- a piece that isn't pinned counts on no frame
unpinned : (n : ℕ) (f : ℕ) (piece : Piece) → is_pinned_in f piece ≡ false → (0 < n) ↔ ((0 < n) ⊎ (is_pinned_in f piece ≡ true))
unpinned n f piece none = (
  (λ some. inl some),
  (λ either. elim either [
    | inl some ↦ some
    | inr is ↦ absurd (true≢false (sym is ∙ none))
  ]),
)

pub located_hole : (t : Table) (slot : Option Place) (plan : PlanFields) → IsAt t plan.pin → slot ≡ None → Locates t slot plan plan
unfolding slot_bytes
located_hole t slot plan at is = subst (λ (x : Option Place). Locates t x plan plan) (sym is) (record {
  keeps = stays t plan at;
  frames = λ f. unpinned (pins_in f (pins_held plan.pin)) f Hole refl;
  bytes = refl;
  idle = λ _. refl;
  rest = refl;
})

pub located_copied : (t : Table) (slot : Option Place) (p : Place) (plan : PlanFields) → IsAt t plan.pin → slot ≡ Some p → (frame_at t.seat.frames p.frame).phase ≡ Open → Locates t slot plan plan
unfolding slot_bytes
located_copied t slot p plan at is phase = subst (λ (x : Option Place). Locates t x plan plan) (sym is) (record {
  keeps = stays t plan at;
  frames = λ f. unpinned (pins_in f (pins_held plan.pin)) f (piece_of t (Some p)) (ap (is_pinned_in f) (open_piece t p phase));
  bytes = ap (piece_bytes (pins_held plan.pin)) (open_piece t p phase);
  idle = λ _. refl;
  rest = refl;
})

pinned_here : (f : ℕ) (p : Place) (piece : Piece) → piece ≡ Pinned p.frame p.block → (p.frame ≡ f) ↔ (is_pinned_in f piece ≡ true)
pinned_here f p piece is =
    ((λ same. ap (is_pinned_in f) is ∙ eq-eqb p.frame f same), (λ here. eqb-true p.frame f (sym (ap (is_pinned_in f) is) ∙ here)))

pub located_pinned : (t : Table) (slot : Option Place) (p : Place) (before after : PlanFields) → slot ≡ Some p → (frame_at t.seat.frames p.frame).phase ≡ Sealed → CountsOn t p before after → Locates t slot before after
unfolding slot_bytes
located_pinned t slot p before after is phase counts = subst (λ (x : Option Place). Locates t x before after) (sym is) (record {
  keeps = counts.keeps;
  frames = λ f.
      let same = pinned_here f p (piece_of t (Some p)) (sealed_piece t p phase) in (
        (λ some. elim ((counts.frames f).0 some) [
          | inl earlier ↦ inl earlier
          | inr here ↦ inr (same.0 here)
        ]),
        (λ either. elim either [
          | inl earlier ↦ (counts.frames f).1 (inl earlier)
          | inr here ↦ (counts.frames f).1 (inr (same.1 here))
        ]),
      );
  bytes = ap (piece_bytes (pins_held after.pin)) (sealed_piece t p phase) ∙ counts.bytes;
  idle = λ unpinned_here. absurd (true≢false (sym (ap is_pinned (sealed_piece t p phase)) ∙ unpinned_here));
  rest = counts.rest;
})
