use Rattle.std.proofs.Common.{rules, ◌≡◌, ℕ, ◌<◌, true, false, [], length, refl, sym, ap, subst, ◌∙◌, arith}
use Rattle.std.specs.List.{list_any}
use Rattle.std.proofs.lemmas.List.{get_or_read, length-set}
use Rattle.segment_word.specs.Frames.{Draining, is_sealed}
use Rattle.segment_word.specs.Layout.{frame_at}
use Rattle.segment_word.specs.Handles.{Drive}
use Rattle.segment_table.specs.Slots.{is_held}
use Rattle.segment_table.specs.declared.slots.Slot.{Slot}
use Rattle.segment_table.specs.Table.{Table, slots_at}
use Rattle.segment_table.specs.Room.{log_of}
use Rattle.segment_table.specs.Changes.{IsMarked}
use Rattle.segment_table.proofs.Emptying.{MarkMade, mark_made, none_is_held}
use Rattle.segment_table.proofs.segments.Segments.mark.Goals.{After-mark}
use Rattle.segment_table.proofs.segments.Segments.mark.Goals as goal

pub returns-then-any_held : goal.returns-then-any_held
returns-then-any_held c =
    let first : Table = record { seat = c.self.inside.seat; slots = c.self.inside.slots.items } in
    let f : ℕ = c.args.frame in
    let given : Table = c.args.self.now in
    let same_first : first ≡ given = c.self.view_is ∙ c.sealed_generation.ensures.same in
    let inside : f < length given.seat.frames = search rules in
    let within : f < length first.slots = (let I : Table → Type 0 = λ t. f < length t.seat.frames in let low : I first = subst I (sym same_first) inside in omega (arith, c.self.invariant.0.counted)) in
    let read : c.index.result.now ≡ slots_at given.slots f = get_or_read first.slots f c.index.result.now within c.index.ensures [] ∙ ap (λ (t : Table). slots_at t.slots f) same_first in
    let held : c.any_held.result ≡ true = search rules in
    record {
      marked = tt;
      answer = (
        refl,
        λ can.
            let none : c.any_held.result ≡ false = c.any_held.ensures ∙ ap (list_any (λ (slot : Slot). is_held slot)) read ∙ none_is_held given f can.1 in
            absurd (cc),
      );
      log = search rules;
      refused = search rules;
    }

-- the table as it was opened, and with the frame marked
abbrev old_of : After-mark → Table
old_of c = record { seat = c.self.inside.seat; slots = c.self.inside.slots.items }

abbrev new_of : After-mark → Table
new_of c = record { seat = c.mark.new.self; slots = c.self.inside.slots.items }

same_table : (c : After-mark) → old_of c ≡ c.args.self.now
same_table c = c.self.view_is ∙ c.sealed_generation.ensures.same

made : (c : After-mark) → MarkMade c.args.frame (old_of c) (new_of c) c.self.inside.free.items c.self.inside.current
made c =
    let old = old_of c in
    let new = new_of c in
    let f : ℕ = c.args.frame in
    let given : Table = c.args.self.now in
    let same : old ≡ given = same_table c in
    let facts : (f < length given.seat.frames) × (is_sealed (frame_at given.seat.frames f).phase ≡ true) = (search rules, search rules) in
    let within : f < length old.slots = (let I : Table → Type 0 = λ t. f < length t.seat.frames in let low : I old = subst I (sym same) facts.0 in omega (arith, c.self.invariant.0.counted)) in
    let read : c.index.result.now ≡ slots_at given.slots f = get_or_read old.slots f c.index.result.now within c.index.ensures [] ∙ ap (λ (t : Table). slots_at t.slots f) same in
    let none : list_any (λ (slot : Slot). is_held slot) (slots_at given.slots f) ≡ false = ap (list_any (λ (slot : Slot). is_held slot)) (sym read) ∙ sym c.any_held.ensures ∙ (let e : c.any_held.result ≡ false = search rules in e) in
    let F : Table → Type 0 = λ t. (f < length t.seat.frames) × (is_sealed (frame_at t.seat.frames f).phase ≡ true) × (list_any (λ (slot : Slot). is_held slot) (slots_at t.slots f) ≡ false) in
    let all : F old = subst F (sym same) (facts.0, facts.1, none) in
    mark_made old new c.self.inside.free.items c.self.inside.current f c.self.invariant.0 all.0 all.1 all.2 c.mark.ensures refl

pub invariant_of-self : goal.invariant_of-self
invariant_of-self c =
    let marked = made (goal.at.invariant_of-self c).After-mark in
    let frames = c.self.inside.seat.frames in
    (marked.sound, omega (arith, ap (λ (d : Drive). length d.frames) marked.marked.seat, length-set frames c.args.frame (record (frame_at frames c.args.frame) { phase = Draining }), c.self.invariant.1))

pub returns : goal.returns
returns c =
    let at = (goal.at.returns c).After-mark in
    let L : Table → Type 0 = λ t. log_of (new_of at) ≡ log_of t in
    let m : IsMarked c.args.frame c.args.self.now (new_of at) = subst (λ (t : Table). IsMarked c.args.frame t (new_of at)) (same_table at) (made at).marked in
    record { marked = m; answer = (m.sealed, m.unheld); log = subst L (same_table at) (made at).log; refused = tt }
