use Rattle.std.proofs.Common.{◌≡◌, ◌-◌, ◌<◌, [], List, ℕ, length, slice_get, get_or, sym, ap, subst, ◌∙◌, arith}
use Rattle.std.proofs.lemmas.List.{get_or_read}
use Rattle.segment_table.specs.declared.slots.Slot.{Slot}
use Rattle.segment_table.specs.Slots.{held_role}
use Rattle.segment_table.specs.Table.{Table, slots_at}
use Rattle.segment_table.proofs.Reading.{role_is}
use Rattle.segment_table.proofs.segments.Segments.current_role.Goals as goal

pub returns : goal.returns
returns c =
    let old : Table = record { seat = c.self.inside.seat; slots = c.self.inside.slots.items } in
    let same : old ≡ c.args.self.now = c.self.view_is in
    let I : Table → Type 0 = λ t. c.args.place.frame < length t.seat.frames in
    let inside : I old = subst I (sym same) c.requires.inside in
    let within : c.args.place.frame < length old.slots = omega (arith, c.self.invariant.0.counted) in
    let F : ℕ → Type 0 = λ n. c.index.result.now ≡ get_or old.slots n c.index.result.now in
    let read : c.index.result.now ≡ slots_at old.slots c.args.place.frame = get_or_read old.slots c.args.place.frame c.index.result.now within (subst F c.frame.ensures c.index.ensures) [] in
    c.held.ensures
    ∙ ap (λ (n : ℕ). held_role (slice_get c.index.result.now (n - 1))) c.block.ensures.block
    ∙ ap (λ (l : List Slot). held_role (slice_get l (c.args.place.block - 1))) (read ∙ ap (λ (t : Table). slots_at t.slots c.args.place.frame) same)
    ∙ role_is c.args.self.now c.args.place c.requires.current c.block.ensures.range.lowest_block
