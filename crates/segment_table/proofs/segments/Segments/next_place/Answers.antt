use Rattle.std.proofs.Common.{◌≡◌, ◌+◌, ◌^◌, ◌<◌, length, [], sym, ap, subst, ◌∙◌, arith}
use Rattle.std.proofs.lemmas.List.{get_or_read}
use Rattle.segment_word.specs.Frames.{code_of}
use Rattle.segment_word.specs.Layout.{frame_at}
use Rattle.segment_table.specs.Table.{Table, slots_at}
use Rattle.segment_table.proofs.Steps.{AtFilling, at_filling}
use Rattle.segment_table.proofs.segments.Segments.next_place.Goals as goal

pub generation-generation-requires : goal.generation-generation-requires
generation-generation-requires c =
    let old : Table = record { seat = c.self.inside.seat; slots = c.self.inside.slots.items } in
    (at_filling old c.args.self.now c.self.inside.free.items c.self.inside.current c.args.frame c.self.view_is c.self.invariant.0 c.requires.filling).inside

pub unwrap-requires : goal.unwrap-requires
unwrap-requires c =
    let old : Table = record { seat = c.self.inside.seat; slots = c.self.inside.slots.items } in
    let at : AtFilling old c.args.frame = at_filling old c.args.self.now c.self.inside.free.items c.self.inside.current c.args.frame c.self.view_is c.self.invariant.0 c.requires.filling in
    let R : Table → Type 0 = λ t. length (slots_at t.slots c.args.frame) < 15 in
    let room : R old = subst R (sym c.self.view_is) c.requires.room in
    let count : c.len-next.result ≡ length (slots_at old.slots c.args.frame) = c.len-next.ensures.count ∙ ap length (get_or_read old.slots c.args.frame c.index.result.now at.within c.index.ensures []) in
    let used : code_of (frame_at old.seat.frames c.args.frame).phase ≡ 1 = ap code_of at.phase in
    let last : c.generation-generation.result + 1 < 2 ^ 32 = c.generation-generation.ensures.most (omega arith) in
    c.new.ensures.place.1 (record { frame = omega arith; lowest_block = omega arith; highest_block = omega arith; lowest_generation = omega arith; highest_generation = last })
