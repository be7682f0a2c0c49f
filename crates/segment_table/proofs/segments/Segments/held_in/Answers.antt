use Rattle.std.proofs.Common.{refl, sym, ◌∙◌, arith}
use Rattle.segment_table.specs.Table.{held_at, is_of}
use Rattle.segment_table.proofs.Owned.{none_seen}
use Rattle.segment_table.proofs.segments.Segments.held_in.Goals as goal

pub loop-index-init : goal.loop-index-init
loop-index-init c = (refl, c.in_ok-pointers.ensures.items ∙ sym (none_seen (λ p. is_of c.args.object (held_at c.sealed_generation.new.self p)) c.args.frame c.in-Some.generation))

pub unwrap-place-requires : goal.unwrap-place-requires
unwrap-place-requires c =
    c.new-in-loop-index.ensures.place.1 (record { frame = omega arith; lowest_block = omega arith; highest_block = omega arith; lowest_generation = c.in-Some.ensures.range.0; highest_generation = c.in-Some.ensures.range.1 })
