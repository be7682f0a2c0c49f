use Rattle.std.proofs.Common.{◌≡◌, filter}
use Rattle.segment_table.specs.Table.{held_at, is_of}
use Rattle.segment_table.specs.Room.{places}
use Rattle.segment_table.proofs.segments.Segments.held_in.Given as goal

abbrev pub invariant-loop-index : goal.invariant-loop-index
invariant-loop-index l =
    (l.self ≡ l.initial.self) × (l.pointers.items ≡ filter (λ p. is_of l.object (held_at l.initial.self p)) (places l.frame l.generation 1 l.index))
