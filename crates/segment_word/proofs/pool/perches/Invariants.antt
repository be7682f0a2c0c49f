use Rattle.std.proofs.Common.{◌≡◌, All}
use Rattle.segment_word.specs.Frames.{nothing_known}
use Rattle.segment_word.specs.Steps.{IsSameSeat}
use Rattle.segment_word.proofs.pool.perches.Given as goal

abbrev pub invariant-loop : goal.invariant-loop
invariant-loop l = record {
  seat : IsSameSeat l.initial.seat l.seat;
  view : l.seat.me ≡ l.initial.seat.me;
  rests : All (λ r. (r.table_id ≡ l.words.table_id) × (r.view ≡ nothing_known)) l.perches.items;
}
