use Rattle.std.proofs.Common.{arith}
use Rattle.segment_word.specs.AcceptViews.{Driving, begun, blank_base}
use Rattle.segment_word.proofs.Accepting.{comes}
use Rattle.segment_word.proofs.AcceptViews.{new_is}
use Rattle.segment_word.proofs.accepts.steps.come.Goals as goal

pub load_new_seat-seat-requires : goal.load_new_seat-seat-requires
load_new_seat-seat-requires c = (omega (arith, c.requires), comes _ (Driving (begun blank_base)))

pub returns-clause-view : goal.returns-clause-view
returns-clause-view c = new_is _ c.load_new_seat-seat.ensures.2.0 c.load_new_seat-seat.ensures.2.1
