use Rattle.std.proofs.Common.{length}
use Rattle.segment_word.proofs.pins.Pin.drop.Given as goal

abbrev pub decreases-loop : goal.decreases-loop
decreases-loop l = length l.self.pins
