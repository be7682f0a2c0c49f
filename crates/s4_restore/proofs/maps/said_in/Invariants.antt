use Rattle.std.proofs.Common.{◌++◌, List, length}
use denote.Text.{Utf8}
use denote.Shadow.{shadow}
use Rattle.history_restore.specs.declared.aims.StandIn.{StandIn}
use Rattle.s4_restore.specs.Maps.{AreSaid, lines_of}
use Rattle.s4_restore.proofs.maps.said_in.Given as goal

-- with what the rest says, what was said so far is what all lines say
abbrev pub invariant-loop-line : goal.invariant-loop-line
invariant-loop-line l = shadow (Utf8 l.rest) × ((more : List StandIn) → AreSaid (lines_of l.rest) more → AreSaid (lines_of l.fn.text) (l.said.items ++ more))

abbrev pub decreases-loop-line : goal.decreases-loop-line
decreases-loop-line l = length l.rest
