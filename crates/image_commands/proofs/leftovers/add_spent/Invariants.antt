use Rattle.std.proofs.Common.{ℕ, List}
use Rattle.std.specs.List.{All}
use Rattle.image_commands.specs.Leaving.{AreAllSpent, IsLeftFor}
use Rattle.image_commands.proofs.leftovers.add_spent.Given as goal

-- nothing is lost with those that there are so far, and each that lies there by a number so far is one
abbrev pub invariant-loop-number : goal.invariant-loop-number
invariant-loop-number g l = record {
  left : All (IsLeftFor g.F.Files.is_left g.F.Files.is_part (g.F.Files.contents l.files) l.claim l.clock) l.spent.items;
  all : (image : List ℕ) → g.F.Files.serves l.claim image → AreAllSpent l.number (g.F.Files.lies l.files image) g.F.Files.is_left (g.F.Files.contents l.files) l.clock l.spent.items;
}
