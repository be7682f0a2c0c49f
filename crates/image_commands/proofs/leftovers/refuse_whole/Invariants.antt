use Rattle.std.proofs.Common.{ℕ, List}
use Rattle.image_commands.specs.Leaving.{AreNoImages}
use Rattle.image_commands.proofs.leftovers.refuse_whole.Given as goal

-- each that lies there by a number so far is no image
abbrev pub invariant-loop-number : goal.invariant-loop-number
invariant-loop-number g l = (image : List ℕ) → g.F.Files.serves l.claim image → AreNoImages l.number (g.F.Files.lies l.files image) (g.F.Files.contents l.files)
