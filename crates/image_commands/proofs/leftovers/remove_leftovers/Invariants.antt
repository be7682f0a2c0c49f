use Rattle.std.proofs.Common.{◌≡◌, ℕ, false, List}
use Rattle.std.specs.Io.KnownBytes.{Keeps}
use Rattle.image_commands.specs.Leaving.{IsKeptWhereWhole}
use Rattle.image_commands.proofs.leftovers.remove_leftovers.Given as goal

-- files elsewhere and images are as they were at first
abbrev pub invariant-loop-number : goal.invariant-loop-number
invariant-loop-number g l = record {
  others : (path : List ℕ) → g.F.Files.reserves l.claim path ≡ false → Keeps (g.F.Files.contents l.initial.files path) (g.F.Files.contents l.files path);
  whole : (path : List ℕ) → IsKeptWhereWhole (g.F.Files.contents l.initial.files path) (g.F.Files.contents l.files path);
}
