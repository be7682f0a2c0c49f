use Rattle.std.proofs.Common.{◌≡◌, List, ℕ, ◌++◌, take}
use Rattle.door_lines.specs.Lines.{held_of}
use Rattle.door_lines.specs.private.Scanning.{IsUnbroken}
use Rattle.door_lines.proofs.reader.scan.Given as goal

abbrev pub invariant-loop-at : goal.invariant-loop-at
invariant-loop-at l = record {
  unbroken : IsUnbroken (take l.at l.bytes);
  held : (front : List ℕ) → l.fn.line ≡ held_of front → l.line ≡ held_of (front ++ take l.at l.bytes);
}
