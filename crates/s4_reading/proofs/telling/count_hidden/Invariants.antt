use Rattle.std.proofs.Common.{◌≡◌, ◌≤◌, ◌+◌, drop}
use Rattle.s4_reading.specs.Telling.{objects_hidden}
use Rattle.s4_reading.proofs.telling.count_hidden.Given as goal

-- the objects so far are counted, and those of the rest are to come
abbrev pub invariant-loop-run : goal.invariant-loop-run
invariant-loop-run l = record {
  few : l.count ≤ l.run-index;
  counted : l.count + objects_hidden l.last (drop l.run-index l.runs) ≡ objects_hidden 0 l.runs;
}
