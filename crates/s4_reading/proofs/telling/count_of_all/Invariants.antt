use Rattle.std.proofs.Common.{◌≡◌, ◌≤◌, take, count_by}
use Rattle.s4_reading.specs.Telling.{is_of_all}
use Rattle.s4_reading.proofs.telling.count_of_all.Given as goal

-- the runs so far are counted
abbrev pub invariant-loop-run : goal.invariant-loop-run
invariant-loop-run l = record {
  few : l.count ≤ l.run-index;
  counted : l.count ≡ count_by is_of_all (take l.run-index l.runs);
}
