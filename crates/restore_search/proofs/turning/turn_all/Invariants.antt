use Rattle.std.proofs.Common.{◌≡◌, false, [], take}
use Rattle.restore_search.specs.Searching.{AreSettled, Turns}
use Rattle.restore_search.proofs.turning.turn_all.Given as goal

-- so it is of those so far
abbrev pub invariant-loop-hiding : goal.invariant-loop-hiding
invariant-loop-hiding l = record {
  turns : Turns l.flush l.hidings l.survey l.fn.lacking.items l.kept.items l.lacking.items;
  settled : l.is_other ≡ false → l.survey.unmade.items ≡ [] → AreSettled (take l.hiding-index l.hidings) l.fn.lacking.items l.kept.items l.lacking.items;
}
