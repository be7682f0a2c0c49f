-- The rows so far are given out, into the same folder.
use Rattle.std.proofs.Common.{◌≡◌}
use Rattle.image_salvage.proofs.RowByRow.{GivenTo}
use Rattle.image_salvage.proofs.giving.give_rows.Given as goal

abbrev pub invariant-loop-index : goal.invariant-loop-index
invariant-loop-index g l = record {
  given : GivenTo l.image l.index l.given (g.F.Folder.files l.initial.folder) (g.F.Folder.files l.folder);
  path : g.F.Folder.path l.folder ≡ g.F.Folder.path l.initial.folder;
}
