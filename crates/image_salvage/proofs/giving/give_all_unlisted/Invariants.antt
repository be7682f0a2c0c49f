-- What is left to be given out gives all, into the same folder.
use Rattle.std.proofs.Common.{◌≡◌}
use Rattle.segment_table.specs.Used.{used_at}
use Rattle.image_salvage.proofs.RowByRow.{GivesLeft}
use Rattle.image_salvage.proofs.giving.give_all_unlisted.Given as goal

abbrev pub invariant-loop-unlisted : goal.invariant-loop-unlisted
invariant-loop-unlisted g l = record {
  given : GivesLeft (used_at l.image.table) l.objects l.unlisted-index (g.F.Folder.files l.initial.folder) (g.F.Folder.files l.folder);
  path : g.F.Folder.path l.folder ≡ g.F.Folder.path l.initial.folder;
}
