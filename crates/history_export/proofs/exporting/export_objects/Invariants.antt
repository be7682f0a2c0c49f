use Rattle.std.proofs.Common.{◌≡◌, ◌-◌, ◌^◌}
use Rattle.drive.specs.Fields.{state_in, store_of}
use Rattle.history_export.proofs.Files.{ExportedTo}
use Rattle.history_export.proofs.exporting.export_objects.Given as goal

-- the objects so far are exported, and the drive's state and store are as they were
abbrev pub invariant-loop-row : goal.invariant-loop-row
invariant-loop-row g l = record {
  state : state_in l.drive ≡ state_in l.initial.drive;
  store : store_of l.drive ≡ store_of l.initial.drive;
  path : g.F.Folder.path l.folder ≡ g.F.Folder.path l.initial.folder;
  exported : ExportedTo (state_in l.initial.drive) (store_of l.initial.drive) l.at l.last (g.F.Folder.files l.folder);
}

abbrev pub decreases-loop-row : goal.decreases-loop-row
decreases-loop-row g l = 2 ^ 64 - l.last
