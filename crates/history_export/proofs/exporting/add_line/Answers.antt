use Rattle.history_export.specs.declared.faults.ExportedFile.TheVariants.{Manifest}
use Rattle.history_export.proofs.Files.{of_file}
use Rattle.history_export.proofs.exporting.add_line.Goals as goal

pub returns-in-Err-clause-refused : goal.returns-in-Err-clause-refused
returns-in-Err-clause-refused g c = of_file c.writing.result Manifest c.writing.ensures.only
