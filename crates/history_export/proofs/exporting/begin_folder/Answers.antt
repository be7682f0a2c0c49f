use Rattle.history_export.proofs.Files.{if_writing_explains}
use Rattle.history_export.proofs.exporting.begin_folder.Goals as goal

pub returns-clause-refused : goal.returns-clause-refused
returns-clause-refused g c = if_writing_explains (g.F.Folder.files c.args.folder.now) c.make_file.result c.make_file.ensures.refused
