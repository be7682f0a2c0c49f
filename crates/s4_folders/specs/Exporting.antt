-- What `export` writes.
use Rattle.std.specs.Prelude.{◌≡◌, ℕ, List, Option}
use Rattle.s4_model.specs.Visible.{IsVisible}
use Rattle.drive.specs.Fields.{DriveFields, state_in, store_of}
use Rattle.history_export.specs.Folders.{NamedFile}
use Rattle.history_export.specs.Exports.{Exports}
use Rattle.s4_command.specs.declared.contents.ExportAsked.{ExportAsked}
use Rattle.moment_words.specs.declared.words.MomentWord.{MomentWord}
use Rattle.s4_images.specs.Moments.{moment_asked}

-- The objects of a drive at the moment asked for, which can be read, were written into a folder that had these files, and has those then.
pub record ExportsInto (d : DriveFields) (at : Option MomentWord) (files files' : Option (List NamedFile)) : Type 0 where
  pub readable : IsVisible (state_in d) 0 (moment_asked (state_in d) at)
  pub exports : Exports (state_in d) (store_of d) (moment_asked (state_in d) at) files files'

-- So they were into a folder that was opened at the path that is asked for, by what the path and the files of an opened folder are.
pub record Exported {Opened : Type 0} (path_of : Opened → List ℕ) (files_of : Opened → Option (List NamedFile)) (d : DriveFields) (export : ExportAsked) : Type 0 where
  pub folder : Opened
  pub later : Opened
  pub opened : path_of folder ≡ export.folder.now
  pub stays : path_of later ≡ export.folder.now
  pub into : ExportsInto d export.at (files_of folder) (files_of later)
