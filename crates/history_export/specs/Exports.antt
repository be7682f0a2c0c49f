-- What an export leaves in a folder.
use Rattle.std.specs.Prelude.{◌≡◌, ◌⊎◌, ℕ, false, List, [], ◌∷◌, map, Option, ⊤}
use Rattle.std.specs.List.{flat_map}
use Rattle.s4_types.specs.declared.refusals.Refusal.{Refusal}
use Rattle.s4_types.specs.declared.refusals.Refusal.TheVariants.{NoMemory, Busy}
use Rattle.s4_model.specs.State.{State}
use Rattle.s4_model.specs.VersionAt.{version_of}
use Rattle.version_store.specs.Store.{StoreFields}
use Rattle.history_view.specs.declared.listing.Listed.{Listed}
use Rattle.history_view.specs.Listing.{AreListedFrom}
use Rattle.history_export.specs.declared.faults.ExportError.{ExportError}
use Rattle.history_export.specs.declared.faults.ExportError.TheVariants.{NotEmpty, CannotRead, CannotWrite, Refused}
use Rattle.history_export.specs.Folders.{NamedFile, AreFiles, HasFiles, with_file, with_bytes}
use Rattle.history_export.specs.Manifest.{manifest_name, manifest_line, file_name}
use Rattle.history_view.specs.Contents.{content_of}

-- the bytes that a listed object has at a moment
abbrev pub content_at : State → ℕ → Listed → List ℕ
content_at s t row = content_of (version_of s row.object t)

-- the file of a listed object
abbrev pub file_at : State → ℕ → Listed → NamedFile
file_at s t row = record { name = file_name row.object; bytes = content_at s t row }

-- the line of a listed object
abbrev pub line_at : State → ℕ → Listed → List ℕ
line_at s t row = manifest_line row (content_at s t row)

-- the files of these listed objects at a moment: the manifest, which has a line for each, and each object's own
abbrev pub exported : State → ℕ → List Listed → List NamedFile
exported s t rows = record { name = manifest_name; bytes = flat_map (line_at s t) rows } ∷ map (file_at s t) rows

-- the files with one of this name and these bytes, and with a line at the end of the manifest
abbrev pub with_named : List ℕ → List ℕ → List ℕ → List NamedFile → List NamedFile
with_named name content line files = with_bytes manifest_name line (with_file name content files)

-- the files with that of an object of these bytes, and with a line at the end of the manifest
abbrev pub with_line : ℕ → List ℕ → List ℕ → List NamedFile → List NamedFile
with_line o content line files = with_named (file_name o) content line files

-- the files with that of a listed object of these bytes, and with its line at the end of the manifest
abbrev pub with_object : Listed → List ℕ → List NamedFile → List NamedFile
with_object row content files = with_line row.object content (manifest_line row content) files

-- The files are those of all objects that are live at a moment which can be read of them, and nothing else.
pub record HasExported (s : State) (store : StoreFields) (t : ℕ) (files : Option (List NamedFile)) : Type 0 where
  pub rows : List Listed
  pub listed : AreListedFrom s store false t 0 rows
  pub has : AreFiles files (exported s t rows)

-- A folder had nothing, and has that.
pub record Exports (s : State) (store : StoreFields) (t : ℕ) (files files' : Option (List NamedFile)) : Type 0 where
  pub empty : AreFiles files []
  pub has : HasExported s store t files'

-- a version that can be read isn't read for lack of memory or of a seat alone
abbrev pub IsOfWant : Refusal → Type 0
IsOfWant refusal = (refusal ≡ NoMemory) ⊎ (refusal ≡ Busy)

-- The error is of what is written into a folder that was empty.
abbrev pub IsOfWriting : ExportError → Type 0
IsOfWriting NotEmpty = ⊥
IsOfWriting CannotRead = ⊥
IsOfWriting (CannotWrite file) = ⊤
IsOfWriting (Refused refusal) = IsOfWant refusal

-- The error explains why nothing, or not all, was written: the folder had files, or can't be read; or a file can't be written; or there was
-- lack of memory or of a seat.
abbrev pub Explains : Option (List NamedFile) → ExportError → Type 0
Explains files NotEmpty = HasFiles files
Explains files CannotRead = ⊤
Explains files (CannotWrite file) = ⊤
Explains files (Refused refusal) = IsOfWant refusal
