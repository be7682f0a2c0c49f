-- What a folder has, file by file.
use Rattle.std.proofs.Common.{◌≡◌, ◌⊎◌, ◌∙◌, ◌<◌, ◌++◌, ℕ, false, List, [], ◌∷◌, Option, Some, None, Result, Ok, Err, IfErr, inl, inr, refl, sym, ap, ap₂, subst}
use Rattle.std.specs.Option.{option_map}
use Rattle.std.proofs.lemmas.List.{map-append}
use Rattle.s4_types.specs.declared.refusals.Refusal.TheVariants.{NoMemory}
use Rattle.s4_model.specs.State.{State}
use Rattle.version_store.specs.Store.{StoreFields}
use Rattle.history_view.specs.declared.listing.Listed.{Listed}
use Rattle.history_view.specs.Listing.{AreListedFrom, IsListedNext, IsPassed}
use Rattle.history_export.specs.declared.faults.ExportError.{ExportError}
use Rattle.history_export.specs.declared.faults.ExportError.TheVariants.{NotEmpty, CannotRead, CannotWrite, Refused}
use Rattle.history_export.specs.declared.faults.ExportedFile.{ExportedFile}
use Rattle.history_export.specs.Folders.{NamedFile, AreFiles, with_file}
use Rattle.history_export.specs.Manifest.{manifest_name}
use Rattle.history_export.specs.Exports.{HasExported, Explains, IsOfWriting, content_at, file_at, line_at, exported, with_object}
use Rattle.history_view.proofs.Fronts.{IsFront, front_begun, front_more, front_whole, flat_more}

-- ---- files that are known

-- files that become others
pub files_become : (change : List NamedFile → List NamedFile) (known later : Option (List NamedFile)) (files : List NamedFile) → AreFiles known files → later ≡ option_map change known → AreFiles later (change files)
files_become change None later files are becomes = subst (λ x. AreFiles x (change files)) (sym becomes) tt
files_become change (Some known) later files are becomes = subst (λ x. AreFiles x (change files)) (sym becomes) (ap change are)

-- one change after another is one
pub changes_join : (f g : List NamedFile → List NamedFile) (a b c : Option (List NamedFile)) → b ≡ option_map f a → c ≡ option_map g b → c ≡ option_map (λ files. g (f files)) a
changes_join f g None b c first second = second ∙ ap (option_map g) first
changes_join f g (Some files) b c first second = second ∙ ap (option_map g) first

-- ---- the files of an export

-- the manifest is alone at first
pub manifest_alone : (s : State) (t : ℕ) (known later : Option (List NamedFile)) → AreFiles known [] → later ≡ option_map (with_file manifest_name []) known → AreFiles later (exported s t [])
manifest_alone s t known later empty made = files_become (with_file manifest_name []) known later [] empty made

abbrev file_by : List ℕ → List ℕ → NamedFile
file_by name bytes = record { name = name; bytes = bytes }

-- with one object more they are those of the objects up to it
pub one_exported : (s : State) (t : ℕ) (rows : List Listed) (row : Listed) → with_object row (content_at s t row) (exported s t rows) ≡ exported s t (rows ++ row ∷ [])
one_exported s t rows row =
    ap₂ (λ (lines : List ℕ) (files : List NamedFile). file_by manifest_name lines ∷ files) (sym (flat_more (line_at s t) rows row)) (sym (map-append (file_at s t) rows (row ∷ [])))

-- the objects up to one are exported
pub record ExportedTo (s : State) (store : StoreFields) (t last : ℕ) (files : Option (List NamedFile)) : Type 0 where
  pub rows : List Listed
  pub front : IsFront (AreListedFrom s store false t) rows last
  pub has : AreFiles files (exported s t rows)

-- none is at first
pub none_exported : (s : State) (store : StoreFields) (t : ℕ) (files : Option (List NamedFile)) → AreFiles files (exported s t []) → ExportedTo s store t 0 files
none_exported s store t files begun = record { rows = []; front = front_begun (AreListedFrom s store false t); has = begun }

-- the next one is
pub exported_on : (s : State) (store : StoreFields) (t last : ℕ) (row : Listed) (files later : Option (List NamedFile)) → ExportedTo s store t last files → IsListedNext s store false t last row
    → later ≡ option_map (with_object row (content_at s t row)) files → ExportedTo s store t row.object later
exported_on s store t last row files later before next becomes = record {
  rows = before.rows ++ row ∷ [];
  front = front_more (AreListedFrom s store false t) before.rows row last row.object before.front (λ rest more. (next, more));
  has = subst (AreFiles later) (one_exported s t before.rows row) (files_become (with_object row (content_at s t row)) files later (exported s t before.rows) before.has becomes);
}

-- all are, where nothing is listed after the last
pub all_exported : (s : State) (store : StoreFields) (t last : ℕ) (files : Option (List NamedFile)) → ExportedTo s store t last files → ((o : ℕ) → last < o → IsPassed s store false t o) → HasExported s store t files
all_exported s store t last files before none = record {
  rows = before.rows;
  listed = front_whole (AreListedFrom s store false t) before.rows last before.front none;
  has = before.has;
}

-- ---- errors

-- an error of what is written explains itself
pub writing_explains : (files : Option (List NamedFile)) (e : ExportError) → IsOfWriting e → Explains files e
writing_explains files NotEmpty of = absurd of
writing_explains files CannotRead of = absurd of
writing_explains files (CannotWrite file) of = tt
writing_explains files (Refused refusal) of = of

pub if_writing_explains : {A : Type 0} → (files : Option (List NamedFile)) (result : Result A ExportError) → IfErr result IsOfWriting → IfErr result (Explains files)
if_writing_explains files (Ok value) of = tt
if_writing_explains files (Err e) of = writing_explains files e of

-- an error of a file is one of what is written
pub of_file : (e : ExportError) (file : ExportedFile) → (e ≡ Refused NoMemory) ⊎ (e ≡ CannotWrite file) → IsOfWriting e
of_file e file (inl memory) = subst IsOfWriting (sym memory) (inl refl)
of_file e file (inr write) = subst IsOfWriting (sym write) tt

-- an error of a folder that can't be read explains itself
pub of_folder : (files : Option (List NamedFile)) (e : ExportError) → (e ≡ Refused NoMemory) ⊎ (e ≡ CannotRead) → Explains files e
of_folder files e (inl memory) = subst (Explains files) (sym memory) (inl refl)
of_folder files e (inr read) = subst (Explains files) (sym read) tt

-- ---- drives that stay

-- what is listed next, by a state and a store that stayed, was before
pub next_as_before : (s s' : State) (store store' : StoreFields) (t after : ℕ) (row : Listed) → s' ≡ s → store' ≡ store → IsListedNext s' store' false t after row → IsListedNext s store false t after row
next_as_before s s' store store' t after row state stays next =
    subst (λ (x : StoreFields). IsListedNext s x false t after row) stays (subst (λ (x : State). IsListedNext x store' false t after row) state next)

-- so is what is passed
pub passed_as_before : (s s' : State) (store store' : StoreFields) (t o : ℕ) → s' ≡ s → store' ≡ store → IsPassed s' store' false t o → IsPassed s store false t o
passed_as_before s s' store store' t o state stays passed =
    subst (λ (x : StoreFields). IsPassed s x false t o) stays (subst (λ (x : State). IsPassed x store' false t o) state passed)
