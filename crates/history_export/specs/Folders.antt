-- What a folder has, where that is known.
use Rattle.std.specs.Prelude.{◌≡◌, ◌≢◌, ℕ, ◌==◌, ◌++◌, if◌then◌else◌, List, [], ◌∷◌, Option, Some, None, ⊤}
use Rattle.std.specs.Cmp.Lexicographic.{pointwise}

-- a file: its name, and its bytes
pub record NamedFile : Type 0 where
  pub name : List ℕ
  pub bytes : List ℕ

-- the files are these, where they are known
abbrev pub AreFiles : Option (List NamedFile) → List NamedFile → Type 0
AreFiles None files = ⊤
AreFiles (Some known) files = known ≡ files

-- there are files, where they are known
abbrev pub HasFiles : Option (List NamedFile) → Type 0
HasFiles None = ⊤
HasFiles (Some known) = known ≢ []

-- the files with one more, of this name and these bytes
abbrev pub with_file : List ℕ → List ℕ → List NamedFile → List NamedFile
with_file name bytes files = files ++ record { name = name; bytes = bytes } ∷ []

-- the files, of which the one of this name has these bytes more at its end
abbrev pub with_bytes : List ℕ → List ℕ → List NamedFile → List NamedFile
with_bytes name bytes [] = []
with_bytes name bytes (file ∷ files) =
    if pointwise ◌==◌ file.name name then record { name = file.name; bytes = file.bytes ++ bytes } ∷ files else file ∷ with_bytes name bytes files
