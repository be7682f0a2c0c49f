-- What is known of the bytes of files.
use Rattle.std.specs.Prelude.{◌≡◌, ◌≢◌, ℕ, List, [], ⊤, Option, None, Some}
use Rattle.std.specs.Io.KnownBytes.{Keeps}

-- the bytes are those that are known, where any are
abbrev pub AreKnown : Option (List ℕ) → List ℕ → Type 0
AreKnown None bytes = ⊤
AreKnown (Some known) bytes = known ≡ bytes

-- there is a byte, where they are known
abbrev pub HasSome : Option (List ℕ) → Type 0
HasSome None = ⊤
HasSome (Some known) = known ≢ []

-- all files keep their bytes
abbrev pub KeepsAll : (files files' : List ℕ → Option (List ℕ)) → Type 0
KeepsAll files files' = (path : List ℕ) → Keeps (files path) (files' path)

-- all files keep their bytes but those to which a path may lead that leads to the file at this one
abbrev pub KeepsOthers : (apart : List ℕ → List ℕ → Type 0) → List ℕ → (files files' : List ℕ → Option (List ℕ)) → Type 0
KeepsOthers apart written files files' = (path : List ℕ) → apart written path → Keeps (files path) (files' path)
