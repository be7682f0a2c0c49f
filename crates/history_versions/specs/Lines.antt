-- The line of an object with its versions.
use Rattle.std.specs.Prelude.{ℕ, ◌-◌, ◌++◌, nat_le, if◌then◌else◌, Bool, List, [], ◌∷◌, length, take, Option, Some, None, codes}
use Rattle.serde_json.specs.Written.{compact_text}
use Rattle.s4_types.specs.declared.versions.Version.{Version}
use Rattle.s4_types.specs.declared.versions.Version.TheVariants.{Absent, Live}
use Rattle.s4_model.specs.State.{State}
use Rattle.s4_model.specs.VersionAt.{version_of}
use Rattle.version_store.specs.Store.{StoreFields}
use Rattle.moment_words.specs.declared.printing.MomentStyle.{MomentStyle}
use Rattle.history_view.specs.declared.listing.Listed.{Listed}
use Rattle.history_text.specs.Json.{json_line, listed_data}
use Rattle.history_export.specs.Versions.{beginnings_of}
use Rattle.history_versions.specs.Json.{version_data}
use Rattle.history_versions.specs.declared.json.VersionNumbers.{VersionNumbers}
use Rattle.history_versions.specs.declared.lines.VersionsAsked.{VersionsAsked}

-- all that a version has, where contents are asked for
abbrev pub contents_asked : Bool → List ℕ → Option (List ℕ)
contents_asked asked content = if asked then Some content else None

-- the numbers of a version that can be read first at a moment, by what is listed of its object then
abbrev pub numbers_of : ℕ → Listed → VersionNumbers
numbers_of t row = record { moment = t; changed = row.changed; size = row.size }

-- the text of a version that can be read first at a moment; none where the object isn't there then
abbrev pub version_text : MomentStyle → Bool → ℕ → Version → Option (List ℕ)
version_text style contents t Absent = None
version_text style contents t (Live content attribute created changed) =
    Some (compact_text (version_data style (record { moment = t; changed = changed; size = length content }) attribute (contents_asked contents content)))

-- what is printed of an object for a moment at which a version of it can be read first: nothing where that is later than those asked for
abbrev pub piece_at : State → VersionsAsked → ℕ → ℕ → Option (List ℕ)
piece_at s asked o t = if nat_le t asked.until then version_text asked.style asked.contents t (version_of s o t) else None

-- a piece after what separates it from the one before
abbrev pub separated : List ℕ → Option (List ℕ) → List ℕ
separated before None = []
separated before (Some text) = before ++ text

-- what separates the next piece: a comma, once there was one
abbrev pub separator : List ℕ → Option (List ℕ) → List ℕ
separator before None = before
separator before (Some text) = codes ","

-- the pieces for these moments, with a comma between each two
abbrev pub joined : (ℕ → Option (List ℕ)) → List ℕ → List ℕ → List ℕ
joined piece before [] = []
joined piece before (t ∷ moments) = separated before (piece t) ++ joined piece (separator before (piece t)) moments

-- the versions of an object up to a moment, the oldest first: each that can be read, once, at the first moment at which it can be
abbrev pub versions_text : State → StoreFields → VersionsAsked → ℕ → List ℕ
versions_text s store asked o = joined (piece_at s asked o) [] (beginnings_of s store o)

-- a line without its end, which is a closing brace and a line feed
abbrev pub opened : List ℕ → List ℕ
opened line = take (length line - 2) line

-- the line of an object with its versions: what a list has of it, and one member more
abbrev pub line_with_versions : State → StoreFields → VersionsAsked → Listed → List ℕ
line_with_versions s store asked row =
    opened (json_line (listed_data asked.style row)) ++ (codes ",\"versions\":[" ++ (versions_text s store asked row.object ++ codes "]}\n"))
