-- The manifest of an export: one JSON object a line for each object of the drive.
use Rattle.std.specs.Prelude.{ℕ, ◌++◌, List, length, codes, decimal}
use Rattle.hex.specs.Hex.{encode_lower}
use Rattle.sha2.specs.Sha256.{sha256}
use Rattle.serde_json.specs.Data.{number, unsigned, string, object, Members, member, no_members, put}
use Rattle.history_view.specs.declared.listing.Listed.{Listed}
use Rattle.history_text.specs.Json.{json_line, text_data}

-- the name of the manifest
abbrev pub manifest_name : List ℕ
manifest_name = codes "manifest.jsonl"

-- the name of an object's file
abbrev pub file_name : ℕ → List ℕ
file_name o = codes "object-" ++ decimal o

-- A file of this name with an object's bytes: the attribute in hex, and as text where it is text; the moments, the file, the SHA-256 of its
-- bytes in hex, and how many they are.
abbrev pub file_members : List ℕ → Listed → List ℕ → Members
file_members file row content =
    member (codes "attribute") (string (encode_lower row.attribute))
    (member (codes "attribute_text") (text_data row.attribute)
    (member (codes "changed") (number (unsigned row.changed))
    (member (codes "created") (number (unsigned row.created))
    (member (codes "file") (string file)
    (member (codes "sha256") (string (encode_lower (sha256 content)))
    (member (codes "size") (number (unsigned (length content))) no_members))))))

-- an object's file, and its number
abbrev pub object_members : Listed → List ℕ → Members
object_members row content = put (codes "object") (number (unsigned row.object)) (file_members (file_name row.object) row content)

-- the line of an object of these bytes
abbrev pub manifest_line : Listed → List ℕ → List ℕ
manifest_line row content = json_line (object (object_members row content))
