-- The manifest of a salvage: one JSON object a line for each object that was given out, with a row or without, and for each frame and object
-- that is lost.
use Rattle.std.specs.Prelude.{ℕ, ◌++◌, Bool, List, codes, decimal}
use Rattle.serde_json.specs.Data.{Data, boolean, number, unsigned, object, member, no_members, put}
use Rattle.history_view.specs.declared.listing.Listed.{Listed}
use Rattle.history_text.specs.Json.{json_line}
use Rattle.history_export.specs.Manifest.{file_members, object_members}

-- the line of an object of these bytes: what the manifest of an export says of it, and how many of its blocks are gone
abbrev pub salvaged_line : Listed → List ℕ → ℕ → List ℕ
salvaged_line row content gone = json_line (object (put (codes "blocks_gone") (number (unsigned gone)) (object_members row content)))

-- the name of the file of an object that no row gives, in a folder of such files
abbrev pub unlisted_name : ℕ → List ℕ
unlisted_name o = codes "unlisted/object-" ++ decimal o

-- an object that no row gives, of these bytes: the same, and whether a newer change of it was left out
abbrev pub unlisted_data : Listed → List ℕ → ℕ → Bool → Data
unlisted_data row content gone left_out =
    object (put (codes "left_out") (boolean left_out)
    (put (codes "blocks_gone") (number (unsigned gone))
    (put (codes "unlisted_object") (number (unsigned row.object)) (file_members (unlisted_name row.object) row content))))

-- its line
abbrev pub unlisted_line : Listed → List ℕ → ℕ → Bool → List ℕ
unlisted_line row content gone left_out = json_line (unlisted_data row content gone left_out)

-- a frame that is lost: its number
abbrev pub lost_frame_data : ℕ → Data
lost_frame_data frame = object (member (codes "lost_frame") (number (unsigned frame)) no_members)

-- its line
abbrev pub lost_frame_line : ℕ → List ℕ
lost_frame_line frame = json_line (lost_frame_data frame)

-- an object that is lost: the number that its row has
abbrev pub lost_object_data : ℕ → Data
lost_object_data o = object (member (codes "lost_object") (number (unsigned o)) no_members)

-- its line
abbrev pub lost_object_line : ℕ → List ℕ
lost_object_line o = json_line (lost_object_data o)
