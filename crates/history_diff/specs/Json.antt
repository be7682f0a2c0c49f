-- The lines that programs read: one JSON object a line.
use Rattle.std.specs.Prelude.{ℕ, if◌then◌else◌, Bool, true, false, List, map, Option, Some, None, codes}
use Rattle.hex.specs.Hex.{encode_lower}
use Rattle.serde_json.specs.Data.{Data, null, number, unsigned, string, array, object, Members, member, no_members}
use Rattle.serde_json.specs.View.{items_of}
use Rattle.history_text.specs.Json.{side_data}
use Rattle.history_diff.specs.declared.ranges.ByteRange.{ByteRange}
use Rattle.history_diff.specs.declared.differences.DifferenceKind.{DifferenceKind}
use Rattle.history_diff.specs.declared.differences.DifferenceKind.TheVariants.{Made, Deleted, Changed}
use Rattle.history_diff.specs.declared.texts.Detail.{Detail}
use Rattle.history_diff.specs.declared.texts.Detail.TheVariants.{Ranges, Bytes, Lines}
use Rattle.history_diff.specs.Differences.{Told}
use Rattle.history_diff.specs.Patches.{bytes_in}

-- the word for what was done
abbrev pub kind_word : DifferenceKind → List ℕ
kind_word Made = codes "made"
kind_word Deleted = codes "deleted"
kind_word Changed = codes "changed"

-- a range: its first and its last position
abbrev pub place_data : ByteRange → Data
place_data range =
    object (member (codes "first") (number (unsigned range.first))
    (member (codes "last") (number (unsigned range.last)) no_members))

-- the same with its bytes after and before in hex
abbrev pub patch_data : List ℕ → List ℕ → ByteRange → Data
patch_data before after range =
    object (member (codes "after") (string (encode_lower (bytes_in range after)))
    (member (codes "before") (string (encode_lower (bytes_in range before)))
    (member (codes "first") (number (unsigned range.first))
    (member (codes "last") (number (unsigned range.last)) no_members))))

-- whether the bytes of the ranges are asked for
abbrev pub has_bytes : Detail → Bool
has_bytes Ranges = false
has_bytes Bytes = true
has_bytes Lines = false

abbrev pub range_data : Bool → List ℕ → List ℕ → ByteRange → Data
range_data patch before after range = if patch then patch_data before after range else place_data range

-- the ranges, in order
abbrev pub ranges_data : Bool → List ℕ → List ℕ → List ByteRange → Data
ranges_data patch before after ranges = array (items_of (map (range_data patch before after) ranges))

-- the unified difference; null where a version isn't text
abbrev pub text_data : Option (List ℕ) → Data
text_data None = null
text_data (Some text) = string text

-- the last member, where lines are asked for
abbrev pub text_members : Detail → Option (List ℕ) → Members
text_members Ranges text = no_members
text_members Bytes text = no_members
text_members Lines text = member (codes "text") (text_data text) no_members

-- what differs of an object: the attributes after and before, what was done, the object, its ranges, the sizes in bytes after and before, and the last member
abbrev pub difference_members : ℕ → Data → Members → Told → Members
difference_members o ranges rest told =
    member (codes "attribute_after") (side_data (λ p. p.after) told.attributes)
    (member (codes "attribute_before") (side_data (λ p. p.before) told.attributes)
    (member (codes "kind") (string (kind_word told.kind))
    (member (codes "object") (number (unsigned o))
    (member (codes "ranges") ranges
    (member (codes "size_after") (number (unsigned told.size_after))
    (member (codes "size_before") (number (unsigned told.size_before)) rest))))))

abbrev pub difference_data : ℕ → Data → Members → Told → Data
difference_data o ranges rest told = object (difference_members o ranges rest told)
