-- The bytes that differ, before and after, as lines of hex.
use Rattle.std.specs.Prelude.{ℕ, ◌+◌, ◌-◌, ◌*◌, ◌++◌, List, length, take, drop, codes, decimal}
use Rattle.std.specs.List.{flat_map, range_with_len}
use Rattle.std.specs.Int.{div_ceil}
use Rattle.hex.specs.Hex.{encode_lower}
use Rattle.history_diff.specs.declared.ranges.ByteRange.{ByteRange}
use Rattle.history_diff.specs.declared.patches.Side.{Side}
use Rattle.history_diff.specs.declared.patches.Side.TheVariants.{Before, After}

-- the sign in front of old bytes, and of new ones
abbrev pub sign_text : Side → List ℕ
sign_text Before = codes "-"
sign_text After = codes "+"

-- the bytes that a list has in a range: fewer where it ends in it
abbrev pub bytes_in : ByteRange → List ℕ → List ℕ
bytes_in range bytes = take (range.last + 1 - range.first) (drop range.first bytes)

-- the bytes of the line with this index: 32, but on the last one
abbrev pub piece_at : List ℕ → ℕ → List ℕ
piece_at bytes index = take 32 (drop (32 * index) bytes)

-- the line of some bytes: whose they are, the position of the first, and the bytes in hex
abbrev pub piece_line : Side → ℕ → List ℕ → List ℕ
piece_line side position piece = sign_text side ++ (codes " " ++ (decimal position ++ (codes " " ++ (encode_lower piece ++ codes "\n"))))

-- the line with this index, of bytes that are from a position on
abbrev pub line_at : Side → ℕ → List ℕ → ℕ → List ℕ
line_at side first bytes index = piece_line side (first + 32 * index) (piece_at bytes index)

-- the lines of bytes that are from a position on
abbrev pub side_lines : Side → ℕ → List ℕ → List ℕ
side_lines side first bytes = flat_map (line_at side first bytes) (range_with_len 0 (div_ceil (length bytes) 32))

-- the lines of a range: of its old bytes, and then of its new ones
abbrev pub range_lines : List ℕ → List ℕ → ByteRange → List ℕ
range_lines before after range = side_lines Before range.first (bytes_in range before) ++ side_lines After range.first (bytes_in range after)

-- the lines of all ranges
abbrev pub patch_lines : List ℕ → List ℕ → List ByteRange → List ℕ
patch_lines before after ranges = flat_map (range_lines before after) ranges
