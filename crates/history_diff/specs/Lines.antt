-- The lines that people read.
use Rattle.std.specs.Prelude.{ℕ, ◌++◌, List, [], ◌∷◌, Option, Some, None, codes, decimal}
use Rattle.std.specs.List.{flat_map}
use Rattle.history_text.specs.Lines.{attributes_text, column}
use Rattle.history_diff.specs.declared.ranges.ByteRange.{ByteRange}
use Rattle.history_diff.specs.declared.differences.AttributePair.{AttributePair}
use Rattle.history_diff.specs.declared.differences.DifferenceKind.{DifferenceKind}
use Rattle.history_diff.specs.declared.differences.DifferenceKind.TheVariants.{Made, Deleted, Changed}
use Rattle.history_diff.specs.Differences.{Told}

-- what was done, in a column
abbrev pub kind_text : DifferenceKind → List ℕ
kind_text Made = codes "made   "
kind_text Deleted = codes "deleted"
kind_text Changed = codes "changed"

-- a range of positions, the last one included
abbrev pub range_text : ByteRange → List ℕ
range_text range = codes " " ++ (decimal range.first ++ (codes "-" ++ decimal range.last))

-- the ranges of the bytes that differ; nothing where none do
abbrev pub ranges_text : List ByteRange → List ℕ
ranges_text [] = []
ranges_text (range ∷ ranges) = codes "  bytes" ++ flat_map range_text (range ∷ ranges)

-- the attributes before and after; nothing where they are the same
abbrev pub pair_text : Option AttributePair → List ℕ
pair_text None = []
pair_text (Some pair) = attributes_text pair.before pair.after

-- the line of what differs of an object: its number, what was done, its sizes in bytes before and after, the ranges of bytes and the attributes
abbrev pub difference_line : ℕ → Told → List ℕ
difference_line o told =
    column 10 o ++ (codes "  " ++ (kind_text told.kind ++ (codes "  " ++ (column 6 told.size_before
    ++ (codes "  " ++ (column 6 told.size_after ++ (ranges_text told.ranges ++ (pair_text told.attributes ++ codes "\n"))))))))
