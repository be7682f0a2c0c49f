-- The objects of all rows of an image of an earlier version, copied into a log one after the other.
use Rattle.std.specs.Prelude.{◌≡◌, ℕ, ◌+◌, ◌<◌, List, [], ◌∷◌, Option}
use Rattle.s4_types.specs.Pointer.{Place}
use Rattle.block_log.specs.Log.{Log, Stored}
use Rattle.codec.specs.declared.versions.ImageVersion.{ImageVersion}
use Rattle.object_map.specs.declared.map.Row.{Row}
use Rattle.image_objects.specs.declared.rows.ImageRow.{ImageRow}
use Rattle.image_objects.specs.Versions.{entries_used_by}
use Rattle.image_objects.specs.Writing.{inode_kept_in}
use Rattle.migration.specs.Copied.{CopiesRow, object_blocks}

-- the objects of rows ascend strictly, from above a number
abbrev pub AscendAbove : ℕ → List ImageRow → Type 0
AscendAbove low [] = Unit {0}
AscendAbove low (row ∷ rows) = (low < row.object) × AscendAbove row.object rows

-- how many blocks the object of a row still has: its data, its checkpoint, and its journal as it is written now
abbrev pub blocks_of : ImageVersion → (Place → Option Stored) → ImageRow → ℕ
blocks_of version used row = object_blocks (inode_kept_in used row) (entries_used_by version used row)

-- the same of all rows together
abbrev pub blocks_of_rows : ImageVersion → (Place → Option Stored) → List ImageRow → ℕ
blocks_of_rows version used [] = 0
blocks_of_rows version used (row ∷ rows) = blocks_of version used row + blocks_of_rows version used rows

-- the object of a row was copied, as the image has it
abbrev pub CopiesObject : ImageVersion → (Place → Option Stored) → ImageRow → Log → Log → Row → Type 0
CopiesObject version used row before after later = CopiesRow used row (inode_kept_in used row) (entries_used_by version used row) before after later

-- The objects of these rows were copied one after the other, and these are their rows then.
abbrev pub CopyRows : ImageVersion → (Place → Option Stored) → List ImageRow → List Row → Log → Log → Type 0
CopyRows version used [] [] before after = before ≡ after
CopyRows version used [] (later ∷ laters) before after = ⊥
CopyRows version used (row ∷ rows) [] before after = ⊥
CopyRows version used (row ∷ rows) (later ∷ laters) before after = (between : Log) × CopiesObject version used row before between later × CopyRows version used rows laters between after
