-- What differs between the versions of images, by the version.
use Rattle.std.specs.Prelude.{ℕ}
use Rattle.s4_types.specs.declared.limits.TheConstants.{TRIPLE_BYTES, CHANGE_ENTRIES, CHAIN_ENTRY_BYTES, CHAIN_BLOCKS, FEWEST_FRAMES}
use Rattle.codec.specs.declared.versions.ImageVersion.{ImageVersion}
use Rattle.codec.specs.declared.versions.ImageVersion.TheVariants.{First, Second}
use Rattle.codec.specs.declared.versions.TheConstants.{FIRST_TRIPLE_BYTES, FIRST_CHANGE_ENTRIES, FIRST_CHAIN_ENTRY_BYTES, FIRST_CHAIN_BLOCKS, FIRST_FEWEST_FRAMES}

-- the bytes of a pointer change in an entry
abbrev pub triple_bytes_by : ImageVersion → ℕ
triple_bytes_by First = FIRST_TRIPLE_BYTES
triple_bytes_by Second = TRIPLE_BYTES

-- the index of a pointer is below this number
abbrev pub index_limit_by : ImageVersion → ℕ
index_limit_by First = 256
index_limit_by Second = 65536

-- the entries of one change at most
abbrev pub change_entries_by : ImageVersion → ℕ
change_entries_by First = FIRST_CHANGE_ENTRIES
change_entries_by Second = CHANGE_ENTRIES

-- the bytes of all entries of a chain at most
abbrev pub chain_entry_bytes_by : ImageVersion → ℕ
chain_entry_bytes_by First = FIRST_CHAIN_ENTRY_BYTES
chain_entry_bytes_by Second = CHAIN_ENTRY_BYTES

-- the journal blocks of a chain at most
abbrev pub chain_blocks_by : ImageVersion → ℕ
chain_blocks_by First = FIRST_CHAIN_BLOCKS
chain_blocks_by Second = CHAIN_BLOCKS

-- the frames of the smallest drive
abbrev pub fewest_frames_by : ImageVersion → ℕ
fewest_frames_by First = FIRST_FEWEST_FRAMES
fewest_frames_by Second = FEWEST_FRAMES
