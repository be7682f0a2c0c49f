-- Journal blocks by sizes alone: what fits, and how many blocks a push appends. All sizes are in bytes.
use Rattle.std.specs.Prelude.{ℕ, ◌+◌, Bool, nat_le, if◌then◌else◌, List, [], ◌∷◌, fold}
use Rattle.s4_types.specs.declared.limits.TheConstants.{JOURNAL_ENTRY_BYTES}

-- whether an entry of a size fits a block after entries that have `filled` bytes
abbrev pub fits : ℕ → ℕ → Bool
fits filled size = nat_le (filled + size) JOURNAL_ENTRY_BYTES

-- The bytes of entries in the newest block after one more entry: that entry is after the others if it fits, and
-- alone in a new block if it doesn't. With no block `filled` is 0.
abbrev pub filled_with : ℕ → ℕ → ℕ
filled_with filled size = if fits filled size then filled + size else size

-- the same after several more entries
abbrev pub filled_after : ℕ → List ℕ → ℕ
filled_after filled sizes = fold filled_with filled sizes

-- how many of the entries begin a block because they don't fit the one before
abbrev pub breaks : ℕ → List ℕ → ℕ
breaks filled [] = 0
breaks filled (size ∷ sizes) = (if fits filled size then 0 else 1) + breaks (filled_with filled size) sizes

-- How many blocks a push appends: one for its first entry, be it the head with the entry after its others or a new
-- block, and one for each later entry that doesn't fit the block before. A block is appended once, with all of the
-- push's entries that it takes.
abbrev pub blocks_needed : ℕ → List ℕ → ℕ
blocks_needed filled [] = 0
blocks_needed filled (size ∷ sizes) = 1 + breaks (filled_with filled size) sizes
