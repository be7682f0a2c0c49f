-- How many bytes the entries between two inodes have, from the numbers of their parts alone.
use Rattle.std.specs.Prelude.{ℕ, zero, suc, ◌+◌, ◌*◌, ◌-◌, min, List, [], ◌∷◌}
use Rattle.s4_types.specs.declared.limits.TheConstants.{ENTRY_TRIPLES, SHORTEST_ENTRY_BYTES, TRIPLE_BYTES}

-- the bytes of the entries of this many further pointers: this many entries at most
unfoldable pub later_sizes : ℕ → ℕ → List ℕ
later_sizes zero count = []
later_sizes (suc n) zero = []
later_sizes (suc n) (suc count) = (SHORTEST_ENTRY_BYTES + TRIPLE_BYTES * min ENTRY_TRIPLES (suc count)) ∷ later_sizes n (suc count - ENTRY_TRIPLES)

-- The bytes of each entry between two inodes of which this many pointers differ, with a pair of this many bytes.
unfoldable pub entry_sizes : ℕ → ℕ → List ℕ
entry_sizes count pair_bytes =
    (SHORTEST_ENTRY_BYTES + pair_bytes + TRIPLE_BYTES * min ENTRY_TRIPLES count) ∷ later_sizes (count - ENTRY_TRIPLES) (count - ENTRY_TRIPLES)
