-- What holds of a pin between calls, and what reading adds. No public clause cites this file.
use Rattle.std.specs.Prelude.{◌≡◌, ℕ, ◌+◌, ◌-◌, ◌*◌, ◌<◌, List, ◌++◌, length, slice_index, take, drop}
use mathlib.Core.Option.{some}
use lib.ListN.{get_elem?}
use Rattle.atomic_table.specs.Seated.{TableId}
use Rattle.atomic_table.specs.declared.shared.Seat.{Seat}
use Rattle.segment_word.specs.Frames.{Pinned, View}
use Rattle.segment_word.specs.Layout.{block_bytes}
use Rattle.segment_word.specs.Counting.{numbers_of}
use Rattle.segment_word.specs.Handles.{IsPinSeat, AllInside}

-- The seat of a pin is at this table, and the numbers are those of the frames that it counts on, each of which has its
-- place in the table; its perch is one of this many.
abbrev pub IsSoundPin : TableId → Seat (Unit {0}) View → List ℕ → ℕ → ℕ → Type 0
IsSoundPin table seat numbers perch perches =
    (seat.table_id ≡ table) × IsPinSeat seat × (numbers ≡ numbers_of seat.me.0.pins) × AllInside seat.table_id seat.me.0.pins × (perch < perches)

-- Bytes grew by those of a block of these contents, from one place on and up to another.
abbrev pub GrowsByBlock : List ℕ → ℕ → ℕ → ℕ → List ℕ → List ℕ → Type 0
GrowsByBlock contents block from to old new = new ≡ old ++ take (to - from) (drop from (block_bytes contents block))

-- They did so as each of the pins that counts on the frame tells them.
abbrev pub GrowsByPinned : List Pinned → ℕ → ℕ → ℕ → ℕ → List ℕ → List ℕ → Type 0
GrowsByPinned pins frame block from to old new = (i : ℕ) (p : Pinned) → get_elem? pins i ≡ some p → p.number ≡ frame
    → GrowsByBlock p.contents block from to old new

-- Eight words are those of a block of these contents from that of an index on.
abbrev pub HasWords : List ℕ → ℕ → ℕ → List ℕ → Type 0
HasWords contents block index found = (length contents ≡ 1024) × ((k : ℕ) → k < 8 → slice_index found k ≡ slice_index contents (64 * block + index + k))
