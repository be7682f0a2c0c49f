-- What is read of a row's journal chain in an image, and when the chain is by itself: before any inode is made of it.
use Rattle.std.specs.Prelude.{◌≡◌, ℕ, ◌≤◌, nat_lt, if◌then◌else◌, true, List, [], Option, None, IsSome, unwrap_or}
use Rattle.std.specs.List.{AllByRecursion}
use Rattle.s4_types.specs.declared.limits.TheConstants.{CHAIN_ENTRY_BYTES}
use Rattle.s4_types.specs.Pointer.{Place}
use Rattle.block_log.specs.Log.{Stored, of_kind}
use Rattle.block_log.specs.declared.kinds.BlockKind.TheVariants.{Journal}
use Rattle.codec.specs.Entry.{EntryFields, entries_length}
use Rattle.undo_redo.specs.Groups.{grouped}
use Rattle.journal_chain.specs.Packing.{KeepsTheRule, packed, filled_bytes}
use Rattle.journal_chain.specs.Chain.{BlockView, ChainFields, chain_links, chain_places, chain_blocks, chain_entries, times}
use Rattle.time_read.specs.Orderly.{IsFromTo}
use Rattle.image_objects.specs.declared.rows.ImageRow.{ImageRow}

-- the entries of each block of a row's chain, the newest block first; none where no chain is found from the head on
abbrev pub blocks_used : (Place → Option Stored) → ImageRow → List (List EntryFields)
blocks_used used row = unwrap_or (chain_blocks (of_kind Journal row.object used) row.object row.head) []

-- the entries of a row's chain, the oldest first; none where no chain is found from the head on
abbrev pub entries_used : (Place → Option Stored) → ImageRow → List EntryFields
entries_used used row = unwrap_or (chain_entries used row.object row.head) []

-- A row's chain is in an image up to its clock. From the head on each pointer names a used journal block of the object
-- that encodes one, up to a hole that comes after at most CHAIN_BLOCKS blocks. The blocks keep the rule of packing, and their entries
-- have no more bytes than a chain's may. Each entry is of a moment from the object's making to the clock. Moments don't
-- descend, and entries of one moment are one change's.
pub record ChainStands (used : Place → Option Stored) (row : ImageRow) (clock : ℕ) : Type 0 where
  pub walk : IsSome (chain_links (of_kind Journal row.object used) row.object row.head)
  pub packing : KeepsTheRule (blocks_used used row)
  pub limit : entries_length (entries_used used row) ≤ CHAIN_ENTRY_BYTES
  pub moments : AllByRecursion (λ e. IsFromTo row.created clock e.moment) (entries_used used row)
  pub groups : grouped (entries_used used row) ≡ true

-- What a row keeps of its chain: the two counts of bytes are those of all entries, and of the newest block's.
abbrev pub chain_fields : (Place → Option Stored) → ImageRow → ChainFields
chain_fields used row =
    record {
      object = row.object;
      head = row.head;
      bytes = entries_length (entries_used used row);
      filled = filled_bytes (packed (entries_used used row));
    }

-- of an object's used journal blocks, those of its row's chain alone
abbrev pub chain_view : (Place → Option Stored) → ImageRow → BlockView
chain_view used row =
    λ p. if nat_lt 0 (times p (chain_places (of_kind Journal row.object used) row.object row.head)) then of_kind Journal row.object used p else None
