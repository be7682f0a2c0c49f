-- The used payload blocks of one frame, block 1 first.
use Rattle.std.specs.Prelude.{ℕ, ◌+◌, ◌-◌, ◌^◌, nat_lt, Bool, if◌then◌else◌, List, map, slice_index_or, slice_set, Option, Some, None}
use Rattle.block_log.specs.declared.kinds.BlockKind.TheVariants.{Data}
use Rattle.block_log.specs.Log.{same_kind}
use Rattle.codec.specs.declared.summaries.BlockRole.{BlockRole}
use Rattle.segment_table.specs.declared.slots.Slot.{Slot}

-- a used block is held where it is named
abbrev pub is_held : Slot → Bool
is_held slot = nat_lt 0 slot.named

-- what a used block is for, where it is held
abbrev pub held_role : Option Slot → Option BlockRole
held_role None = None
held_role (Some slot) = if is_held slot then Some slot.role else None

-- is where a block isn't used
abbrev pub no_slot : Slot
no_slot = record { role = record { kind = Data; object = 0 }; named = 0 }

-- how many places name a used block of data; of other blocks that is not counted, since one place alone ever names them
abbrev pub data_names : Slot → ℕ
data_names slot = if same_kind slot.role.kind Data then slot.named else 0

-- a used block that one place less names, where it is of data; of any other block no name is left
abbrev pub fewer_names : Slot → Slot
fewer_names slot = record slot { named = data_names slot - 1 }

-- this many places name the used block of that index
abbrev pub with_names : List Slot → ℕ → ℕ → List Slot
with_names slots i n = slice_set slots i (record (slice_index_or slots i no_slot) { named = n })

-- a number of names as 32 bits count it: one that is past the most that they can tell is told as that
abbrev pub capped : ℕ → ℕ
capped n = if nat_lt n (2 ^ 32) then n else 2 ^ 32 - 1

-- the used block of that index is held from now on: of data one place more names it, and any other is named by one
abbrev pub hold_on : List Slot → ℕ → List Slot
hold_on slots i = with_names slots i (capped (1 + data_names (slice_index_or slots i no_slot)))

-- one place more names the used block of that index
abbrev pub more_names : List Slot → ℕ → List Slot
more_names slots i = with_names slots i (1 + (slice_index_or slots i no_slot).named)

-- one place less names the used block of that index
abbrev pub let_go : List Slot → ℕ → List Slot
let_go slots i = slice_set slots i (fewer_names (slice_index_or slots i no_slot))

-- used blocks that are for these things, none of them held
abbrev pub unheld : List BlockRole → List Slot
unheld roles = map (λ role. record { role = role; named = 0 }) roles
