-- What the data blocks of a change make of a log.
use Rattle.std.specs.Prelude.{◌≡◌, ℕ, ◌+◌, ◌<◌, ◌≤◌, ◌==◌, ◌&&◌, false, List, [], ◌∷◌, length, slice_get, None, Some, IsSome}
use Rattle.s4_types.specs.Pointer.{Place}
use Rattle.block_log.specs.Log.{Log, Stored, with_held, with_more, of_kind, same_kind}
use Rattle.block_log.specs.Taken.{TakesPlaces}
use Rattle.block_log.specs.declared.kinds.BlockKind.{BlockKind}
use Rattle.block_log.specs.declared.kinds.BlockKind.TheVariants.{Data}

-- a data block of an object
abbrev pub data_block : ℕ → List ℕ → Stored
data_block object bytes = record { kind = Data; object = object; bytes = bytes }

-- the log after a block of data took the first of these places; as it was where there is none
abbrev pub grown_at : Log → Stored → List Place → Log
grown_at log block [] = log
grown_at log block (p ∷ ahead) = record { held = with_held log.held p block; ahead = ahead; spent = 1 + log.spent; named = with_more log.named p }

-- the log after a block of data was appended
abbrev pub log_grown : Log → Stored → Log
log_grown log block = grown_at log block log.ahead

-- the log after data blocks of an object with these bytes were appended, one after the other
abbrev pub with_data : ℕ → List (List ℕ) → Log → Log
with_data object [] log = log
with_data object (bytes ∷ blocks) log = with_data object blocks (log_grown log (data_block object bytes))

-- What data blocks of an object with these bytes leave when they are appended: they took the first places ahead, where
-- no block was; all that was held is, and but for this object's data nothing came. Each of them is named once more, and all
-- other blocks as often as before.
pub record GrowsBy (object : ℕ) (blocks : List (List ℕ)) (before after : Log) : Type 0 where
  pub room : length blocks ≤ length before.ahead
  pub takes : TakesPlaces (length blocks) before after
  pub fresh : (n : ℕ) (p : Place) → n < length blocks → slice_get before.ahead n ≡ Some p → before.held p ≡ None
  pub taken : (n : ℕ) (p : Place) (bytes : List ℕ) → slice_get before.ahead n ≡ Some p → slice_get blocks n ≡ Some bytes → after.held p ≡ Some (data_block object bytes)
  pub kept : (p : Place) → IsSome (before.held p) → after.held p ≡ before.held p
  pub first_names : (p : Place) → before.held p ≡ None → IsSome (after.held p) → after.named p ≡ 1 + before.named p
  pub names_kept : (p : Place) → after.held p ≡ before.held p → after.named p ≡ before.named p
  pub others : (kind : BlockKind) (o : ℕ) (p : Place) → (same_kind kind Data && object == o) ≡ false → of_kind kind o after.held p ≡ of_kind kind o before.held p
