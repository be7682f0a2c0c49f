-- What a stream of bytes says: frames, one after the other, each with an item, and then an end.
use Rattle.std.specs.Prelude.{◌≡◌, ℕ, ◌+◌, ◌<◌, ◌≤◌, ◌⊎◌, List, [], ◌∷◌, ◌++◌, length, take, Option, Some, None}
use Rattle.std.specs.Int.{w32, to_be_bytes, from_be_bytes}
use Rattle.s4_types.specs.declared.limits.TheConstants.{FRAME_BODY_BYTES}
use Rattle.rpc.specs.declared.items.Item.{Item}
use Rattle.rpc.specs.declared.items.Item.TheVariants.{Whole, BadFrame}

-- a frame: the length of its body in four bytes, and the body
abbrev pub frame : List ℕ → List ℕ
frame body = to_be_bytes w32 (length body) ++ body

-- the length of the body that the first four bytes tell
abbrev pub length_told : List ℕ → ℕ
length_told bytes = from_be_bytes w32 (take 4 bytes)

-- less than a whole frame, which may become one: no whole length yet, or a length in range and too few bytes
abbrev pub IsPartial : List ℕ → Type 0
IsPartial bytes = 4 ≤ length bytes → (length_told bytes ≤ FRAME_BODY_BYTES) × (length bytes < 4 + length_told bytes)

-- a length that no frame has
pub record IsOversized (bytes : List ℕ) : Type 0 where
  pub told : 4 ≤ length bytes
  pub above : FRAME_BODY_BYTES < length_told bytes

-- the bytes begin with the frame of this body, and go on with the rest
pub record BeginsWithFrame (bytes body rest : List ℕ) : Type 0 where
  pub whole : bytes ≡ frame body ++ rest
  pub size : length body ≤ FRAME_BODY_BYTES

-- What a body says: the value that it encodes, or a bad frame where it encodes none. The empty body encodes none.
abbrev pub IsItem : {T : Type 0} → (List ℕ → T → Type 0) → List ℕ → Item T → Type 0
IsItem spells body (Whole value) = spells body value
IsItem {T} spells body BadFrame = (value : T) → spells body value → ⊥

-- The stream is read as these items. At the end are bytes that are less than a whole frame, or none: an
-- oversized length has come, which is a bad frame and the last item, whatever follows it.
abbrev pub ReadsItems : {T : Type 0} → (List ℕ → T → Type 0) → List ℕ → List (Item T) → Option (List ℕ) → Type 0
ReadsItems spells stream [] (Some rest) = (stream ≡ rest) × IsPartial rest
ReadsItems spells stream [] None = ⊥
ReadsItems spells stream (item ∷ items) end =
    ((body : List ℕ) × (rest : List ℕ) × BeginsWithFrame stream body rest × IsItem spells body item × ReadsItems spells rest items end)
    ⊎ (IsOversized stream × (item ≡ BadFrame) × (items ≡ []) × (end ≡ None))

-- from this many items on, the bytes were read after these, and this is left
abbrev pub AddsItems : {T : Type 0} → (List ℕ → T → Type 0) → List ℕ → List (Item T) → List (Item T) → Option (List ℕ) → Type 0
AddsItems {T} spells bytes old new end = (more : List (Item T)) × (new ≡ old ++ more) × ReadsItems spells bytes more end

-- the frame at the front of the bytes was read as one item after the old ones, and the rest is after it
pub record AddsOne {T : Type 0} (spells : List ℕ → T → Type 0) (bytes : List ℕ) (old new : List (Item T)) (rest : List ℕ) : Type 0 where
  pub body : List ℕ
  pub item : Item T
  pub begins : BeginsWithFrame bytes body rest
  pub is : IsItem spells body item
  pub added : new ≡ old ++ item ∷ []
