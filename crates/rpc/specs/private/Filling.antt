-- How far the held bytes are filled from a piece: to the end of their frame, and no further.
use Rattle.std.specs.Prelude.{◌≡◌, ℕ, ◌+◌, ◌≤◌, ◌⊎◌, List, [], ◌++◌, length, nat_lt, if◌then◌else◌, vec_capacity}
use Rattle.s4_types.specs.declared.limits.TheConstants.{FRAME_BODY_BYTES}
use Rattle.std.specs.Global.{Vec}
use Rattle.rpc.specs.Stream.{length_told, IsPartial}

-- the length that the held bytes shall get: that of the four bytes, or of the whole frame where they are there
unfoldable pub wanted : List ℕ → ℕ
wanted held = if nat_lt (length held) 4 then 4 else (if nat_lt FRAME_BODY_BYTES (length_told held) then 4 else 4 + length_told held)

-- room for the longest frame
abbrev pub HasFrameRoom : Vec ℕ → Type 0
HasFrameRoom held = 4 + FRAME_BODY_BYTES ≤ vec_capacity held

-- The held bytes have grown by the front of the piece and the rest of it is left: nothing, or they have got
-- the length that was wanted.
pub record IsFilled (old new piece left : List ℕ) : Type 0 where
  pub taken : List ℕ
  pub grown : new ≡ old ++ taken
  pub parts : piece ≡ taken ++ left
  pub at_most : length new ≤ wanted old
  pub ended : (left ≡ []) ⊎ (length new ≡ wanted old)

-- The held bytes have grown by the front of the piece and the rest of it is left. They are at most one frame,
-- and bytes are left only after a whole frame or an oversized length.
pub record IsToppedUp (old new piece left : List ℕ) : Type 0 where
  pub taken : List ℕ
  pub grown : new ≡ old ++ taken
  pub parts : piece ≡ taken ++ left
  pub at_most : 4 ≤ length new → length_told new ≤ FRAME_BODY_BYTES → length new ≤ 4 + length_told new
  pub ended : IsPartial new → left ≡ []

-- bytes may come after the old ones
pub record IsGrown (old new : List ℕ) : Type 0 where
  pub taken : List ℕ
  pub grown : new ≡ old ++ taken
