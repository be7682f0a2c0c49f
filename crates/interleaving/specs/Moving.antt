-- What a move of an object's blocks out of a frame is of, and when it is out of date.
use Rattle.std.specs.Prelude.{◌≡◌, ℕ, Bool, false, [], MatchBool, MatchOption}
use Rattle.s4_types.specs.Pointer.{Place}
use Rattle.object_map.specs.Rows.{row_of}
use Rattle.segment_word.specs.Frames.{Sealed}
use Rattle.segment_word.specs.Layout.{frame_at}
use Rattle.segment_table.specs.Room.{pointers_in}
use Rattle.segment_table.specs.Table.{Table, held_at, is_of}
use Rattle.drive.specs.Fields.{DriveFields}

-- a move: the frame that is to be left, the object, the stamp of the object's row when the move was planned, and whether there
-- was nothing to move
pub record Move : Type 0 where
  pub frame : ℕ
  pub object : ℕ
  pub stamp : ℕ
  pub is_empty : Bool

-- what an actor has of a move: nothing, a plan of one, or one that was copied
pub data Moving : Type 0 where
  Still : Moving
  Planned : Move → Moving
  Copied : Move → Moving

-- A move isn't out of date: its object has a row, of the stamp that it had when the move was planned; and where there is something to
-- move, its frame is sealed.
pub record IsCurrent (d : DriveFields) (m : Move) : Type 0 where
  pub row : MatchOption (row_of d.store.rows m.object) ⊥ (λ row. row.stamp ≡ m.stamp)
  pub frame : m.is_empty ≡ false → (frame_at d.store.table.seat.frames m.frame).phase ≡ Sealed

-- A move of an object out of a frame, as it is planned: the object has a row, and there is nothing to move exactly where the
-- frame isn't sealed, or isn't there, or has no held block of the object.
pub record IsMoveOf (d : DriveFields) (f o : ℕ) (m : Move) : Type 0 where
  pub frame : m.frame ≡ f
  pub object : m.object ≡ o
  pub current : IsCurrent d m
  pub empty : MatchBool m.is_empty (pointers_in d.store.table o f ≡ []) (pointers_in d.store.table o f ≡ [] → ⊥)

-- an object holds no block in a frame
abbrev pub HoldsNone : Table → ℕ → ℕ → Type 0
HoldsNone t object frame = (p : Place) → p.frame ≡ frame → is_of object (held_at t p) ≡ false
