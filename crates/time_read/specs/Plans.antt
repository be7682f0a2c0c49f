-- A plan of a read: where its bytes come from, block by block.
use Rattle.std.specs.Prelude.{◌≡◌, ℕ, ◌/◌, ◌%◌, ◌<◌, ◌==◌, Bool, true, false, if◌then◌else◌, List, [], ◌∷◌, map, slice_index, slice_index_or, Option, Some, None}
use Rattle.std.specs.List.{range_with_len}
use Rattle.s4_types.specs.Pointer.{Place}
use Rattle.codec.specs.Checkpoint.{pointer_at}
use Rattle.codec.specs.declared.inodes.Inode.{Inode}
use Rattle.codec.specs.Fields.{zeros}
use Rattle.inode.specs.Contents.{contents_of, listed}
use Rattle.inode.specs.Touched.{touched_count}
use Rattle.segment_word.specs.Frames.{is_open}
use Rattle.segment_word.specs.Frames.{Pinned as FramePin}
use Rattle.segment_word.specs.Handles.{Held}
use Rattle.segment_word.specs.Layout.{frame_at, block_bytes}
use Rattle.segment_word.specs.Counting.{pins_in}
use Rattle.segment_table.specs.Table.{Table, held_at}

-- Where the bytes of one block come from: from nowhere, since a hole has zeros; from a block of the open frame, which was copied
-- when the plan was made; or from a block of a sealed frame, both by number, which the plan's pin keeps as it is.
pub data Piece : Type 0 where
  Hole : Piece
  Copied : List ℕ → Piece
  Pinned : ℕ → ℕ → Piece

-- a plan: its pieces, where its bytes begin in the first of them, how many they are, and the pin that it has where a piece
-- needs one
pub record PlanFields : Type 0 where
  pub pieces : List Piece
  pub skip : ℕ
  pub length : ℕ
  pub pin : Option Held

-- the frames that a plan counts on
abbrev pub pins_held : Option Held → List FramePin
pins_held None = []
pins_held (Some pin) = pin.pins

-- the words that the pins have of a frame; none where no pin is of that frame
abbrev pub contents_pinned : ℕ → List FramePin → List ℕ
contents_pinned f [] = []
contents_pinned f (pin ∷ pins) = if pin.number == f then pin.contents else contents_pinned f pins

-- the bytes of a piece
abbrev pub piece_bytes : List FramePin → Piece → List ℕ
piece_bytes pins Hole = zeros 512
piece_bytes pins (Copied block) = block
piece_bytes pins (Pinned frame block) = block_bytes (contents_pinned frame pins) block

-- the byte at a place, counted from the first one of the first piece; a place after the pieces is in a hole
unfoldable pub byte_planned : PlanFields → ℕ → ℕ
byte_planned plan n = slice_index (piece_bytes (pins_held plan.pin) (slice_index_or plan.pieces (n / 512) Hole)) (n % 512)

-- the bytes that a plan names
abbrev pub bytes_planned : PlanFields → List ℕ
bytes_planned plan = listed (byte_planned plan) plan.skip plan.length

-- where the bytes of the block that a slot refers to come from: a block of the open frame is copied, one of any other frame is pinned
abbrev pub piece_of : Table → Option Place → Piece
piece_of t None = Hole
piece_of t (Some p) = if is_open (frame_at t.seat.frames p.frame).phase then Copied (contents_of (held_at t) p) else Pinned p.frame p.block

-- the pieces of this many bytes of an inode from an offset on: one for each block that has one of them, by ascending index
abbrev pub pieces_of : Table → Inode → ℕ → ℕ → List Piece
pieces_of t i offset count = map (λ k. piece_of t (pointer_at i k)) (range_with_len (offset / 512) (touched_count offset count))

-- whether a piece is a pinned block of this frame
abbrev pub is_pinned_in : ℕ → Piece → Bool
is_pinned_in f Hole = false
is_pinned_in f (Copied block) = false
is_pinned_in f (Pinned frame block) = frame == f

-- whether a piece is a pinned block
abbrev pub is_pinned : Piece → Bool
is_pinned Hole = false
is_pinned (Copied block) = false
is_pinned (Pinned frame block) = true

-- each pinned piece is a block of a frame that the plan counts on
abbrev pub AllCounted : List FramePin → List Piece → Type 0
AllCounted pins pieces = (k frame block : ℕ) → slice_index_or pieces k Hole ≡ Pinned frame block → (0 < pins_in frame pins) × (block < 16)

-- a plan's pin, where it has one, is at this table
abbrev pub IsAt : Table → Option Held → Type 0
IsAt t pin = (held : Held) → pin ≡ Some held → held.table ≡ t.seat.table
