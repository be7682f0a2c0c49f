-- Which frames are freed.
use Rattle.std.specs.Prelude.{◌≡◌, ℕ, ◌+◌, ◌*◌, ◌^◌, ◌<◌, ◌≤◌, ◌==◌, nat_lt, min, Bool, true, ◌&&◌, not, if◌then◌else◌, unwrap_or, List, length, Option, Some, None}
use Rattle.std.specs.List.{list_all}
use Rattle.s4_types.specs.declared.limits.TheConstants.{MOVE_BLOCKS, PAYLOAD_BLOCKS}
use Rattle.block_log.specs.Log.{Stored, same_kind}
use Rattle.block_log.specs.declared.kinds.BlockKind.TheVariants.{Data}
use Rattle.object_map.specs.declared.map.Row.{Row}
use Rattle.object_map.specs.Objects.{value_of}
use Rattle.object_map.specs.Rows.{row_of}
use Rattle.row_changes.specs.Moving.{row_blocks}
use Rattle.segment_word.specs.Frames.{Sealed, is_sealed}
use Rattle.segment_word.specs.Layout.{frame_at}
use Rattle.segment_table.specs.Table.{Table, held_at}
use Rattle.segment_table.specs.Room.{whole_of, sum_over}
use Rattle.segment_table.specs.Counts.{held_count}
use Rattle.version_store.specs.Store.{StoreFields}
use Rattle.drive.specs.Fields.{DriveFields}
use Rattle.segment_copier.specs.Choosing.{IsLife}
use Rattle.segment_copier.specs.Counting.{is_among, objects_in, blocks_to_empty}
use Rattle.segment_copier.specs.Gathering.{free_count}

-- ---- what is written of an object, whatever frame it leaves

-- how many blocks the checkpoint and the journal of an object of this row are, once they are written anew
abbrev pub blocks_of_row : StoreFields → ℕ → Option Row → ℕ
blocks_of_row s o None = 0
blocks_of_row s o (Some row) = row_blocks s.log.held o row

abbrev pub blocks_rewritten : StoreFields → ℕ → ℕ
blocks_rewritten s o = blocks_of_row s o (row_of s.rows o)

-- what a list has of an object; 0 where it has nothing
abbrev pub count_in : List (ℕ × ℕ) → ℕ → ℕ
count_in counts o = unwrap_or (value_of counts o) 0

-- these are the counts of all objects
abbrev pub AreCounts : StoreFields → List (ℕ × ℕ) → Type 0
AreCounts s counts = (o : ℕ) → count_in counts o ≡ blocks_rewritten s o

-- ---- what emptying a frame writes

-- what is written of an object, by these counts: no more than a move has at most
abbrev pub written_by : List (ℕ × ℕ) → ℕ → ℕ
written_by counts o = min MOVE_BLOCKS (count_in counts o)

-- how many blocks the moves of all objects out of a frame write
abbrev pub blocks_by : List (ℕ × ℕ) → Table → ℕ → ℕ
blocks_by counts t f = blocks_to_empty (written_by counts) t f

-- ---- which frames that empties

-- Whether moves of these objects take what is held at a place, whichever frame they leave: a journal block or a checkpoint of one of
-- them, since a move writes an object's whole journal and its checkpoint anew; or nothing.
abbrev pub is_taken : List ℕ → Option Stored → Bool
is_taken objects None = true
is_taken objects (Some block) = not (same_kind Data block.kind) && is_among block.object objects

-- whether pointers can have a generation
abbrev pub is_life : ℕ → Bool
is_life g = nat_lt 0 g && nat_lt (g + 1) (2 ^ 32)

-- whether moves of these objects take all that frame g holds, whichever frame they leave
abbrev pub are_all_taken : Table → List ℕ → ℕ → Bool
are_all_taken t objects g = is_life (frame_at t.seat.frames g).generation && list_all (λ p. is_taken objects (held_at t p)) (whole_of t g)

-- whether frame g holds nothing any more, and can be freed, once these objects left frame f
abbrev pub is_emptied : Table → List ℕ → ℕ → ℕ → Bool
is_emptied t objects f g = if g == f then true else (is_sealed (frame_at t.seat.frames g).phase && are_all_taken t objects g)

-- how many frames hold nothing then, frame f among them
abbrev pub frames_emptied : Table → List ℕ → ℕ → ℕ
frames_emptied t objects f = sum_over (λ g. if is_emptied t objects f g then 1 else 0) 0 (length t.seat.frames)

-- ---- at a gain

-- A frame can be freed at a gain: it is sealed and holds something, the moves out of it write fewer blocks than the frames have that
-- they empty, and no more than the free frames have.
pub record CanBeFreed (counts : List (ℕ × ℕ)) (d : DriveFields) (f : ℕ) : Type 0 where
  pub sealed : (frame_at d.store.table.seat.frames f).phase ≡ Sealed
  pub life : IsLife (frame_at d.store.table.seat.frames f).generation
  pub some : 1 ≤ held_count d.store.table f
  pub few : blocks_by counts d.store.table f < PAYLOAD_BLOCKS * frames_emptied d.store.table (objects_in d.store.table f) f
  pub free : blocks_by counts d.store.table f ≤ PAYLOAD_BLOCKS * free_count d.store.table

abbrev pub NoneCanBeFreed : List (ℕ × ℕ) → DriveFields → Type 0
NoneCanBeFreed counts d = (f : ℕ) → CanBeFreed counts d f → ⊥
