-- What putting a copied move in place comes to.
use Rattle.std.specs.Prelude.{◌≡◌, ℕ, ◌+◌, ◌<◌, ◌≤◌, false, List, [], length, map, Result, Err, IfSome, OnOk}
use Rattle.s4_types.specs.Pointer.{Place}
use Rattle.s4_types.specs.declared.refusals.Refusal.{Refusal}
use Rattle.s4_types.specs.declared.refusals.Refusal.TheVariants.{NoRoom}
use Rattle.object_map.specs.declared.map.Row.{Row}
use Rattle.object_map.specs.Rows.{row_of}
use Rattle.row_changes.specs.Moving.{row_blocks}
use Rattle.segment_word.specs.Frames.{Sealed}
use Rattle.segment_word.specs.Layout.{frame_at, block_bytes}
use Rattle.segment_table.specs.Table.{Table}
use Rattle.segment_table.specs.Room.{pointers_in}
use Rattle.version_store.specs.declared.copies.CopiedBlock.{CopiedBlock}
use Rattle.version_store.specs.Relocating.{AreCopies, IsRelocated}
use Rattle.version_store.specs.Versions.{version_in}
use Rattle.drive.specs.Fields.{DriveFields, store_of}
use Rattle.interleaving.specs.Moving.{Move}
use Rattle.segment_copier.specs.Moves.{data_in}

-- A frame is sealed still, an object holds something there, and these copies are of its data blocks there.
pub record AreStillThere (t : Table) (f o : ℕ) (copies : List CopiedBlock) : Type 0 where
  pub sealed : (frame_at t.seat.frames f).phase ≡ Sealed
  pub some : pointers_in t o f ≡ [] → ⊥
  pub places : map (λ c. c.place) copies ≡ data_in t o f

-- a copy of the block at a place, with the bytes that its frame has there
abbrev pub copy_at : Table → Place → CopiedBlock
copy_at t p = record { place = p; bytes = block_bytes (frame_at t.seat.frames p.frame).contents p.block }

-- copies of the data blocks that an object holds in a sealed frame, by ascending block
abbrev pub copies_in : Table → ℕ → ℕ → List CopiedBlock
copies_in t o f = map (copy_at t) (data_in t o f)

-- how many blocks must be written to move an object of this row out of a frame: its data blocks there, those of its
-- checkpoint, if it has one, and those of its journal
abbrev pub blocks_moved : DriveFields → ℕ → ℕ → Row → ℕ
blocks_moved d f o row = length (data_in d.store.table o f) + row_blocks (store_of d).log.held o row

-- Copies of just the data blocks that an object of this row holds in a frame, with their bytes, were put in place of these, with its
-- checkpoint and its journal.
pub record IsMovedBy (d : DriveFields) (f o : ℕ) (copies : List CopiedBlock) (row : Row) (later : DriveFields) : Type 0 where
  pub places : map (λ c. c.place) copies ≡ data_in d.store.table o f
  pub bytes : AreCopies (store_of d).log.held o copies
  pub room : blocks_moved d f o row ≤ length (store_of d).log.ahead
  pub relocated : IsRelocated (store_of d) o row copies (store_of later)

-- so it was by some copies
pub record IsMoved (d : DriveFields) (f o : ℕ) (row : Row) (later : DriveFields) : Type 0 where
  pub copies : List CopiedBlock
  pub moved : IsMovedBy d f o copies row later

-- What a commit of a move comes to, by the drive before it, the answer and the drive after it: the object's data blocks in the
-- frame stand elsewhere with their bytes, checkpoint and journal lead to them, and the row was changed once more. There is no room
-- only where fewer places are ahead than that takes. Each version of each object is as it was, at every moment.
pub record CommitsMove (m : Move) (d : DriveFields) (result : Result (Unit {0}) Refusal) (later : DriveFields) : Type 0 where
  pub moved : OnOk result (m.is_empty ≡ false → IfSome (row_of d.store.rows m.object) (λ row. IsMoved d m.frame m.object row later))
  pub room : result ≡ Err NoRoom → IfSome (row_of d.store.rows m.object) (λ row. length (store_of d).log.ahead < blocks_moved d m.frame m.object row)
  pub versions : (o t : ℕ) → version_in (store_of later) o t ≡ version_in (store_of d) o t
