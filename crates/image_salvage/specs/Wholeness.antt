-- When nothing of an image is lost in what was given out of it.
use Rattle.std.specs.Prelude.{◌≡◌, ◌⊎◌, ℕ, ◌<◌, true, List, [], ◌∷◌, length, slice_index_or, Option, Some, None, ⊤}
use Rattle.s4_types.specs.Pointer.{Place}
use Rattle.s4_types.specs.declared.versions.Version.TheVariants.{Live}
use Rattle.block_log.specs.Log.{Stored}
use Rattle.codec.specs.declared.inodes.Inode.{Inode}
use Rattle.segment_table.specs.Table.{Table}
use Rattle.segment_table.specs.Used.{used_at}
use Rattle.version_store.specs.Versions.{version_by}
use Rattle.image_parts.specs.Image.{Image}
use Rattle.image_parts.specs.declared.rows.RowPart.{RowPart}
use Rattle.image_objects.specs.declared.rows.ImageRow.{ImageRow}
use Rattle.image_objects.specs.Objects.{inode_used}
use Rattle.verifier.specs.Tables.{IsTableOf}
use Rattle.verifier.specs.Rows.{SpellRows}
use Rattle.verifier.specs.Grammar.{SpellsDrive}
use Rattle.history_export.specs.Folders.{NamedFile}
use Rattle.history_export.specs.Manifest.{file_name}
use Rattle.image_salvage.specs.Contents.{salvaged_bytes, blocks_gone}
use Rattle.image_salvage.specs.Rows.{IsPresentOf}
use Rattle.image_salvage.specs.Salvaging.{SalvageFields}

-- one of the files has this name and these bytes
abbrev pub HasNamed : List NamedFile → List ℕ → List ℕ → Type 0
HasNamed [] name bytes = ⊥
HasNamed (file ∷ files) name bytes = ((file.name ≡ name) × (file.bytes ≡ bytes)) ⊎ HasNamed files name bytes

-- the same of files, where they are known
abbrev pub HasFile : Option (List NamedFile) → List ℕ → List ℕ → Type 0
HasFile None name bytes = ⊤
HasFile (Some files) name bytes = HasNamed files name bytes

-- The object of a row isn't lost: it has a present inode, and where that is live, none of its blocks is gone, and the files have its bytes.
pub record RowIsWhole (used : Place → Option Stored) (part : RowPart) (files : Option (List NamedFile)) : Type 0 where
  pub inode : Inode
  pub present : IsPresentOf used part inode
  pub none_gone : inode.alive ≡ true → blocks_gone used part.object inode ≡ 0
  pub has : inode.alive ≡ true → HasFile files (file_name part.object) (salvaged_bytes used part.object inode)

-- Nothing that was salvaged of an image is lost: it has no fault, none of its frames is lost, and the object of none of its rows.
pub record IsGivenWhole (s : SalvageFields) (files : Option (List NamedFile)) : Type 0 where
  pub sound : s.fault ≡ None
  pub intact : s.lost ≡ []
  pub each : (k : ℕ) (part : RowPart) → k < length s.rows → RowIsWhole (used_at s.table) (slice_index_or s.rows k part) files

-- The bytes encode the image of a drive, and the files have each of its live objects: with the bytes of the version that is current at its
-- clock, by the rows and over the used blocks by which the drive is opened.
pub record HasEachLive (bytes : List ℕ) (files : Option (List NamedFile)) : Type 0 where
  pub image : Image
  pub spelled : SpellsDrive bytes image
  pub table : Table
  pub frames : IsTableOf image.frames table
  pub rows : List ImageRow
  pub read : SpellRows image.rows rows
  pub each : (k : ℕ) (row : ImageRow) (content attribute : List ℕ) (created changed : ℕ) → k < length rows
      → version_by (used_at table) (Some (inode_used (used_at table) (slice_index_or rows k row) image.clock)) ≡ Live content attribute created changed
      → HasFile files (file_name (slice_index_or rows k row).object) content
