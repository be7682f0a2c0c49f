-- What is given out of a salvaged image: the files of a folder, and the counts.
use Rattle.std.specs.Prelude.{◌≡◌, ℕ, ◌+◌, ◌-◌, ◌^◌, ◌==◌, ◌&&◌, not, min, nat_lt, is_some, if◌then◌else◌, Bool, List, [], ◌∷◌, length, Option, Some, None}
use Rattle.std.specs.List.{AllZip, count_by}
use Rattle.std.specs.Option.{option_map}
use Rattle.s4_types.specs.Pointer.{Place}
use Rattle.block_log.specs.Log.{Stored}
use Rattle.codec.specs.declared.inodes.Inode.{Inode}
use Rattle.segment_table.specs.Used.{used_at}
use Rattle.history_view.specs.Listing.{listed_of}
use Rattle.history_export.specs.Folders.{NamedFile, AreFiles, with_file, with_bytes}
use Rattle.history_export.specs.Manifest.{manifest_name}
use Rattle.history_export.specs.Exports.{with_line, with_named}
use Rattle.image_salvage.specs.declared.rows.Salvaged.{Salvaged}
use Rattle.image_salvage.specs.declared.giving.GivenOut.{GivenOut}
use Rattle.image_salvage.specs.declared.giving.Fate.{Fate}
use Rattle.image_salvage.specs.declared.giving.Fate.TheVariants.{Given, Lost, Deleted}
use Rattle.image_salvage.specs.Contents.{salvaged_bytes, blocks_gone}
use Rattle.image_salvage.specs.declared.unlisted.Unlisted.{Unlisted}
use Rattle.image_salvage.specs.Manifest.{salvaged_line, unlisted_name, unlisted_line, lost_frame_line, lost_object_line}
use Rattle.image_salvage.specs.Rows.{IsSalvagedBy}
use Rattle.image_salvage.specs.Salvaging.{SalvageFields}

-- ---- one row

-- What becomes of a row, after the object that was given out last. A deleted object has no file. A row that gives no inode is lost, and
-- so is one of an object that isn't above that last one: it tells again of one that was given out, or is out of order.
abbrev pub fate_by : ℕ → ℕ → Option Inode → Fate
fate_by last o None = Lost
fate_by last o (Some i) = if i.alive then (if nat_lt last o then Given i else Lost) else Deleted

abbrev pub fate_of : ℕ → Salvaged → Fate
fate_of last row = fate_by last row.object row.present

-- a count, which stops at 2^64 - 1
abbrev pub capped : ℕ → ℕ
capped n = min n (2 ^ 64 - 1)

-- the counts with an object more that was given out, of which this many blocks are gone
abbrev pub with_given : ℕ → ℕ → GivenOut → GivenOut
with_given o gone g = record {
  last = o;
  objects = capped (g.objects + 1);
  blocks_gone = capped (g.blocks_gone + gone);
  lost_objects = g.lost_objects;
  lost_frames = g.lost_frames;
  unlisted = g.unlisted;
  left_out = g.left_out;
  damaged = g.damaged;
}

-- the counts with a lost one more
abbrev pub with_lost : GivenOut → GivenOut
with_lost g = record {
  last = g.last;
  objects = g.objects;
  blocks_gone = g.blocks_gone;
  lost_objects = capped (g.lost_objects + 1);
  lost_frames = g.lost_frames;
  unlisted = g.unlisted;
  left_out = g.left_out;
  damaged = g.damaged;
}

-- the counts with an object more, by what became of its row
abbrev pub counted_by : (Place → Option Stored) → ℕ → Fate → GivenOut → GivenOut
counted_by used o (Given i) g = with_given o (blocks_gone used o i) g
counted_by used o Lost g = with_lost g
counted_by used o Deleted g = g

-- the counts with a row more
abbrev pub counted : (Place → Option Stored) → GivenOut → Salvaged → GivenOut
counted used g row = counted_by used row.object (fate_of g.last row) g

-- the files with that of an object that was given out, and with its line at the end of the manifest
abbrev pub with_salvaged : (Place → Option Stored) → ℕ → Inode → List NamedFile → List NamedFile
with_salvaged used o i files = with_line o (salvaged_bytes used o i) (salvaged_line (listed_of o i) (salvaged_bytes used o i) (blocks_gone used o i)) files

-- the files with an object more, by what became of its row
abbrev pub with_fate : (Place → Option Stored) → ℕ → Fate → List NamedFile → List NamedFile
with_fate used o (Given i) files = with_salvaged used o i files
with_fate used o Lost files = with_bytes manifest_name (lost_object_line o) files
with_fate used o Deleted files = files

-- the files with a row more
abbrev pub with_row : (Place → Option Stored) → GivenOut → Salvaged → List NamedFile → List NamedFile
with_row used g row files = with_fate used row.object (fate_of g.last row) files

-- ---- all of an image

-- how many objects of these have a newer change that was left out
abbrev pub left_out_of : List Unlisted → ℕ
left_out_of unlisted = count_by (λ u. u.left_out) unlisted

-- a count of blocks with those more that are gone of these objects
abbrev pub with_gone : (Place → Option Stored) → List Unlisted → ℕ → ℕ
with_gone used [] gone = gone
with_gone used (u ∷ unlisted) gone = with_gone used unlisted (capped (gone + blocks_gone used u.object u.inode))

-- No row is given out yet: rows may be missing and frames lost, objects may have no row, have blocks that are gone and changes that are left
-- out, and the image may have a fault.
abbrev pub none_given : SalvageFields → GivenOut
none_given s = record {
  last = 0;
  objects = 0;
  blocks_gone = with_gone (used_at s.table) s.unlisted 0;
  lost_objects = s.missing;
  lost_frames = length s.lost;
  unlisted = length s.unlisted;
  left_out = left_out_of s.unlisted;
  damaged = is_some s.fault;
}

-- the counts with these rows more
abbrev pub counted_all : (Place → Option Stored) → GivenOut → List Salvaged → GivenOut
counted_all used g [] = g
counted_all used g (row ∷ rows) = counted_all used (counted used g row) rows

-- the files with these rows more
abbrev pub with_rows : (Place → Option Stored) → GivenOut → List Salvaged → List NamedFile → List NamedFile
with_rows used g [] files = files
with_rows used g (row ∷ rows) files = with_rows used (counted used g row) rows (with_row used g row files)

-- the files with the lines of these lost frames at the end of the manifest
abbrev pub with_frames : List ℕ → List NamedFile → List NamedFile
with_frames [] files = files
with_frames (frame ∷ lost) files = with_frames lost (with_bytes manifest_name (lost_frame_line frame) files)

-- the files with that of an object that no row gives, and with its line at the end of the manifest
abbrev pub with_unlisted : (Place → Option Stored) → Unlisted → List NamedFile → List NamedFile
with_unlisted used u files =
    with_named (unlisted_name u.object) (salvaged_bytes used u.object u.inode) (unlisted_line (listed_of u.object u.inode) (salvaged_bytes used u.object u.inode) (blocks_gone used u.object u.inode) u.left_out) files

-- the files with these objects more
abbrev pub with_all_unlisted : (Place → Option Stored) → List Unlisted → List NamedFile → List NamedFile
with_all_unlisted used [] files = files
with_all_unlisted used (u ∷ unlisted) files = with_all_unlisted used unlisted (with_unlisted used u files)

-- The files of a salvage whose rows give this: the manifest, which has a line for each lost frame, and then one for each object that is given
-- out or lost, in the order of the rows, and one for each that no row gives; and the file of each that is given out.
abbrev pub salvaged_files : SalvageFields → List Salvaged → List NamedFile
salvaged_files s rows = with_all_unlisted (used_at s.table) s.unlisted (with_rows (used_at s.table) (none_given s) rows (with_frames s.lost (with_file manifest_name [] [])))

-- This is what the rows of an image give, one by one.
abbrev pub AreGivenBy : SalvageFields → List Salvaged → Type 0
AreGivenBy s rows = AllZip (IsSalvagedBy (used_at s.table)) s.rows rows

-- The rows of an image were given out after what a folder had.
pub record GivesRows (s : SalvageFields) (given : GivenOut) (files files' : Option (List NamedFile)) : Type 0 where
  pub rows : List Salvaged
  pub are : AreGivenBy s rows
  pub counts : given ≡ counted_all (used_at s.table) (none_given s) rows
  pub becomes : files' ≡ option_map (with_rows (used_at s.table) (none_given s) rows) files

-- A folder had nothing, and has what was salvaged of an image.
pub record GivesOut (s : SalvageFields) (given : GivenOut) (files files' : Option (List NamedFile)) : Type 0 where
  pub empty : AreFiles files []
  pub rows : List Salvaged
  pub are : AreGivenBy s rows
  pub counts : given ≡ counted_all (used_at s.table) (none_given s) rows
  pub has : AreFiles files' (salvaged_files s rows)

-- whether nothing is lost: the image has no fault, and no count says that anything is gone
abbrev pub is_whole : GivenOut → Bool
is_whole g = (not g.damaged && g.blocks_gone == 0) && (g.lost_objects == 0 && g.lost_frames == 0)
