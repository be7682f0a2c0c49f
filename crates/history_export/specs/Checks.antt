-- What a check of a drive has read.
use Rattle.std.specs.Prelude.{◌≡◌, ℕ, ◌+◌, ◌-◌, ◌^◌, ◌++◌, min, List, length, Option}
use Rattle.std.specs.List.{flat_map}
use Rattle.std.specs.Io.KnownBytes.{Appends}
use Rattle.sha2.specs.Hashers.{Holds256}
use Rattle.sha2.specs.Sha256.{sha256}
use Rattle.s4_model.specs.State.{State}
use Rattle.version_store.specs.Store.{StoreFields}
use Rattle.history_view.specs.Logs.{AreRowsFrom}
use Rattle.history_export.specs.Versions.{pairs_of, bytes_at, contents_at}
use Rattle.history_export.specs.declared.checking.CheckReport.{CheckReport}
use Rattle.history_export.specs.declared.checking.Checked.{Checked}
use Rattle.history_export.specs.declared.checking.Reading.{Reading}

-- a count, which stops at 2^64 - 1
abbrev pub capped : ℕ → ℕ
capped n = min n (2 ^ 64 - 1)

-- counts, with the versions of these objects at these moments
abbrev pub with_read : State → Checked → List (ℕ × ℕ) → Checked
with_read s c pairs = record { versions = capped (c.versions + length pairs); bytes = capped (c.bytes + bytes_at s pairs) }

-- nothing is counted
abbrev pub none_read : Checked
none_read = record { versions = 0; bytes = 0 }

-- The versions of these objects at these moments were read: they are counted, and their bytes were hashed after what had been.
pub record HasRead (s : State) (pairs : List (ℕ × ℕ)) (before after : Reading) : Type 0 where
  pub counts : after.checked ≡ with_read s before.checked pairs
  pub hashed : (message : List ℕ) → Holds256 before.hasher message → Holds256 after.hasher (message ++ contents_at s pairs)

-- Each version of each object that can be read was read once: they are counted, and their bytes, one version after the other, have this
-- digest. Whoever is told was told of each object.
pub record ChecksAll (s : State) (store : StoreFields) (report : CheckReport) (told told' : Option (List ℕ)) : Type 0 where
  pub objects : List ℕ
  pub have_rows : AreRowsFrom store 0 objects
  pub read : report.checked ≡ with_read s none_read (flat_map (pairs_of s store) objects)
  pub digest : report.digest ≡ sha256 (contents_at s (flat_map (pairs_of s store) objects))
  pub objects_told : Appends told told' objects
