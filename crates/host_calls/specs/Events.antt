-- The calls of the system that change files, each with its answer.
use Rattle.std.specs.Prelude.{ℕ, Bool, List}
use Rattle.std.specs.IoError.{error_kind}
use Rattle.std.specs.declared.io.Error.{Error}
use Rattle.std.specs.declared.io.ErrorKind.{ErrorKind}
use Rattle.std.specs.declared.io.ErrorKind.TheVariants.{FileTooLarge, InvalidInput, OutOfMemory, QuotaExceeded, StorageFull}

-- how a call ended: it was made; memory or room on the disk was short, and nothing was done; the file system has no such call; or it
-- failed, and may have been done all the same
pub data Answer : Type 0 where
  Done : Answer
  Short : Answer
  Unsupported : Answer
  Failed : Answer

-- A call. A file goes by the number that it had from the call which made it; 0 is any file that no call made.
pub data Event : Type 0 where
  -- a file at a path where none was, the mode that was asked for, and its number
  Made : List ℕ → ℕ → ℕ → Bool → Event
  -- bytes that a file took at an offset
  Written : ℕ → ℕ → List ℕ → Bool → Event
  -- a file got this length
  Cut : ℕ → ℕ → Bool → Event
  Synced : ℕ → Bool → Event
  Renamed : List ℕ → List ℕ → Answer → Event
  Linked : List ℕ → List ℕ → Bool → Event
  Removed : List ℕ → Bool → Event
  -- the folder at a path
  FolderSynced : List ℕ → Answer → Event
  Locked : ℕ → Bool → Event
  -- a file got another owner
  Owned : ℕ → Bool → Event
  -- a file got another mode
  ModeSet : ℕ → Bool → Event

-- an error of this kind says that memory, or room on the disk, is short
abbrev pub says_short : ErrorKind → Answer
says_short OutOfMemory = Short
says_short StorageFull = Short
says_short QuotaExceeded = Short
says_short FileTooLarge = Short
says_short _ = Failed

-- how a rename ended that gave this error
abbrev pub refusal_of : Error → Answer
refusal_of e = says_short (error_kind e)

-- an error of this kind says that the file system doesn't sync a folder
abbrev pub says_unsupported : ErrorKind → Answer
says_unsupported InvalidInput = Unsupported
says_unsupported _ = Failed

-- how the sync of a folder ended that gave this error
abbrev pub unsynced_by : Error → Answer
unsynced_by e = says_unsupported (error_kind e)
