-- What holds of the last entry of a run: each of these holds of all runs and moments, and is a clause of a function with
-- an empty body.
use Rattle.std.specs.Prelude.{◌≡◌, ℕ, ◌≤◌, ◌++◌, true, List, [], ◌∷◌}
use Rattle.codec.specs.declared.inodes.Inode.{Inode}
use Rattle.codec.specs.Entry.{EntryFields}
use Rattle.undo_redo.specs.Redone.{undone}
use Rattle.undo_redo.specs.Runs.{Run, inode_after, AllPast, moments_ascend_from}

-- Where the last entry is later than a moment, the run without it ends with the entry undone, and the inode current at
-- the moment is the same one.
abbrev pub ALaterEntryIsUndone : Type 0
ALaterEntryIsUndone = (i k : Inode) (front : List EntryFields) (e : EntryFields) (t : ℕ) → AllPast t (e ∷ []) → Run i (front ++ e ∷ []) k
    → Run i front (undone e k) × (inode_after i (front ++ e ∷ []) t ≡ inode_after i front t)

-- Where it isn't later and moments don't descend, the run's last inode is the one current at the moment.
abbrev pub ThePresentInodeIsLast : Type 0
ThePresentInodeIsLast = (i k : Inode) (front : List EntryFields) (e : EntryFields) (low t : ℕ) → moments_ascend_from low (front ++ e ∷ []) ≡ true → e.moment ≤ t
    → Run i (front ++ e ∷ []) k → inode_after i (front ++ e ∷ []) t ≡ k
