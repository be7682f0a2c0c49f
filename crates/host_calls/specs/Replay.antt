-- What calls leave, from what was there before the first of them.
use Rattle.std.specs.Prelude.{◌≡◌, ◌⊎◌, ◌==◌, ◌||◌, ◌++◌, ℕ, zero, suc, Bool, true, false, if◌then◌else◌, List, [], ◌∷◌, length, Option, None, Some, ⊤, codes}
use Rattle.std.specs.Str.{bytes_eq}
use Rattle.std.specs.Path.{path_parent}
use Rattle.host_calls.specs.Events.{Done, Short, Unsupported, Failed, Event, Made, Written, Cut, Synced, Renamed, Linked, Removed, FolderSynced, Locked, Owned, ModeSet}

-- what has a path's name
pub data Lying : Type 0 where
  -- what was at this path before the first call
  Before : List ℕ → Lying
  -- a file with these bytes, and whether they were synced
  Whole : Bool → List ℕ → Lying
  -- a file that begins with these bytes, not all of them synced
  Front : List ℕ → Lying
  Nothing : Lying
  Unknown : Lying

pub record World : Type 0 where
  -- what has a path's name now
  pub named : List ℕ → Lying
  -- what may have it as well after a crash, since the folder wasn't synced after it
  pub others : List ℕ → List Lying
  -- where the file of a number is
  pub place : ℕ → Option (List ℕ)
  -- a sync has failed: what was written may be lost, also where a later one doesn't
  pub failed : Bool

-- before the first call
abbrev pub begun : World
begun = record { named = Before; others = λ path. []; place = λ number. None; failed = false }

-- Nothing is known any more.
abbrev pub forgotten : World → World
forgotten w = record w { named = λ path. Unknown; others = λ path. []; place = λ number. None }

-- where the file of a number is; 0 is no file's that is followed
abbrev pub place_of : World → ℕ → Option (List ℕ)
place_of w zero = None
place_of w (suc n) = w.place (suc n)

-- a place, where it isn't this path
abbrev pub unless_at : List ℕ → Option (List ℕ) → Option (List ℕ)
unless_at path None = None
unless_at path (Some other) = if bytes_eq path other then None else Some other

-- a place, moved where it is the first path
abbrev pub moved : (from to : List ℕ) → Option (List ℕ) → Option (List ℕ)
moved from to None = None
moved from to (Some other) = if bytes_eq from other then Some to else Some other

-- bytes were written at an offset
abbrev pub written : (at : ℕ) → List ℕ → Lying → Lying
written at bytes (Whole lasts before) = if at == length before then Whole false (before ++ bytes) else if at == 0 then Front bytes else Front []
written at bytes (Front before) = if at == length before then Front (before ++ bytes) else if at == 0 then Front bytes else Front []
written at bytes _ = Unknown

-- a write at an offset failed: what is before that stays
abbrev pub unwritten : (at : ℕ) → Lying → Lying
unwritten at (Whole lasts before) = if at == length before then Front before else Front []
unwritten at (Front before) = if at == length before then Front before else Front []
unwritten at _ = Unknown

-- a file got a length
abbrev pub cut : (len : ℕ) → Lying → Lying
cut len (Whole lasts before) = if len == length before then Whole false before else if len == 0 then Whole false [] else Front []
cut len (Front before) = if len == length before then Whole false before else if len == 0 then Whole false [] else Front []
cut len _ = Unknown

-- it may have got another one
abbrev pub uncut : Lying → Lying
uncut (Whole lasts before) = Front []
uncut (Front before) = Front []
uncut _ = Unknown

-- a file was synced
abbrev pub settled : Lying → Lying
settled (Whole lasts bytes) = Whole true bytes
settled x = x

-- what is at a path is changed in this way
abbrev pub changed_at : (Lying → Lying) → List ℕ → World → World
changed_at how path w = record w { named = λ other. if bytes_eq path other then how (w.named other) else w.named other }

-- What is at a place is changed in this way. Where it isn't known which file is, nothing is known any more.
abbrev pub changed : (Lying → Lying) → Option (List ℕ) → World → World
changed how None w = forgotten w
changed how (Some path) w = changed_at how path w

-- what is at a place was synced
abbrev pub synced_at : Option (List ℕ) → World → World
synced_at None w = w
synced_at (Some path) w = changed_at settled path w

-- what may have a path's name after a crash, once what has the name of this one hasn't any more
abbrev pub left_at : List ℕ → World → List ℕ → List Lying
left_at path w other = if bytes_eq path other then w.named other ∷ w.others other else w.others other

-- a file was made at a path, with this number
abbrev pub made_at : List ℕ → ℕ → World → World
made_at path number w = record w {
  named = λ other. if bytes_eq path other then Whole false [] else w.named other;
  others = left_at path w;
  place = λ n. if n == number then Some path else unless_at path (w.place n);
}

-- what is at a path got another name as well
abbrev pub linked_to : (from to : List ℕ) → World → World
linked_to from to w = record w {
  named = λ other. if bytes_eq to other then w.named from else w.named other;
  others = left_at to w;
  place = λ n. unless_at from (unless_at to (w.place n));
}

-- what is at a path got another name in place of its own
abbrev pub renamed_to : (from to : List ℕ) → World → World
renamed_to from to w = record w {
  named = λ other. if bytes_eq to other then w.named from else if bytes_eq from other then Nothing else w.named other;
  others = λ other. if bytes_eq to other || bytes_eq from other then w.named other ∷ w.others other else w.others other;
  place = λ n. moved from to (unless_at to (w.place n));
}

-- what is at a path may have got another name
abbrev pub maybe_at : (from to : List ℕ) → World → World
maybe_at from to w = record w { others = λ other. if bytes_eq to other then w.named from ∷ w.others other else w.others other }

-- what was at a path has its name no more
abbrev pub removed_at : List ℕ → World → World
removed_at path w = record w {
  named = λ other. if bytes_eq path other then Nothing else w.named other;
  others = left_at path w;
  place = λ n. unless_at path (w.place n);
}

-- the folder that a path is in, by its parent
abbrev pub folder_by : (path : List ℕ) (parent : Option (List ℕ)) → List ℕ
folder_by path None = path
folder_by path (Some []) = codes "."
folder_by path (Some (byte ∷ bytes)) = byte ∷ bytes

-- the folder that a path is in
abbrev pub folder_path : List ℕ → List ℕ
folder_path path = folder_by path (path_parent path)

-- the names of a folder were synced: those that its files have now last
abbrev pub names_synced : List ℕ → World → World
names_synced folder w = record w { others = λ path. if bytes_eq folder (folder_path path) then [] else w.others path }

-- A call. No sync counts after one that failed. A folder whose names the file system doesn't sync is taken for one whose names last.
abbrev pub after : Event → World → World
after (Made path mode number true) w = made_at path number w
after (Made path mode number false) w = w
after (Written number at bytes true) w = changed (written at bytes) (place_of w number) w
after (Written number at bytes false) w = changed (unwritten at) (place_of w number) w
after (Cut number len true) w = changed (cut len) (place_of w number) w
after (Cut number len false) w = changed uncut (place_of w number) w
after (Synced number true) w = if w.failed then w else synced_at (place_of w number) w
after (Synced number false) w = record w { failed = true }
after (Renamed from to Done) w = renamed_to from to w
after (Renamed from to Short) w = w
after (Renamed from to Unsupported) w = maybe_at from to w
after (Renamed from to Failed) w = maybe_at from to w
after (Linked from to true) w = linked_to from to w
after (Linked from to false) w = maybe_at from to w
after (Removed path true) w = removed_at path w
after (Removed path false) w = w
after (FolderSynced folder Done) w = if w.failed then w else names_synced folder w
after (FolderSynced folder Unsupported) w = if w.failed then w else names_synced folder w
after (FolderSynced folder Short) w = record w { failed = true }
after (FolderSynced folder Failed) w = record w { failed = true }
after (Locked number ok) w = w
after (Owned number ok) w = w
after (ModeSet number ok) w = w

-- the world after these calls, of which the newest comes first
unfoldable pub replay : List Event → World
replay [] = begun
replay (call ∷ earlier) = after call (replay earlier)

-- What a crash leaves of what has a path's name, by what one might have left at each path before the first call.
abbrev pub Leaves : (was : List ℕ → List ℕ → Type 0) → Lying → List ℕ → Type 0
Leaves was (Before path) c = was path c
Leaves was (Whole true bytes) c = c ≡ bytes
Leaves was (Whole false bytes) c = ⊤
Leaves was (Front bytes) c = ⊤
Leaves was Nothing c = ⊥
Leaves was Unknown c = ⊤

-- what it leaves of one of several
abbrev pub LeavesOne : (was : List ℕ → List ℕ → Type 0) → List Lying → List ℕ → Type 0
LeavesOne was [] c = ⊥
LeavesOne was (x ∷ xs) c = Leaves was x c ⊎ LeavesOne was xs c

-- what it leaves at a path
abbrev pub MayLeave : (was : List ℕ → List ℕ → Type 0) → World → List ℕ → List ℕ → Type 0
MayLeave was w path c = Leaves was (w.named path) c ⊎ LeavesOne was (w.others path) c
