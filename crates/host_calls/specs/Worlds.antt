-- What one call leaves of what others left.
use Rattle.std.specs.Prelude.{◌≡◌, ◌≢◌, ◌⊎◌, ℕ, Bool, true, List, Some, ⊤, take}
use Rattle.host_calls.specs.Replay.{Lying, Before, Whole, Front, Nothing, Unknown, World, place_of, settled, Leaves, MayLeave}

-- a file is there of which calls were noted
abbrev pub IsFile : Lying → Type 0
IsFile (Before path) = ⊥
IsFile (Whole lasts bytes) = ⊤
IsFile (Front bytes) = ⊤
IsFile Nothing = ⊥
IsFile Unknown = ⊥

-- the file of a number is at a path
pub record IsAt (w : World) (number : ℕ) (path : List ℕ) : Type 0 where
  pub place : place_of w number ≡ Some path
  pub file : IsFile (w.named path)

-- a file begins with these bytes
abbrev pub Begins : Lying → List ℕ → Type 0
Begins (Before path) front = ⊥
Begins (Whole lasts bytes) front = bytes ≡ front
Begins (Front bytes) front = bytes ≡ front
Begins Nothing front = ⊥
Begins Unknown front = ⊥

-- a path's file has these bytes
pub record HasBytes (w : World) (path bytes : List ℕ) : Type 0 where
  pub lasts : Bool
  pub has : w.named path ≡ Whole lasts bytes

-- it has them on the disk
abbrev pub HasLasting : World → (path bytes : List ℕ) → Type 0
HasLasting w path bytes = w.named path ≡ Whole true bytes

-- a path is as it was, and so after a crash
pub record SameAt (w w' : World) (path : List ℕ) : Type 0 where
  pub named : w'.named path ≡ w.named path
  pub others : w'.others path ≡ w.others path

-- each path has what it had
abbrev pub SameNames : (w w' : World) → Type 0
SameNames w w' = (path : List ℕ) → w'.named path ≡ w.named path

-- a path has what it had, of which more may be on the disk
abbrev pub IsSettled : (before now : Lying) → Type 0
IsSettled before now = (now ≡ before) ⊎ (now ≡ settled before)

-- a crash leaves at each path what it might have left before
abbrev pub AddsNone : (was : List ℕ → List ℕ → Type 0) → (w w' : World) → Type 0
AddsNone was w w' = (path c : List ℕ) → MayLeave was w' path c → MayLeave was w path c

-- so it does, or what it leaves of this one
abbrev pub AddsOnly : (was : List ℕ → List ℕ → Type 0) → Lying → (w w' : World) → Type 0
AddsOnly was x w w' = (path c : List ℕ) → MayLeave was w' path c → MayLeave was w path c ⊎ Leaves was x c

-- The bytes of a file at a path are being written, from the front on, and so many of them are.
pub record IsWriting (number done : ℕ) (bytes path : List ℕ) (w w' : World) : Type 0 where
  pub at : IsAt w' number path
  pub begins : (done ≡ 0) ⊎ Begins (w'.named path) (take done bytes)
  pub others : (other : List ℕ) → other ≢ path → SameAt w w' other

-- Wherever a file is being written and so many of its bytes are, so many are after this.
pub record GoesOn (number done done' : ℕ) (bytes : List ℕ) (w w' : World) : Type 0 where
  pub on : (path : List ℕ) (start : World) → IsWriting number done bytes path start w → IsWriting number done' bytes path start w'

-- Wherever the file of a number is, it stays there, and all other paths are as they were.
pub record ChangesOnly (number : ℕ) (w w' : World) : Type 0 where
  pub at : (path : List ℕ) → IsAt w number path → IsAt w' number path
  pub others : (path other : List ℕ) → IsAt w number path → other ≢ path → SameAt w w' other
  pub failed : w'.failed ≡ w.failed

-- The files of all numbers are where they were.
abbrev pub SamePlaces : (w w' : World) → Type 0
SamePlaces w w' = (number : ℕ) (path : List ℕ) → IsAt w number path → IsAt w' number path
