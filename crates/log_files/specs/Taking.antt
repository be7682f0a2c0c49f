-- What is known of contents while they are changed.
use Rattle.std.specs.Prelude.{◌≡◌, ◌&&◌, ◌||◌, ℕ, ◌+◌, ◌<◌, ◌≤◌, Bool, true, not, List, length, slice_index, Option, None, Some, IsTrue}
use Rattle.sqlite_disk.specs.Disk.{Torn, Mixed, Cut, Follows}
use Rattle.log_files.specs.Contents.{Contents, Leaves}

-- the number of a file, where there is one
abbrev pub number_of : {F : Type 0} → (number : F → ℕ) → Option F → ℕ
number_of number None = 0
number_of number (Some file) = number file

-- More may be asked of a file, or isn't: no sync has failed, and what was written is known. Where a write has failed this is noted.
abbrev pub is_sound : (is_usable is_torn : Bool) → Contents → Bool
is_sound is_usable is_torn c = not is_usable || (c.is_usable && c.is_known && (is_torn || not c.is_torn))

-- These bytes are being written at an offset: each byte of what is seen, and of what a crash leaves, is the one from before, or may be
-- one of them.
pub record Overlays (at : ℕ) (bytes : List ℕ) (c c' : Contents) : Type 0 where
  pub seen : Torn at (length bytes) c.seen c'.seen
  pub mixed : Follows (Mixed at bytes) (Leaves c) (Leaves c')
  pub usable : c'.is_usable ≡ c.is_usable
  pub known : c'.is_known ≡ c.is_known

-- and so many of them are seen
pub record HasWritten (at done : ℕ) (bytes : List ℕ) (c c' : Contents) : Type 0 where
  pub overlays : Overlays at bytes c c'
  pub long : 0 < done → at + done ≤ length c'.seen
  pub each : (i : ℕ) → i < done → slice_index c'.seen (at + i) ≡ slice_index bytes i
  pub torn : c'.is_torn ≡ c.is_torn

-- where so many are seen, so many are after this
pub record GoesOn (at done done' : ℕ) (bytes : List ℕ) (c c' : Contents) : Type 0 where
  pub on : (start : Contents) → HasWritten at done bytes start c → HasWritten at done' bytes start c'

-- where so many are seen, it isn't known how many are after this
pub record BreaksOff (at done : ℕ) (bytes : List ℕ) (c c' : Contents) : Type 0 where
  pub on : (start : Contents) → HasWritten at done bytes start c → Overlays at bytes start c'

-- the length is being changed
pub record Cuts (len : ℕ) (c c' : Contents) : Type 0 where
  pub seen : Cut len c.seen c'.seen
  pub left : Follows (Cut len) (Leaves c) (Leaves c')
  pub usable : c'.is_usable ≡ c.is_usable
  pub known : c'.is_known ≡ c.is_known

-- it was
pub record HasCut (len : ℕ) (c c' : Contents) : Type 0 where
  pub length : length c'.seen ≡ len
  pub torn : c'.is_torn ≡ c.is_torn

-- What is seen stays, and a crash leaves nothing else.
pub record Keeps (c c' : Contents) : Type 0 where
  pub seen : c'.seen ≡ c.seen
  pub fewer : (left : List ℕ) → Leaves c' left → Leaves c left

-- A crash leaves what is seen and nothing else.
pub record Lasts (is_torn : Bool) (c c' : Contents) : Type 0 where
  pub only : (left : List ℕ) → Leaves c' left → left ≡ c.seen
  pub sound : IsTrue (is_sound true is_torn c')
