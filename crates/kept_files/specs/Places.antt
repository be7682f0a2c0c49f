-- What calls leave of the paths of an image and of the files beside it.
use Rattle.std.specs.Prelude.{◌≡◌, ◌≢◌, ℕ, List}
use Rattle.host_calls.specs.Replay.{World}
use Rattle.host_calls.specs.Worlds.{HasBytes, IsAt, SameAt}

-- a path is as it was, also after a crash, and no sync has failed since
pub record IsAsBefore (path : List ℕ) (w w' : World) : Type 0 where
  pub same : SameAt w w' path
  pub failed : w'.failed ≡ w.failed

-- so are all paths but this one
pub record AreOthersAsBefore (path : List ℕ) (w w' : World) : Type 0 where
  pub each : (other : List ℕ) → other ≢ path → IsAsBefore other w w'

-- so are all paths but these two
pub record AreRestAsBefore (one two : List ℕ) (w w' : World) : Type 0 where
  pub each : (other : List ℕ) → other ≢ one → other ≢ two → IsAsBefore other w w'

-- the file of a number is at a path, and has these bytes
pub record IsWritten (w : World) (number : ℕ) (path bytes : List ℕ) : Type 0 where
  pub at : IsAt w number path
  pub has : HasBytes w path bytes
