-- Which bytes keep a drive. It is said by what `verify` accepts and what a drive that is opened begins with, and by no keeper.
use Rattle.std.specs.Prelude.{◌≡◌, ◌<◌, ◌≤◌, ◌^◌, ℕ, zero, suc, List}
use mathlib.Core.List.{IsPrefix}
use Rattle.s4_types.specs.History.{Base, History, Seen, accepted}
use Rattle.s4_types.specs.declared.changes.Accepted.{Accepted}
use Rattle.s4_model.specs.Numbers.{clock_of, window_of}
use Rattle.s4_model.specs.Promise.{GoesOn, beginning}
use Rattle.s4_model.specs.Sound.{IsSound}
use Rattle.s4_model.specs.State.{grown, state_of}
use Rattle.image_parts.specs.Image.{image_in}
use Rattle.verifier.specs.Grammar.{SpellsDrive}
use Rattle.verifier.specs.Opened.{TellsBase}
use Rattle.kept_drive.specs.Reach.{reach_after}

-- The bytes are an image, and what begins with what they tell goes on where this history ended.
pub record IsImageOf (ended : History) (bytes : List ℕ) : Type 0 where
  pub whole : SpellsDrive bytes (image_in bytes)
  pub goes_on : (base : Base) → TellsBase bytes base → GoesOn ended (beginning base)

-- The bytes keep these changes at this clock: they are the image of a history that a drive can have, with this base, in which just these
-- changes were accepted, and which has come to this clock.
pub record Keeps (base : Base) (changes : List Accepted) (clock : ℕ) (bytes : List ℕ) : Type 0 where
  pub history : History
  pub begins : history.base ≡ base
  pub took : accepted history ≡ changes
  pub came_to : clock_of history ≡ clock
  pub sound : IsSound (state_of history)
  pub image : IsImageOf history bytes

-- The bytes keep these changes, and maybe more after them, at this clock or a later one.
pub record KeepsFrom (base : Base) (changes : List Accepted) (clock : ℕ) (bytes : List ℕ) : Type 0 where
  pub all : List Accepted
  pub reached : ℕ
  pub more : IsPrefix changes all
  pub later : clock ≤ reached
  pub keeps : Keeps base all reached bytes

-- The bytes are what a flush keeps of a drive that had this history when a session met it: the image of the drive after it has seen the
-- reach, and nothing else. The history has this base, and the session has seen all that was accepted in it. `last` is the reach of the
-- flush before.
pub record IsFlushedOf (history : History) (base : Base) (seen : List Accepted) (last reach : ℕ) (bytes : List ℕ) : Type 0 where
  pub begins : history.base ≡ base
  pub met : accepted history ≡ seen
  pub sound : IsSound (state_of history)
  pub fits : clock_of history < 2 ^ 64
  pub ahead_of : reach ≡ reach_after last (clock_of history) (window_of history)
  pub image : IsImageOf (grown history (Seen reach)) bytes

-- The bytes are what a flush keeps of a drive that had such a history then.
pub record IsFlushed (has_had : History → Type 0) (base : Base) (seen : List Accepted) (last reach : ℕ) (bytes : List ℕ) : Type 0 where
  pub history : History
  pub had : has_had history
  pub is : IsFlushedOf history base seen last reach bytes

-- the clock at which a drive is kept at the end of its service: its own; or where the service began, of one that has seen nothing yet
abbrev pub last_clock : (start clock : ℕ) → ℕ
last_clock start zero = start
last_clock start (suc clock) = suc clock

-- the history whose image is kept then, of a drive with this one, by its clock
abbrev pub last_history : (start clock : ℕ) → History → History
last_history start zero history = grown history (Seen start)
last_history start (suc clock) history = history

-- The bytes are what is kept of a drive that had this history when a session met it at the end of its service: the image of the drive at
-- its own clock. The history has this base, and the session has seen all that was accepted in it.
pub record IsClosedOf (history : History) (base : Base) (seen : List Accepted) (start : ℕ) (bytes : List ℕ) : Type 0 where
  pub begins : history.base ≡ base
  pub met : accepted history ≡ seen
  pub sound : IsSound (state_of history)
  pub image : IsImageOf (last_history start (clock_of history) history) bytes

-- The bytes are what is kept at the end of a drive that had such a history then.
pub record IsClosed (has_had : History → Type 0) (base : Base) (seen : List Accepted) (start : ℕ) (bytes : List ℕ) : Type 0 where
  pub history : History
  pub had : has_had history
  pub is : IsClosedOf history base seen start bytes

-- What is begun goes on where a history ended that a drive can have, with this base, in which just these changes were accepted, and which
-- had come to this clock.
pub record GoesOnFrom (base : Base) (changes : List Accepted) (clock : ℕ) (begun : Base) : Type 0 where
  pub history : History
  pub begins : history.base ≡ base
  pub took : accepted history ≡ changes
  pub came_to : clock_of history ≡ clock
  pub sound : IsSound (state_of history)
  pub goes_on : GoesOn history (beginning begun)
