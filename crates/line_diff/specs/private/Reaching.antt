-- How far rows turn some lines into others.
use Rattle.std.specs.Prelude.{◌≡◌, ℕ, ◌++◌, ◌<◌, ◌≤◌, List, length, map, take}
use Rattle.line_diff.specs.declared.places.Place.{Place}
use Rattle.line_diff.specs.declared.script.Sign.TheVariants.{Removed, Added}
use Rattle.line_diff.specs.Script.{TextRow, row_with, line_at, Turns}

-- rows that remove some lines and add others
abbrev pub change_rows : (old new : List (List ℕ)) → List TextRow
change_rows old new = map (row_with Removed) old ++ map (row_with Added) new

-- Rows turn the lines up to a place into each other.
pub record IsReached (old new : List (List ℕ)) (place : Place) (rows : List TextRow) : Type 0 where
  pub within_old : place.old ≤ length old
  pub within_new : place.new ≤ length new
  pub turns : Turns (take place.old old) (take place.new new) rows

-- Both lists have the same line at a place, which isn't in front of another.
pub record IsNextMatch (old new : List (List ℕ)) (at place : Place) : Type 0 where
  pub old_from : at.old ≤ place.old
  pub new_from : at.new ≤ place.new
  pub old_within : place.old < length old
  pub new_within : place.new < length new
  pub same : line_at old place.old ≡ line_at new place.new
