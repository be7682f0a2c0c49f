-- What becomes of an object's data where names are given to its blocks and others are taken away. No public clause cites this
-- file.
use Rattle.std.specs.Prelude.{◌≡◌, ◌⊎◌, ℕ, ◌+◌, ◌-◌, ◌≤◌, ◌==◌, false, List, length, Option, None, is_some}
use Rattle.s4_types.specs.Pointer.{Place}
use Rattle.s4_types.specs.declared.limits.TheConstants.{SIDES}
use Rattle.block_log.specs.declared.kinds.BlockKind.TheVariants.{Data}
use Rattle.block_log.specs.Log.{Log, NamesAreOfData, of_kind}
use Rattle.block_log.specs.Taken.{TakesPlaces}
use Rattle.object_map.specs.declared.map.Row.{Row}
use Rattle.version_store.specs.Store.{IsNamedBy, named_of, pointers_named, times_led}

-- Each data block of an object was named once more for each of the one pointers that lead to it, and once less for each of the
-- others; one without any name is held no longer. All else is as it was.
pub record Recounts (o : ℕ) (before : Log) (more fewer : List (Option Place)) (after : Log) : Type 0 where
  pub here : (p : Place) → named_of o after p ≡ (times_led p more + named_of o before p) - times_led p fewer
  pub beside : (q : ℕ) (p : Place) → (o == q) ≡ false → named_of q after p ≡ named_of q before p
  pub left : (p : Place) → (after.held p ≡ before.held p) ⊎ (after.held p ≡ None)
  pub apart : (p : Place) → is_some (of_kind Data o before.held p) ≡ false → after.held p ≡ before.held p
  pub names : NamesAreOfData after
  pub takes : TakesPlaces 0 before after

-- From a log to a later one: the data of an object has the names that its next row gives, that of each other object those that
-- it had. The row has at most SIDES older checkpoints.
pub record Counts (before later : Log) (o : ℕ) (next : Row) : Type 0 where
  pub names : NamesAreOfData later
  pub here : IsNamedBy o later (pointers_named later.held o next)
  pub beside : (q : ℕ) (p : Place) → (o == q) ≡ false → named_of q later p ≡ named_of q before p
  pub few : length next.sides ≤ SIDES

-- From a log to a later one, in which an object has nothing: the data of each other object has the names that it had.
pub record Uncounts (before later : Log) (o : ℕ) : Type 0 where
  pub names : NamesAreOfData later
  pub beside : (q : ℕ) (p : Place) → (o == q) ≡ false → named_of q later p ≡ named_of q before p
