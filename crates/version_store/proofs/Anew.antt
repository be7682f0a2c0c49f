-- What a table shows where older checkpoints were dropped before something else was done.
use Rattle.std.proofs.Common.{◌≡◌, Option, ℕ, ◌<◌, ◌≤◌, ◌==◌, List, length, take, ap, subst, ◌∙◌, arith}
use Rattle.std.specs.List.{Contains}
use Rattle.s4_types.specs.Pointer.{Place}
use Rattle.block_log.specs.Log.{Log, Stored}
use Rattle.block_log.specs.Taken.{TakesPlaces}
use Rattle.checkpoint.specs.Held.{OnlyCheckpointChanged}
use Rattle.row_changes.specs.Rewritten.{OnlyMetadataChanged}
use Rattle.row_changes.proofs.WrittenRow.{no_checkpoint}
use Rattle.version_store.specs.private.Below.{PlacesAddUp}
use Rattle.version_store.proofs.Spending.{none_more}

-- checkpoints were dropped, and then metadata alone has changed
pub metadata_behind : (o : ℕ) (held between later : Place → Option Stored) → OnlyCheckpointChanged o held between → OnlyMetadataChanged o between later → OnlyMetadataChanged o held later
metadata_behind o held between later dropped metadata kind other h = metadata kind other h ∙ dropped kind other (no_checkpoint kind (o == other) h)

-- the same places are ahead
pub same_ahead : (before between : Log) → TakesPlaces 0 before between → between.ahead ≡ before.ahead
same_ahead before between takes = takes.ahead

pub among_same : (before between : Log) (n : ℕ) (p : Place) → TakesPlaces 0 before between → Contains (take n between.ahead) p → Contains (take n before.ahead) p
among_same before between n p takes at = subst (λ (places : List Place). Contains (take n places) p) (same_ahead before between takes) at

-- there is as much room
pub no_less : (before between : Log) (n : ℕ) → TakesPlaces 0 before between → n ≤ length before.ahead → length between.ahead < n → ⊥
no_less before between n takes room less =
    let same : length between.ahead ≡ length before.ahead = ap length (same_ahead before between takes) in
    omega (arith, same, room, less)

pub taken_behind : PlacesAddUp → (n : ℕ) (before between later : Log) → TakesPlaces 0 before between → TakesPlaces n between later → TakesPlaces n before later
taken_behind law n before between later dropped took = subst (λ (k : ℕ). TakesPlaces k before later) (none_more n) (law 0 n before between later dropped took)
