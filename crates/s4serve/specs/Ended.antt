-- What is kept first and last of a service.
use Rattle.std.specs.Prelude.{◌⊎◌, ℕ, List}
use Rattle.atomic_table.specs.Seated.{TableId}
use Rattle.s4_types.specs.History.{Base}
use Rattle.s4_types.specs.declared.changes.Accepted.{Accepted}
use Rattle.image_keeping.specs.Leaving.{IsKept}
use Rattle.kept_drive.specs.Collecting.{WasHad}
use Rattle.kept_drive.specs.Images.{IsClosed, IsFlushed}

-- A keeper was in a state in which the drive was kept before its first session, at the moment where its service began: whatever a crash left
-- then is the drive once it has seen what comes after that.
pub record HasBegun {K : Type 0} (may_leave : K → List ℕ → Type 0) (frames : TableId) (base : Base) (start : ℕ) : Type 0 where
  pub keeper : K
  pub seen : List Accepted
  pub reach : ℕ
  pub kept : IsKept (may_leave keeper) (IsFlushed (WasHad frames base) base seen start reach)

-- A keeper was in a state in which the drive was kept at the end of its service, which had begun at this moment: whatever a crash left then is
-- the drive at its own clock.
pub record HasBeenClosed {K : Type 0} (may_leave : K → List ℕ → Type 0) (frames : TableId) (base : Base) (start : ℕ) : Type 0 where
  pub keeper : K
  pub seen : List Accepted
  pub kept : IsKept (may_leave keeper) (IsClosed (WasHad frames base) base seen start)

-- The last image that a keeper kept was removed or replaced, and then the drive was kept once more by a flush, whose reach isn't below that
-- of the flush before. Over the system's own files `was_moved` says nothing: there it is trusted that `is_in_place` looks.
pub record HasBeenMoved {K : Type 0} (may_leave : K → List ℕ → Type 0) (was_moved : K → Type 0) (frames : TableId) (base : Base) : Type 0 where
  pub before : K
  pub moved : was_moved before
  pub keeper : K
  pub seen : List Accepted
  pub last : ℕ
  pub reach : ℕ
  pub kept : IsKept (may_leave keeper) (IsFlushed (WasHad frames base) base seen last reach)

-- One of both was so at the end of a service.
abbrev pub HasBeenEnded : {K : Type 0} → (may_leave : K → List ℕ → Type 0) → (was_moved : K → Type 0) → TableId → Base → (start : ℕ) → Type 0
HasBeenEnded may_leave was_moved frames base start = HasBeenClosed may_leave frames base start ⊎ HasBeenMoved may_leave was_moved frames base
