-- What a receipt shows.
use Rattle.std.specs.Prelude.{◌≡◌, ℕ, List, length}
use Rattle.atomic_table.specs.Seated.{TableId}
use Rattle.s4_types.specs.History.{Base}
use Rattle.s4_types.specs.declared.changes.Accepted.{Accepted}
use Rattle.image_keeping.specs.Leaving.{IsKept}
use Rattle.kept_drive.specs.Collecting.{WasHad}
use Rattle.kept_drive.specs.Images.{IsFlushed}

-- what contracts see of a receipt: how many accepted changes are kept, and the clock of what is kept
pub record ReceiptFields : Type 0 where
  pub number : ℕ
  pub reach : ℕ

-- A keeper was in a state in which so much was kept: whatever a crash left then is what a flush keeps, at this reach, of a drive with these
-- frames and this base, in which just as many changes were accepted.
pub record HasBeenKept {K : Type 0} (may_leave : K → List ℕ → Type 0) (frames : TableId) (base : Base) (receipt : ReceiptFields) : Type 0 where
  pub keeper : K
  pub seen : List Accepted
  pub last : ℕ
  pub kept : IsKept (may_leave keeper) (IsFlushed (WasHad frames base) base seen last receipt.reach)
  pub number : receipt.number ≡ length seen
