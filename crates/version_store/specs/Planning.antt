-- What a store answers of a plan of its bytes.
use Rattle.std.specs.Prelude.{◌≡◌, ◌⊎◌, ◌↔◌, ◌<◌, ◌-◌, ℕ, min, true, false, None, take, drop}
use Rattle.std.specs.List.{list_any}
use Rattle.s4_types.specs.declared.refusals.Refusal.{Refusal}
use Rattle.s4_types.specs.declared.refusals.Refusal.TheVariants.{NoMemory, Busy}
use Rattle.codec.specs.declared.inodes.Inode.{Inode}
use Rattle.inode.specs.Contents.{contents_of, bytes_of}
use Rattle.segment_word.specs.Counting.{pins_in}
use Rattle.segment_table.specs.Table.{Table}
use Rattle.segment_table.specs.Room.{log_of}
use Rattle.time_read.specs.Plans.{PlanFields, IsAt, pieces_of, bytes_planned, pins_held, is_pinned, is_pinned_in}

-- A plan of this many bytes of an inode from an offset on, or of as many as there are: its pieces, the bytes that they name, and
-- a pin of this table that counts on exactly the frames of the pinned ones, and none where there are none.
pub record IsReadPlan (t : Table) (i : Inode) (offset wanted : ℕ) (plan : PlanFields) : Type 0 where
  pub pieces : plan.pieces ≡ pieces_of t i offset (min wanted (i.size - offset))
  pub bytes : bytes_planned plan ≡ take wanted (drop offset (bytes_of (contents_of (log_of t).held) i))
  pub pins : (f : ℕ) → (0 < pins_in f (pins_held plan.pin)) ↔ (list_any (is_pinned_in f) plan.pieces ≡ true)
  pub seat : list_any is_pinned plan.pieces ≡ false → plan.pin ≡ None
  pub here : IsAt t plan.pin

-- why those bytes aren't planned: for lack of memory, or of a pin where a piece would be pinned
abbrev pub IsPlanRefusal : Table → Inode → ℕ → ℕ → Refusal → Type 0
IsPlanRefusal t i offset wanted e = (e ≡ NoMemory) ⊎ ((e ≡ Busy) × (list_any is_pinned (pieces_of t i offset (min wanted (i.size - offset))) ≡ true))
