-- The parts of an image once its drive has seen a moment: clock, floor, spans and audit rows follow, and nothing else.
use Rattle.std.specs.Prelude.{ℕ, ◌-◌, max, Bool, nat_le, filter, map}
use Rattle.s4_types.specs.History.{Base, Seen}
use Rattle.s4_model.specs.Promise.{GoesOn, beginning}
use Rattle.s4_model.specs.State.{grown}
use Rattle.window.specs.Runs.{cut, is_live}
use Rattle.image_parts.specs.Image.{Image}
use Rattle.image_parts.specs.declared.audit.AuditPart.{AuditPart}
use Rattle.verifier.specs.Opened.{IsToldBy}

-- the floor of an image's drive then
abbrev pub floor_seen : Image → ℕ → ℕ
floor_seen parts m = max parts.floor (max parts.clock m - parts.window)

-- whether an audit row is of this moment or a later one
abbrev pub is_part_from : ℕ → AuditPart → Bool
is_part_from t part = nat_le t part.moment

abbrev pub parts_seen : Image → ℕ → Image
parts_seen parts m = record parts {
  clock = max parts.clock m;
  floor = floor_seen parts m;
  spans = map (cut (floor_seen parts m)) (filter (is_live (floor_seen parts m)) parts.spans);
  audit = filter (is_part_from (floor_seen parts m)) parts.audit;
}

-- What begins with a base goes on where what begins with the parts has seen a moment.
pub record GoesOnSeen (parts : Image) (m : ℕ) (base : Base) : Type 0 where
  pub before : Base
  pub told : IsToldBy parts before
  pub goes_on : GoesOn (grown (beginning before) (Seen m)) (beginning base)
