use Rattle.segment_table.specs.Room.{log_of}
use Rattle.version_store.specs.Store.{fields_of}
use Rattle.drive.proofs.Opening.{kept_opened}
use Rattle.drive.proofs.opened_drive.OpenedDrive.from_parts.Goals as goal

-- what is asked of the parts makes a drive of them
pub invariant_of-result : goal.invariant_of-result
invariant_of-result c = (
  kept_opened c.the_present_stays.ensures c.a_base_is_what_its_objects_stand_for.ensures.versions c.a_base_is_what_its_objects_stand_for.ensures.listed
      (fields_of log_of c.args.store) c.args.window c.args.next c.args.audit.rows
      c.requires.store c.requires.past c.requires.below c.requires.reach c.requires.numbered c.requires.given c.requires.unborn c.requires.ended c.requires.owned c.requires.rows,
  c.requires.accepted,
)
