use Rattle.drive.proofs.Opening.{base_tells, base_listed, begins}
use Rattle.drive.proofs.Ordered.{base_in_order}
use Rattle.drive.proofs.laws.a_base_is_what_its_objects_stand_for.Goals as goal

pub returns-clause-versions : goal.returns-clause-versions
returns-clause-versions c = base_tells c.groups_part_at_a_moment.ensures.ascend

pub returns-clause-listed : goal.returns-clause-listed
returns-clause-listed c = base_listed c.groups_part_at_a_moment.ensures.ascend

pub returns-clause-in_order : goal.returns-clause-in_order
returns-clause-in_order c = base_in_order

pub returns-clause-state : goal.returns-clause-state
returns-clause-state c = begins c.the_present_stays.ensures (base_tells c.groups_part_at_a_moment.ensures.ascend)
