use Rattle.image_objects.proofs.MomentsOnce.{share_none, stand_once, standing_once, standing_once_by}
use Rattle.image_objects.proofs.laws.moments_told_once_are_not_shared.Goals as goal

pub returns-clause-apart : goal.returns-clause-apart
returns-clause-apart c = share_none

pub returns-clause-once : goal.returns-clause-once
returns-clause-once c = stand_once c.groups_part_at_a_moment.ensures.ascend

pub returns-clause-standing : goal.returns-clause-standing
returns-clause-standing c = standing_once c.groups_part_at_a_moment.ensures.ascend

pub returns-clause-standing_by : goal.returns-clause-standing_by
returns-clause-standing_by c = standing_once_by c.groups_part_at_a_moment.ensures.ascend
