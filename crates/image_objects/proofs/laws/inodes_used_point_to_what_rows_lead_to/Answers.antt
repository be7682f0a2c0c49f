use Rattle.image_objects.proofs.Pointing.{pointed_is_led_to}
use Rattle.image_objects.proofs.laws.inodes_used_point_to_what_rows_lead_to.Goals as goal

pub returns : goal.returns
returns c = pointed_is_led_to c.inodes_point_to_what_rows_name.ensures
