use Rattle.line_diff.proofs.Patches.{hunks_give_new}
use Rattle.line_diff.proofs.laws.hunks_give_the_new_text.Goals as goal

pub returns : goal.returns
returns c = hunks_give_new
