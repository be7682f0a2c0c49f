use Rattle.std.proofs.Common.{sym, arith}
use Rattle.window.proofs.Live.{all_live}
use Rattle.window.proofs.runs.sift_with.Goals as goal

pub returns-else-number : goal.returns-else-number
returns-else-number c = sym (all_live c.args.floor c.args.runs.now.items (c.requires (omega arith)))
