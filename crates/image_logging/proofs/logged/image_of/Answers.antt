use Rattle.std.proofs.Common.{ap, ◌∙◌}
use Rattle.image_logging.specs.Reading.{front_of}
use Rattle.image_logging.proofs.Following.{image_again}
use Rattle.image_logging.proofs.logged.image_of.Goals as goal

pub returns-in-Ok-clause-front : goal.returns-in-Ok-clause-front
returns-in-Ok-clause-front c = ap front_of c.in-Ok.ensures.items ∙ image_again c.args.front.items
