use Rattle.window.proofs.Cutting.{cut_none}
use Rattle.window.proofs.laws.runs_from_the_floor_on_are_saved_whole.Goals as goal

pub returns : goal.returns
returns c = λ floor runs from. cut_none floor runs from
