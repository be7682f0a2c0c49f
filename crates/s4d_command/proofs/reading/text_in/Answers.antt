use Rattle.std.proofs.Common.{◌∙◌}
use Rattle.std.specs.Borrow.{Bor}
use Rattle.clap.specs.Matches.{found_of}
use Rattle.clap.specs.Walk.{Text}
use Rattle.clap.proofs.WalkLemmas.{first_value-rows}
use Rattle.s4d_command.proofs.CommandLineLemmas.{value_none, value_some}
use Rattle.s4d_command.proofs.reading.text_in.Goals as goal

pub returns-clause-none : goal.returns-clause-none
returns-clause-none c = value_none (λ (s : Bor Text). s.now) c.get_str.result _ _ c.get_str.ensures (first_value-rows (found_of c.args.matches.now) c.args.id.now)

pub returns-clause-some : goal.returns-clause-some
returns-clause-some c = value_some (λ (s : Bor Text). s.now) c.get_str.result _ _ c.get_str.ensures (first_value-rows (found_of c.args.matches.now) c.args.id.now)

pub returns-clause-same : goal.returns-clause-same
returns-clause-same c = c.get_str.ensures ∙ first_value-rows (found_of c.args.matches.now) c.args.id.now
