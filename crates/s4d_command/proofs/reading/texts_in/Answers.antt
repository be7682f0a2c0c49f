use Rattle.std.proofs.Common.{List, ◌∙◌}
use Rattle.std.specs.Borrow.{Bor}
use Rattle.clap.specs.Matches.{found_of}
use Rattle.clap.specs.Walk.{Text, texts}
use Rattle.clap.proofs.WalkLemmas.{raw_values-rows}
use Rattle.s4d_command.proofs.CommandLineLemmas.{value_none, value_some}
use Rattle.s4d_command.proofs.reading.texts_in.Goals as goal

pub returns-clause-none : goal.returns-clause-none
returns-clause-none c = value_none (λ (s : Bor (List (Bor Text))). texts s.now) c.get_strs.result _ _ c.get_strs.ensures (raw_values-rows (found_of c.args.matches.now) c.args.id.now)

pub returns-clause-some : goal.returns-clause-some
returns-clause-some c = value_some (λ (s : Bor (List (Bor Text))). texts s.now) c.get_strs.result _ _ c.get_strs.ensures (raw_values-rows (found_of c.args.matches.now) c.args.id.now)

pub returns-clause-same : goal.returns-clause-same
returns-clause-same c = c.get_strs.ensures ∙ raw_values-rows (found_of c.args.matches.now) c.args.id.now
