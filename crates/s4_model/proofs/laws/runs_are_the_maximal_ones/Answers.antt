use Rattle.s4_model.proofs.RunLaws.{runs_are_maximal}
use Rattle.s4_model.proofs.ListLaws.{lists_have_maximal_runs, lists_hide_alike, no_list_is_left_out}
use Rattle.s4_model.proofs.laws.runs_are_the_maximal_ones.Goals as goal

pub returns : goal.returns
returns c = record { maximal = runs_are_maximal; lists = lists_have_maximal_runs; alike = lists_hide_alike; all = no_list_is_left_out }
