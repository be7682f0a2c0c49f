use Rattle.std.proofs.Common.{codes}
use Rattle.clap.specs.Matches.{found_of}
use Rattle.s4d_command.proofs.CommandLineLemmas.{no_word, one_word, no_role, other_word, same_word}
use Rattle.s4d_command.proofs.role_in.Goals as goal

pub returns-in_err-get_str-clause-none : goal.returns-in_err-get_str-clause-none
returns-in_err-get_str-clause-none c =
    rw c.from_residual.ensures (no_role _ (no_word (found_of c.args.matches.now) (codes "role") c.get_str.result c.in_err-get_str.was c.get_str.ensures))

pub returns-clause-none : goal.returns-clause-none
returns-clause-none c =
    other_word _ _ _ (one_word (found_of c.args.matches.now) (codes "role") c.get_str.result c.in_ok-get_str.field-0 c.in_ok-get_str.was c.get_str.ensures) c.role_of.ensures.none

pub returns-clause-some : goal.returns-clause-some
returns-clause-some c =
    same_word _ _ _ (one_word (found_of c.args.matches.now) (codes "role") c.get_str.result c.in_ok-get_str.field-0 c.in_ok-get_str.was c.get_str.ensures) c.role_of.ensures.some
