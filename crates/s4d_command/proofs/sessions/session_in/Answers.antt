use Rattle.s4d_command.proofs.SessionLemmas.{uncut_rest, no_role_there}
use Rattle.s4d_command.proofs.sessions.session_in.Goals as goal

pub returns-in_default-cut-clause-none : goal.returns-in_default-cut-clause-none
returns-in_default-cut-clause-none c = uncut_rest c.args.word.now c.in-Some.role.now c.in-Some.rest.now c.in-Some.ensures.some c.in_default-cut.ensures.none

pub returns-in-None-clause-none : goal.returns-in-None-clause-none
returns-in-None-clause-none c = no_role_there c.args.word.now c.in-Some.role.now c.in-Some.rest.now c.in-Some.ensures.some c.in-None.ensures.none
