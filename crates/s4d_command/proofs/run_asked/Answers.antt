use Rattle.std.proofs.Common.{codes, refl}
use Rattle.clap.specs.Matches.{found_of}
use Rattle.clap.specs.Walk.{rows_of}
use Rattle.s4d_command.proofs.CommandLineLemmas.{no_run, same_error}
use Rattle.s4d_command.proofs.run_asked.Goals as goal

pub returns-in-Err-clause-usage : goal.returns-in-Err-clause-usage
returns-in-Err-clause-usage c = λ e. no_run (codes "run") (rows_of (found_of c.args.found.now)) refl (c.in-Err.ensures.usage (same_error c.in-Err.error _ e))
