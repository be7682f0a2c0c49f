use Rattle.clap.specs.Matches.{found_of}
use Rattle.clap.specs.Walk.{rows_of}
use Rattle.s4serve_command.proofs.CreationLemmas.{no_number}
use Rattle.s4serve_command.proofs.reading.blocks_in.Goals as goal

pub returns-in-None-clause-usage : goal.returns-in-None-clause-usage
returns-in-None-clause-usage c =
    no_number c.args.id.now (rows_of (found_of c.args.matches.now)) c.in-Some.word.now c.in-Some.ensures.some c.in-None.ensures.none
