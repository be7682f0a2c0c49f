use Rattle.s4serve.proofs.DoorLemmas.{inputs_at}
use Rattle.s4serve.proofs.starting.serve_kept.Goals as goal

-- each door's own input is read
pub start_threads-requires-clause-inputs : goal.start_threads-requires-clause-inputs
start_threads-requires-clause-inputs g c = λ lifetimes outlives. inputs_at g.D.Fifos.reads c.args.asked.now.doors.items g.J.Serving.doors c.args.inputs.items c.requires.doors c.requires.inputs
