use Rattle.s4_model.specs.State.{new_base}
use Rattle.s4d.proofs.piping.serve_pipe.Given as goal

-- the drive that was just made
abbrev pub ghosts-serve_named : goal.ghosts-serve_named
ghosts-serve_named g a = record { frames = a.made.store.table.seat.table; accepts = a.made.accepts; base = new_base a.made.window }
