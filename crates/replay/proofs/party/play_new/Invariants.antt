use Rattle.s4_model.specs.State.{new_base}
use Rattle.replay.proofs.party.play_new.Given as goal

-- the drive that was just made
abbrev pub ghosts-play_made : goal.ghosts-play_made
ghosts-play_made g a = record { frames = a.made.store.table.seat.table; accepts = a.made.accepts; base = new_base a.made.window }
