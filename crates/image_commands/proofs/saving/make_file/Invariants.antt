use Rattle.s4_model.specs.State.{new_base}
use Rattle.image_commands.proofs.saving.make_file.Given as goal

-- the drive that was just made
abbrev pub ghosts-save_new : goal.ghosts-save_new
ghosts-save_new g a = record { frames = a.made.store.table.seat.table; accepts = a.made.accepts; base = new_base a.made.window }
