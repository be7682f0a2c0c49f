use Rattle.std.specs.Prelude.{⊤, true}
use Rattle.s4_model.specs.State.{new_base}
use Rattle.server_tests.proofs.tests.play_over.Given as goal

-- the drive that was just made
abbrev pub ghosts-play_named-J-Naming : goal.ghosts-play_named-J-Naming
ghosts-play_named-J-Naming g a = record { frames = a.made.store.table.seat.table; accepts = a.made.accepts; base = new_base a.made.window }

-- the ledger of its changes
abbrev pub ghosts-play_named-J-Ledger : goal.ghosts-play_named-J-Ledger
ghosts-play_named-J-Ledger g a = record { name = a.blanks.changes; parts = a.blanks.parts }

-- a run that begins with any drive, draws any moments, and may have upkeep
abbrev pub ghosts-play_named-J-Running : goal.ghosts-play_named-J-Running
ghosts-play_named-J-Running g a = record { begins = λ _. ⊤; moments = λ _. ⊤; has_upkeep = true; asked = a.blanks.requests; reserve = 0 }
