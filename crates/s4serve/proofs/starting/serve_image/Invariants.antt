use Rattle.std.specs.Prelude.{⊤, map, true}
use Rattle.segment_table.specs.Room.{log_of}
use Rattle.version_store.specs.Store.{fields_of}
use Rattle.drive.specs.Opened.{base_of}
use Rattle.service_time.specs.Drawing.{Ascends}
use Rattle.s4serve.specs.Doors.{asked_door}
use Rattle.s4serve.proofs.starting.serve_image.Given as goal

-- the drive that was opened
abbrev pub ghosts-serve_ready-J-Naming : goal.ghosts-serve_ready-J-Naming
ghosts-serve_ready-J-Naming g a = record { frames = a.ready.drive.store.table.seat.table; accepts = a.ready.drive.accepts; base = base_of (fields_of log_of a.ready.drive.store) a.ready.drive.timeline a.ready.drive.next a.ready.drive.audit }

-- the ledger of its changes
abbrev pub ghosts-serve_ready-J-Ledger : goal.ghosts-serve_ready-J-Ledger
ghosts-serve_ready-J-Ledger g a = record { name = a.ready.blanks.changes; parts = a.ready.blanks.parts }

-- a run with upkeep, whose moments never go back
abbrev pub ghosts-serve_ready-J-Running : goal.ghosts-serve_ready-J-Running
ghosts-serve_ready-J-Running g a = record {
  begins = λ d. ⊤;
  moments = Ascends a.ready.start;
  has_upkeep = true;
  asked = a.ready.blanks.requests;
  reserve = a.ready.reserve;
}

-- a service with the doors that were asked for, which begins there
abbrev pub ghosts-serve_ready-J-Serving : goal.ghosts-serve_ready-J-Serving
ghosts-serve_ready-J-Serving g a = record { doors = map asked_door a.asked.now.doors.items; start = a.ready.start }
