use Rattle.segment_table.specs.Room.{log_of}
use Rattle.version_store.specs.Store.{fields_of}
use Rattle.drive.specs.Opened.{base_of}
use Rattle.server.specs.Drawing.{AreTicks}
use Rattle.s4d.specs.Running.{IsUnasked}
use Rattle.s4d.proofs.running.run_file.Given as goal

-- the drive that was opened
abbrev pub ghosts-run_begun-J-Naming : goal.ghosts-run_begun-J-Naming
ghosts-run_begun-J-Naming g a = record { frames = a.begun.opened.store.table.seat.table; accepts = a.begun.opened.accepts; base = base_of (fields_of log_of a.begun.opened.store) a.begun.opened.timeline a.begun.opened.next a.begun.opened.audit }

-- the ledger of its changes
abbrev pub ghosts-run_begun-J-Ledger : goal.ghosts-run_begun-J-Ledger
ghosts-run_begun-J-Ledger g a = record { name = a.begun.blanks.changes; parts = a.begun.blanks.parts }

-- a run that begins with it, by the manner that was asked for
abbrev pub ghosts-run_begun-J-Running : goal.ghosts-run_begun-J-Running
ghosts-run_begun-J-Running g a = record {
  begins = IsUnasked (base_of (fields_of log_of a.begun.opened.store) a.begun.opened.timeline a.begun.opened.next a.begun.opened.audit);
  moments = AreTicks (record { start = a.begun.manner.start; tick = a.begun.manner.tick });
  has_upkeep = a.begun.manner.upkeep;
  asked = a.begun.blanks.requests;
  reserve = 0;
}
