use Rattle.segment_table.specs.Room.{log_of}
use Rattle.version_store.specs.Store.{fields_of}
use Rattle.drive.specs.Opened.{base_of}
use Rattle.s4_copy.proofs.counting.versions_left_out.Given as goal

-- the drive that was opened
abbrev pub ghosts-lost_of_opened : goal.ghosts-lost_of_opened
ghosts-lost_of_opened g a = record { frames = a.opened.store.table.seat.table; accepts = a.opened.accepts; base = base_of (fields_of log_of a.opened.store) a.opened.timeline a.opened.next a.opened.audit }
