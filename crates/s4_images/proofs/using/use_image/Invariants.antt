use Rattle.segment_table.specs.Room.{log_of}
use Rattle.version_store.specs.Store.{fields_of}
use Rattle.drive.specs.Opened.{base_of}
use Rattle.s4_images.proofs.using.use_image.Given as goal

-- the drive that was opened
abbrev pub ghosts-use_opened : goal.ghosts-use_opened
ghosts-use_opened g a = record { frames = a.opened.store.table.seat.table; accepts = a.opened.accepts; base = base_of (fields_of log_of a.opened.store) a.opened.timeline a.opened.next a.opened.audit }
