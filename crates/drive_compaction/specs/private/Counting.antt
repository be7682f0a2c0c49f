-- What was counted of a frame. No public clause cites this file.
use Rattle.std.specs.Prelude.{◌*◌, ◌≤◌, length}
use Rattle.s4_types.specs.declared.limits.TheConstants.{PAYLOAD_BLOCKS}
use Rattle.drive.specs.Fields.{DriveFields}
use Rattle.segment_copier.specs.declared.counting.Counted.{Counted}
use Rattle.segment_copier.specs.Gathering.{free_count}

-- something is held, and the free frames have as many blocks as its moves write
abbrev pub Fits : DriveFields → Counted → Type 0
Fits d c = (1 ≤ length c.objects.items) × (c.blocks ≤ PAYLOAD_BLOCKS * free_count d.store.table)
