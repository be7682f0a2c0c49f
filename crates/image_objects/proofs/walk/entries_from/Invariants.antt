use Rattle.std.proofs.Common.{◌≡◌, ◌+◌}
use Rattle.s4_types.specs.declared.limits.TheConstants.{JOURNAL_ENTRY_BYTES}
use Rattle.codec.specs.Versions.{chain_blocks_by}
use Rattle.image_objects.specs.Versions.{journal_used_by}
use Rattle.image_objects.specs.private.Walked.{walked, reached}
use Rattle.image_objects.proofs.walk.entries_from.Given as goal

abbrev pub invariant-loop-walk : goal.invariant-loop-walk
invariant-loop-walk g l =
    reached l.version l.left (journal_used_by l.version (g.U.UsedBlocks.used l.used) l.object) l.walk.first_bytes l.walk.previous l.walk.entries.items
    ≡ walked l.version (chain_blocks_by l.version) (journal_used_by l.version (g.U.UsedBlocks.used l.used) l.object) (JOURNAL_ENTRY_BYTES + 1) l.fn.head

abbrev pub decreases-loop-walk : goal.decreases-loop-walk
decreases-loop-walk g l = l.left
