use Rattle.std.proofs.Common.{ap, ◌∙◌}
use Rattle.drive.specs.Fields.{store_of}
use Rattle.version_store.specs.Versions.{entries_of_object}
use Rattle.drive_compaction.proofs.Counted.{both_counted}
use Rattle.drive_compaction.proofs.counts.blocks_of.Goals as goal

pub checkpoint_size-checkpoint-requires : goal.checkpoint_size-checkpoint-requires
checkpoint_size-checkpoint-requires g c = (c.rules.ensures.store.objects c.args.object c.args.row.now c.requires.row).stands

pub returns-clause-blocks : goal.returns-clause-blocks
returns-clause-blocks g c =
    both_counted (store_of c.args.drive.now) c.args.object c.args.row.now c.as_slice.result.now c.checkpoint_size-checkpoint.result c.journal_blocks.result c.requires.row
    (c.as_slice.ensures.value ∙ c.in_ok-entries.ensures.entries ∙ ap (λ s. entries_of_object s c.args.object) (ap store_of c.checkpoint_size-checkpoint.ensures.same)) c.checkpoint_size-checkpoint.ensures.blocks c.journal_blocks.ensures.blocks
