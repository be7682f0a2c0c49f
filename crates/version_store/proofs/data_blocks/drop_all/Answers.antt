use Rattle.std.proofs.Common.{ap, refl, ◌∙◌, [], arith}
use Rattle.block_log.specs.declared.kinds.BlockKind.TheVariants.{Journal, Checkpoint, Pointers}
use Rattle.object_map.specs.declared.map.Row.{Row}
use Rattle.std.proofs.lemmas.List.Elements.{All-nil}
use Rattle.checkpoint.proofs.OwnBlocks.{same_checkpoints}
use Rattle.version_store.specs.Store.{IsLed}
use Rattle.version_store.proofs.Dropping.{checkpoint_stands, checkpoint_gone, data_gone, nothing_left, others_left, uncounted_all}
use Rattle.version_store.proofs.Named.{recounts_data}
use Rattle.version_store.proofs.data_blocks.drop_all.Goals as goal

pub recount-requires : goal.recount-requires
recount-requires g c = record { more = All-nil (IsLed (g.B.Blocks.log c.args.table.now).held c.args.object); fewer = c.requires.led; room = λ p. let few = c.requires.room p in omega (arith, few) }

pub drop_sides-bare-requires : goal.drop_sides-bare-requires
drop_sides-bare-requires g c =
    let before = g.B.Blocks.log c.args.table.now in
    let counted = g.B.Blocks.log c.recount.new.table in
    let o = c.args.object in
    let only = recounts_data o before counted [] c.args.pointers.now c.recount.ensures in
    record { row = c.a_row_is_its_own_blocks.ensures.row before.held counted.held o c.args.row.now (only Journal o refl) (same_checkpoints o before.held counted.held (only Checkpoint o refl) (only Pointers o refl)) c.requires.row }

pub drop_checkpoint-requires : goal.drop_checkpoint-requires
drop_checkpoint-requires g c = record {
  held = checkpoint_stands c.a_checkpoint_is_in_its_blocks.ensures.held (g.B.Blocks.log c.drop_sides-bare.new.table).held (g.B.Blocks.log c.drop_journal.new.table).held c.args.object c.drop_sides-bare.result c.drop_sides-bare.ensures.row c.drop_journal.ensures.others;
}

pub returns-clause-nothing : goal.returns-clause-nothing
returns-clause-nothing g c =
    let before = g.B.Blocks.log c.args.table.now in
    let counted = g.B.Blocks.log c.recount.new.table in
    let bared = (g.B.Blocks.log c.drop_sides-bare.new.table).held in
    let first = (g.B.Blocks.log c.drop_journal.new.table).held in
    let second = (g.B.Blocks.log c.drop_checkpoint.new.table).held in
    let dropped = c.drop_checkpoint.ensures.dropped in
    nothing_left c.args.object counted.held bared first second (data_gone before counted c.args.object c.args.pointers.now c.requires.named c.recount.ensures)
    c.drop_sides-bare.ensures.dropped.others c.drop_journal.ensures.gone c.drop_journal.ensures.others
    (checkpoint_gone bared first second c.args.object c.drop_sides-bare.result c.drop_sides-bare.ensures.row (ap (λ (r : Row). r.sides) c.drop_sides-bare.ensures.fields) c.drop_journal.ensures.others dropped) dropped.others

pub returns-clause-others : goal.returns-clause-others
returns-clause-others g c =
    let before = g.B.Blocks.log c.args.table.now in
    let counted = g.B.Blocks.log c.recount.new.table in
    let o = c.args.object in
    others_left o before.held counted.held (g.B.Blocks.log c.drop_sides-bare.new.table).held (g.B.Blocks.log c.drop_journal.new.table).held (g.B.Blocks.log c.drop_checkpoint.new.table).held
    (recounts_data o before counted [] c.args.pointers.now c.recount.ensures)
    c.drop_sides-bare.ensures.dropped.others c.drop_journal.ensures.others c.drop_checkpoint.ensures.dropped.others

pub returns-clause-names : goal.returns-clause-names
returns-clause-names g c =
    let before = g.B.Blocks.log c.args.table.now in
    uncounted_all before (g.B.Blocks.log c.recount.new.table) (g.B.Blocks.log c.drop_sides-bare.new.table) (g.B.Blocks.log c.drop_journal.new.table) (g.B.Blocks.log c.drop_checkpoint.new.table) c.args.object c.args.pointers.now
    c.recount.ensures c.drop_sides-bare.ensures.dropped.others c.drop_journal.ensures.others c.drop_checkpoint.ensures.dropped.others
    (c.drop_checkpoint.ensures.named ∙ c.drop_journal.ensures.named ∙ c.drop_sides-bare.ensures.named) c.names.ensures
