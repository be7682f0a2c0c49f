use Rattle.std.proofs.Common.{◌++◌, List, rules, refl, sym, ap, subst, ◌∙◌}
use Rattle.block_log.specs.declared.kinds.BlockKind.TheVariants.{Checkpoint, Pointers}
use Rattle.codec.specs.Entry.{EntryFields}
use Rattle.undo_redo.specs.Runs.{Run, AllAt}
use Rattle.undo_redo.specs.Groups.{grouped}
use Rattle.checkpoint.proofs.OwnBlocks.{same_checkpoints}
use Rattle.row_changes.proofs.OrderKept.{made_orderly, turned_orderly}
use Rattle.time_read.specs.Rows.{entries_of}
use Rattle.row_changes.proofs.Pushing.{Pushed, with_chain, holding, pushed_row, pushed_by, pushed_inode}
use Rattle.row_changes.proofs.changes.record_change.Goals as goal

pub of-chain-requires-clause-one_block : goal.of-chain-requires-clause-one_block
of-chain-requires-clause-one_block g c = c.later_entries_join_a_row.ensures.newest (g.B.Blocks.log c.args.table.now).held c.args.object c.args.row.now c.requires.row

pub returns : goal.returns
returns g c =
    let held = (g.B.Blocks.log c.args.table.now).held in
    let later = (g.B.Blocks.log c.push.new.table).held in
    let o = c.args.object in
    let row = c.args.row.now in
    let head = c.head.result in
    let bytes = c.bytes.result in
    let filled = c.filled.result in
    let before = c.args.before.now in
    let after = c.args.after.now in
    let m = c.args.moment in
    let new = c.args.entries.now in
    let told = c.requires.told in
    let between = c.the_entries_between_two_inodes.ensures in
    let laws = c.later_entries_join_a_row.ensures in
    let p : Pushed held later o row (with_chain row head bytes filled) before after m new = record {
      stands = c.requires.row;
      earlier = c.requires.earlier;
      before = c.requires.before;
      least = c.requires.lead.moment;
      run = subst (λ (es : List EntryFields). Run before es after) (sym told) (between.run before after m c.requires.lead);
      group = ap grouped told ∙ between.group before after m c.requires.lead;
      moments = subst (λ (es : List EntryFields). AllAt m es) (sym told) (between.moments before after m);
      chain = holding held later o row head bytes filled new new c.of-chain.result c.push.new.self laws.chain c.of-chain.ensures c.push.ensures.object c.head.ensures c.bytes.ensures.bytes c.filled.ensures.filled refl c.push.ensures.holds;
      checkpoints = same_checkpoints o held later (c.push.ensures.others Checkpoint o refl) (c.push.ensures.others Pointers o refl);
    } in
    record {
      row = pushed_row held later o row head bytes filled before after m new laws p;
      latest = pushed_by held later o row head bytes filled before after m new p;
      inode = λ t. pushed_inode held later o row head bytes filled before after m new t laws p;
      entries = p.chain.entries ∙ ap (λ es. entries_of held o row ++ es) told;
      made = made_orderly laws.end held later o row head bytes filled before after m new p c.requires.lead;
      orderly = turned_orderly laws.end laws.done held later o row head bytes filled before after m new p c.requires.lead;
      fields = search rules;
      others = search rules;
      takes = search rules;
      named = search rules;
    }
