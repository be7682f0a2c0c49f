use Rattle.std.proofs.Common.{◌∙◌, arith}
use Rattle.time_read.proofs.Starting.{few_entries, led_there, counted_is}
use Rattle.time_read.proofs.starts.led_from_nearest.Goals as goal

pub entries_between-requires : goal.entries_between-requires
entries_between-requires g c =
    let held = (g.B.Blocks.log c.args.table.now).held in
    let row = c.args.row.now in
    let few = few_entries held c.args.object row c.args.entries.now c.requires.row c.requires.entries c.chains_are_short.ensures.entries in
    record { from = omega (arith, few, c.begin-inode.ensures.few); to = omega (arith, few, c.place_of-to.ensures.few) }

pub returns-clause-inode : goal.returns-clause-inode
returns-clause-inode g c =
    let held = (g.B.Blocks.log c.args.table.now).held in
    led_there c.groups_part_at_a_moment.ensures.ascend c.groups_part_at_a_moment.ensures.parts held c.args.object c.args.row.now c.args.entries.now c.args.at c.place_of-to.result c.begin-inode.result.1 c.begin-inode.result.0 c.lead.new.inode
    c.requires.row c.requires.entries c.place_of-to.ensures.place c.begin-inode.ensures.inode c.lead.ensures

pub returns-clause-count : goal.returns-clause-count
returns-clause-count g c =
    let held = (g.B.Blocks.log c.args.table.now).held in
    counted_is held c.args.object c.args.row.now c.args.entries.now c.args.at c.place_of-to.result c.entries_between.result c.requires.entries c.place_of-to.ensures.place (c.entries_between.ensures ∙ c.begin-inode.ensures.count)
