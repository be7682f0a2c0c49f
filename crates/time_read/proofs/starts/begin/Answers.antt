use Rattle.std.proofs.Common.{◌∙◌}
use Rattle.time_read.proofs.Cached.{adds_none}
use Rattle.time_read.proofs.Starting.{nearest_is, is_start, start_is_inside, start_is_least, start_stands, blank_stands, blank_is_least}
use Rattle.time_read.proofs.starts.begin.Goals as goal

pub returns-in_default-clause-inode : goal.returns-in_default-clause-inode
returns-in_default-clause-inode g c =
    c.blank.ensures ∙ blank_stands (g.B.Blocks.log c.args.table.now).held c.args.object c.args.row.now c.args.entries.now c.in_default.is

pub returns-in_default-clause-count : goal.returns-in_default-clause-count
returns-in_default-clause-count g c = blank_is_least c.args.row.now c.args.entries.now c.args.to c.in_default.is

pub returns-in_default-clause-kept : goal.returns-in_default-clause-kept
returns-in_default-clause-kept g c = adds_none (g.B.Blocks.log c.args.table.now).held c.args.object c.args.row.now c.args.cache.now.pairs

pub named_inode-inode-requires-clause-named : goal.named_inode-inode-requires-clause-named
named_inode-inode-requires-clause-named g c =
    let held = (g.B.Blocks.log c.args.table.now).held in
    let row = c.args.row.now in
    let es = c.args.entries.now in
    let start = c.nearest-start.result in
    let nearest = nearest_is row es c.args.to c.in-Some.place start c.start_at-newest.result c.as_slice.result.now c.nearest-start.ensures c.start_at-newest.ensures c.as_slice.ensures.value in
    (is_start held c.args.object row es c.args.to c.in-Some.place start c.requires.row c.in-Some.is nearest).named

pub returns-clause-inode : goal.returns-clause-inode
returns-clause-inode g c =
    let held = (g.B.Blocks.log c.args.table.now).held in
    let row = c.args.row.now in
    let es = c.args.entries.now in
    let start = c.nearest-start.result in
    let nearest = nearest_is row es c.args.to c.in-Some.place start c.start_at-newest.result c.as_slice.result.now c.nearest-start.ensures c.start_at-newest.ensures c.as_slice.ensures.value in
    start_stands c.groups_part_at_a_moment.ensures.ascend c.groups_part_at_a_moment.ensures.parts held c.args.object row es start c.named_inode-inode.result c.requires.row c.requires.entries
    (is_start held c.args.object row es c.args.to c.in-Some.place start c.requires.row c.in-Some.is nearest) c.named_inode-inode.ensures.inode

pub returns-clause-few : goal.returns-clause-few
returns-clause-few g c =
    let held = (g.B.Blocks.log c.args.table.now).held in
    let row = c.args.row.now in
    let es = c.args.entries.now in
    let start = c.nearest-start.result in
    let nearest = nearest_is row es c.args.to c.in-Some.place start c.start_at-newest.result c.as_slice.result.now c.nearest-start.ensures c.start_at-newest.ensures c.as_slice.ensures.value in
    start_is_inside held c.args.object row es start (is_start held c.args.object row es c.args.to c.in-Some.place start c.requires.row c.in-Some.is nearest)

pub returns-clause-count : goal.returns-clause-count
returns-clause-count g c =
    let row = c.args.row.now in
    let es = c.args.entries.now in
    let start = c.nearest-start.result in
    let nearest = nearest_is row es c.args.to c.in-Some.place start c.start_at-newest.result c.as_slice.result.now c.nearest-start.ensures c.start_at-newest.ensures c.as_slice.ensures.value in
    start_is_least row es c.args.to c.in-Some.place start c.in-Some.is nearest
