use Rattle.std.proofs.Common.{◌≡◌, ◌/◌, length-set, ◌∙◌, sym}
use Rattle.inode.specs.Contents.{contents_of}
use Rattle.inode.specs.Touched.{cut_count}
use Rattle.inode.proofs.Frames.{lead}
use Rattle.inode.proofs.Truncates.{whole_truncated, cut_truncated, whole_growth, whole_log, cut_growth, cut_log, cut_room, truncate_means, truncate_tidy, truncate_held}
use Rattle.inode.proofs.truncations.truncate.Goals as goal

pub returns-then-blocks_of_truncate-eq0-clause-inode : goal.returns-then-blocks_of_truncate-eq0-clause-inode
returns-then-blocks_of_truncate-eq0-clause-inode g c =
    whole_truncated (g.B.Blocks.log c.args.table.now).ahead c.args.moment c.args.size c.args.inode.now c.without_pointers_past-next.result c.without_pointers_past-next.ensures.rest c.without_pointers_past-next.ensures.pointers (sym c.blocks_of_truncate.ensures ∙ c.if-blocks_of_truncate-eq0.true)

pub returns-then-blocks_of_truncate-eq0-clause-growth : goal.returns-then-blocks_of_truncate-eq0-clause-growth
returns-then-blocks_of_truncate-eq0-clause-growth g c =
    whole_growth c.args.object (contents_of (g.B.Blocks.log c.args.table.now).held) c.args.inode.now c.args.size (g.B.Blocks.log c.args.table.now) (sym c.blocks_of_truncate.ensures ∙ c.if-blocks_of_truncate-eq0.true)

pub returns-then-blocks_of_truncate-eq0-clause-log : goal.returns-then-blocks_of_truncate-eq0-clause-log
returns-then-blocks_of_truncate-eq0-clause-log g c =
    whole_log c.args.object (contents_of (g.B.Blocks.log c.args.table.now).held) c.args.inode.now c.args.size (g.B.Blocks.log c.args.table.now) (sym c.blocks_of_truncate.ensures ∙ c.if-blocks_of_truncate-eq0.true)

pub returns-then-blocks_of_truncate-eq0-clause-meaning : goal.returns-then-blocks_of_truncate-eq0-clause-meaning
returns-then-blocks_of_truncate-eq0-clause-meaning g c =
    truncate_means c.args.object c.args.moment c.args.size c.args.inode.now _ (g.B.Blocks.log c.args.table.now) (g.B.Blocks.log c.args.table.now) (returns-then-blocks_of_truncate-eq0-clause-growth g c) (returns-then-blocks_of_truncate-eq0-clause-inode g c) c.requires.tidy (lead (g.B.Blocks.log c.args.table.now).held c.args.object c.args.inode.now c.requires.pointers)

pub returns-then-blocks_of_truncate-eq0-clause-tidy : goal.returns-then-blocks_of_truncate-eq0-clause-tidy
returns-then-blocks_of_truncate-eq0-clause-tidy g c =
    truncate_tidy c.args.object c.args.moment c.args.size c.args.inode.now _ (g.B.Blocks.log c.args.table.now) (g.B.Blocks.log c.args.table.now) (returns-then-blocks_of_truncate-eq0-clause-growth g c) (returns-then-blocks_of_truncate-eq0-clause-inode g c) c.requires.tidy (lead (g.B.Blocks.log c.args.table.now).held c.args.object c.args.inode.now c.requires.pointers) c.requires.size c.without_pointers_past-next.ensures.count

pub returns-then-blocks_of_truncate-eq0-clause-pointers : goal.returns-then-blocks_of_truncate-eq0-clause-pointers
returns-then-blocks_of_truncate-eq0-clause-pointers g c =
    truncate_held c.args.object c.args.moment c.args.size c.args.inode.now _ (g.B.Blocks.log c.args.table.now) (g.B.Blocks.log c.args.table.now) (returns-then-blocks_of_truncate-eq0-clause-growth g c) (returns-then-blocks_of_truncate-eq0-clause-inode g c) c.requires.pointers

pub cut_block-place-requires-clause-lead : goal.cut_block-place-requires-clause-lead
cut_block-place-requires-clause-lead g c = lead (g.B.Blocks.log c.args.table.now).held c.args.object c.args.inode.now c.requires.pointers

pub returns-clause-inode : goal.returns-clause-inode
returns-clause-inode g c =
    cut_truncated (g.B.Blocks.log c.args.table.now).ahead c.args.moment c.args.size c.args.inode.now c.without_pointers_past-next.result c.cut_block-place.result c.without_pointers_past-next.ensures.rest c.without_pointers_past-next.ensures.count c.requires.size c.without_pointers_past-next.ensures.pointers
    (λ none. c.if-blocks_of_truncate-eq0.false (c.blocks_of_truncate.ensures ∙ none)) c.cut_block-place.ensures.place

pub returns-clause-growth : goal.returns-clause-growth
returns-clause-growth g c =
    let one : cut_count c.args.inode.now c.args.size ≡ 1 = cut_room c.args.inode.now c.args.size (λ none. c.if-blocks_of_truncate-eq0.false (c.blocks_of_truncate.ensures ∙ none)) in
    cut_growth c.args.object (contents_of (g.B.Blocks.log c.args.table.now).held) c.args.inode.now c.args.size (g.B.Blocks.log c.args.table.now) (g.B.Blocks.log c.cut_block-place.new.table) c.cut_block-place.result one c.cut_block-place.ensures.log c.cut_block-place.ensures.place c.cut_block-place.ensures.fresh

pub returns-clause-log : goal.returns-clause-log
returns-clause-log g c =
    let one : cut_count c.args.inode.now c.args.size ≡ 1 = cut_room c.args.inode.now c.args.size (λ none. c.if-blocks_of_truncate-eq0.false (c.blocks_of_truncate.ensures ∙ none)) in
    cut_log c.args.object (contents_of (g.B.Blocks.log c.args.table.now).held) c.args.inode.now c.args.size (g.B.Blocks.log c.args.table.now) (g.B.Blocks.log c.cut_block-place.new.table) one c.cut_block-place.ensures.log

pub returns-clause-meaning : goal.returns-clause-meaning
returns-clause-meaning g c =
    truncate_means c.args.object c.args.moment c.args.size c.args.inode.now _ (g.B.Blocks.log c.args.table.now) (g.B.Blocks.log c.cut_block-place.new.table) (returns-clause-growth g c) (returns-clause-inode g c) c.requires.tidy (lead (g.B.Blocks.log c.args.table.now).held c.args.object c.args.inode.now c.requires.pointers)

pub returns-clause-tidy : goal.returns-clause-tidy
returns-clause-tidy g c =
    truncate_tidy c.args.object c.args.moment c.args.size c.args.inode.now _ (g.B.Blocks.log c.args.table.now) (g.B.Blocks.log c.cut_block-place.new.table) (returns-clause-growth g c) (returns-clause-inode g c) c.requires.tidy (lead (g.B.Blocks.log c.args.table.now).held c.args.object c.args.inode.now c.requires.pointers) c.requires.size
    (length-set c.without_pointers_past-next.result.pointers (c.args.size / 512) _ ∙ c.without_pointers_past-next.ensures.count)

pub returns-clause-pointers : goal.returns-clause-pointers
returns-clause-pointers g c =
    truncate_held c.args.object c.args.moment c.args.size c.args.inode.now _ (g.B.Blocks.log c.args.table.now) (g.B.Blocks.log c.cut_block-place.new.table) (returns-clause-growth g c) (returns-clause-inode g c) c.requires.pointers
