use Rattle.std.proofs.Common.{◌≡◌, ◌≢◌, ◌<◌, length, sym, subst, arith, ◌∙◌, ap}
use Rattle.segment_word.specs.Frames.{Open, code_of}
use Rattle.segment_word.specs.Layout.{frame_at}
use Rattle.segment_table.specs.declared.table.SegmentTable.TheInside.{Inside}
use Rattle.segment_table.specs.Table.{Table, slots_at}
use Rattle.segment_table.proofs.SavedBlocks.{AreSaved, all_saved}
use Rattle.segment_table.proofs.table.SegmentTableOverFrames.save_blocks.Goals.{After-save_all}
use Rattle.segment_table.proofs.table.SegmentTableOverFrames.save_blocks.Goals as goal

-- the blocks of a frame that is in use are those that are saved of it
saved : (c : After-save_all) → AreSaved c.args.frame (frame_at c.args.self.now.seat.frames c.args.frame) (slots_at c.args.self.now.slots c.args.frame) c.save_all.new.blocks
saved c =
    let old : Table = record { seat = c.self-inside.inside.0.1.0.seat; slots = c.self-inside.inside.0.1.0.slots.items } in
    let f = c.args.frame in
    let I : Table → Type 0 = λ t. f < length t.seat.frames in
    let C : Table → Type 0 = λ t. 0 < code_of (frame_at t.seat.frames f).phase in
    let N : Table → Type 0 = λ t. (frame_at t.seat.frames f).phase ≢ Open in
    let S : Table → Type 0 = λ t. AreSaved f (frame_at t.seat.frames f) (slots_at t.slots f) c.save_all.new.blocks in
    let same : old ≡ c.args.self.now = ap (λ (i : Inside). i.segments) c.self-inside.view_is ∙ c.self.view_is in
    subst S same (all_saved f (frame_at old.seat.frames f) (slots_at old.slots f) c.save_all.new.blocks (c.self-inside.invariant.0.fit f (subst I (sym same) c.requires.inside)) (subst C (sym same) c.requires.used) (subst N (sym same) c.if-is_filling.ensures) c.save_all.ensures.blocks)

pub returns-else-is_filling-clause-spelled : goal.returns-else-is_filling-clause-spelled
returns-else-is_filling-clause-spelled c = (saved (goal.at.returns-else-is_filling-clause-spelled c).After-save_all).spelled

pub returns-else-is_filling-clause-whole : goal.returns-else-is_filling-clause-whole
returns-else-is_filling-clause-whole c = λ some. (saved (goal.at.returns-else-is_filling-clause-whole c).After-save_all).whole

pub returns-else-is_filling-clause-kept : goal.returns-else-is_filling-clause-kept
returns-else-is_filling-clause-kept c = λ b low high.
    let all = saved (goal.at.returns-else-is_filling-clause-kept c).After-save_all in
    let few = all.few in
    all.whole b (omega arith)
