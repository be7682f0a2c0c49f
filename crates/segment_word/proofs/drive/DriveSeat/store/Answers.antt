use Rattle.std.proofs.Common.{◌<◌, ap, sym, subst, ◌∙◌, List, length}
use Rattle.segment_word.specs.Frames.{Frame, View}
use Rattle.segment_word.specs.Handles.{Drive}
use Rattle.segment_word.specs.Layout.{frame_at, block_bytes, with_block}
use Rattle.segment_word.proofs.BlockWords.{put_there}
use Rattle.segment_word.proofs.BlockBytes.{stored_here, stored_elsewhere}
use Rattle.segment_word.proofs.drive.DriveSeat.store.Goals as goal

pub returns-clause-stored : goal.returns-clause-stored
returns-clause-stored c =
    let same = ap (λ (d : Drive). d.frames) c.self.view_is in
    let k : Frame = frame_at c.self.inside.seat.me.0.frames c.args.frame in
    let inside : c.args.frame < length c.self.inside.seat.me.0.frames = subst (λ (l : List Frame). c.args.frame < length l) (sym same) c.requires.inside.0 in
    ap (λ (v : View). block_bytes (frame_at v.frames c.args.frame).contents c.args.block) c.store_block.ensures.view
    ∙ ap (λ (f : Frame). block_bytes f.contents c.args.block) (put_there c.self.inside.seat.me.0 c.args.frame (with_block k c.args.block c.args.bytes.now) inside)
    ∙ stored_here k c.args.block c.args.bytes.now c.requires.inside.1 c.store_block.ensures.whole c.store_block.ensures.back

pub returns-clause-others : goal.returns-clause-others
returns-clause-others c b low apart =
    let same = ap (λ (d : Drive). d.frames) c.self.view_is in
    let k : Frame = frame_at c.self.inside.seat.me.0.frames c.args.frame in
    let inside : c.args.frame < length c.self.inside.seat.me.0.frames = subst (λ (l : List Frame). c.args.frame < length l) (sym same) c.requires.inside.0 in
    ap (λ (v : View). block_bytes (frame_at v.frames c.args.frame).contents b) c.store_block.ensures.view
    ∙ ap (λ (f : Frame). block_bytes f.contents b) (put_there c.self.inside.seat.me.0 c.args.frame (with_block k c.args.block c.args.bytes.now) inside)
    ∙ stored_elsewhere k c.args.block b c.args.bytes.now c.requires.inside.1 low apart c.store_block.ensures.whole
    ∙ ap (λ (l : List Frame). block_bytes (frame_at l c.args.frame).contents b) same
