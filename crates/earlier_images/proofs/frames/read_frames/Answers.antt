use Rattle.std.proofs.Common.{◌+◌, ◌||◌, Bool, true≢false, sym, subst, ◌∙◌}
use Rattle.earlier_images.proofs.FramesRead.{HaveRead, all_read, one_read}
use Rattle.earlier_images.proofs.frames.read_frames.Goals.{else-has_open-via-then-has_open+else-is_open, else-has_open-via-else-has_open}
use Rattle.earlier_images.proofs.frames.read_frames.Goals as goal

pub loop-part-preserved : goal.loop-part-preserved
loop-part-preserved c =
    let frames = c.args.parts.now.frames in
    let n = c.loop-part.number in
    let opened = c.loop-part.has_open in
    let A : Bool → Type 0 = λ o. HaveRead c.args.version frames (n + 1) (opened || o) c.next.new.self c.push.new.self.items in
    subst A (sym c.is_open-is_open.ensures)
    (one_read c.args.version frames n opened c.in-Some.part c.next.new.self c.loop-part.part-iterator c.loop-part.frames.items c.push.new.self.items c.in-Some-read_frame_by.read c.loop-part.invariant c.in-Some.ensures.steps
    c.in-Some-read_frame_by.ensures.rules c.in-Some-read_frame_by.ensures.read
    (λ a b. elim c.else-has_open.branch [
      | else-has_open-via-then-has_open+else-is_open w ↦ true≢false (sym b ∙ sym c.is_open-is_open.ensures ∙ w.if-is_open.false)
      | else-has_open-via-else-has_open w ↦ true≢false (sym a ∙ w.if-has_open.false)
    ])
    c.in_ok-push.ensures.items)

pub returns-clause-frames : goal.returns-clause-frames
returns-clause-frames c = all_read c.args.version c.args.parts.now.frames c.loop-part.number c.loop-part.has_open c.loop-part.part-iterator c.loop-part.frames.items c.loop-part.invariant c.in-None.ensures.steps.0
