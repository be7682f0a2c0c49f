use Rattle.std.proofs.Common.{◌+◌, ◌||◌, Bool, true≢false, sym, subst, ◌∙◌}
use Rattle.verifier.proofs.Frames.{AreSet, none_before, one_set}
use Rattle.verifier.proofs.tables.read_frames.Goals.{else-has_open-via-then-has_open+else-is_open, else-has_open-via-else-has_open}
use Rattle.verifier.proofs.tables.read_frames.Goals as goal

pub set_frame-requires-clause-one_open : goal.set_frame-requires-clause-one_open
set_frame-requires-clause-one_open c =
    none_before c.args.parts.now.frames c.loop-frame.number c.loop-frame.has_open c.in-Some.frame c.loop-frame.frame-iterator c.loop-frame.table c.loop-frame.invariant
    (λ a b. elim c.else-has_open.branch [
      | else-has_open-via-then-has_open+else-is_open w ↦ true≢false (sym b ∙ sym c.is_open-is_open.ensures ∙ w.if-is_open.false)
      | else-has_open-via-else-has_open w ↦ true≢false (sym a ∙ w.if-has_open.false)
    ])

pub loop-frame-preserved : goal.loop-frame-preserved
loop-frame-preserved c =
    let frames = c.args.parts.now.frames in
    let n = c.loop-frame.number in
    let opened = c.loop-frame.has_open in
    let A : Bool → Type 0 = λ o. AreSet frames (n + 1) (opened || o) c.next.new.self c.set_frame.new.table in
    subst A (sym c.is_open-is_open.ensures)
    (one_set frames n opened c.in-Some.frame c.next.new.self c.loop-frame.frame-iterator c.loop-frame.table c.set_frame.new.table c.loop-frame.invariant c.in-Some.ensures.steps c.in-Some-read_frame.ensures.rules
    (λ a b. elim c.else-has_open.branch [
      | else-has_open-via-then-has_open+else-is_open w ↦ true≢false (sym b ∙ sym c.is_open-is_open.ensures ∙ w.if-is_open.false)
      | else-has_open-via-else-has_open w ↦ true≢false (sym a ∙ w.if-has_open.false)
    ])
    c.set_frame.ensures.frame c.set_frame.ensures.frames c.set_frame.ensures.slots c.set_frame.ensures.held)
