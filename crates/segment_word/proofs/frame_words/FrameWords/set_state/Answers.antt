use Rattle.std.proofs.Common.{◌∙◌, ap, arith, set, List}
use Rattle.segment_word.specs.Frames.{Frame}
use Rattle.segment_word.specs.FrameStates.{phase_in}
use Rattle.segment_word.specs.Layout.{frame_at}
use Rattle.segment_word.proofs.UnreadWords.{within, block_inside, made_unread, state_written, state_kept}
use Rattle.segment_word.proofs.frame_words.FrameWords.set_state.Goals as goal

pub overflow_mul-frame : goal.overflow_mul-frame
overflow_mul-frame c = omega (arith, block_inside c.self.inside.words.items c.args.self.now c.args.frame 0 c.self.invariant c.self.view_is c.requires.inside (omega arith))

pub index_mut-requires : goal.index_mut-requires
index_mut-requires c = omega (arith, c.self.inside.words.ok.0, block_inside c.self.inside.words.items c.args.self.now c.args.frame 0 c.self.invariant c.self.view_is c.requires.inside (omega arith))

pub invariant_of-self : goal.invariant_of-self
invariant_of-self c = state_kept c.self.inside.words.items c.args.frame _ c.self.invariant (within _ _ _ c.self.view_is c.requires.inside)
    (made_unread (phase_in c.args.state) c.args.generation _ (omega arith) c.requires.started (omega arith) c.requires.goes_on)

pub returns : goal.returns
returns c = state_written c.self.inside.words.items c.args.frame _ c.args.generation (phase_in c.args.state) c.self.invariant (within _ _ _ c.self.view_is c.requires.inside) (omega arith)
    ∙ ap (λ (l : List Frame). set l c.args.frame (record (frame_at l c.args.frame) { phase = phase_in c.args.state; generation = c.args.generation })) c.self.view_is
