use Rattle.std.proofs.Common.{refl}
use Rattle.batch_serving.proofs.SessionLemmas.{oversized, stopped, unfed}
use Rattle.batch_serving.proofs.serving_batches.answer_piece.Goals as goal

pub returns-in_default-clause-session : goal.returns-in_default-clause-session
returns-in_default-clause-session g c = (tt, unfed g.B.Backend.steps g.C.Clock.draws g.K.Keeping.waits c.args.frames.now c.args.piece.now _ _ _ _ c.requires.begun)

pub returns-in-Ok-answer_all-clause-session : goal.returns-in-Ok-answer_all-clause-session
returns-in-Ok-answer_all-clause-session g c = (
  tt,
  oversized g.B.Backend.steps g.C.Clock.draws g.K.Keeping.waits c.args.frames.now c.feed.new.self c.args.piece.now c.in-Ok.items.items _ _ _ _ _ _ _ _ c.requires.begun c.in-Ok.ensures.items
      (c.if-has_failed.ensures.0 refl) c.in-Ok-answer_all.ensures.answers,
)

pub returns-in-Err-clause-session : goal.returns-in-Err-clause-session
returns-in-Err-clause-session g c =
    stopped g.B.Backend.steps g.C.Clock.draws g.K.Keeping.waits c.args.frames.now c.feed.new.self c.args.piece.now c.in-Ok.items.items c.in-Err.end _ _ _ _ _ _ _ _ c.requires.begun c.in-Ok.ensures.items
    c.in-Err.ensures.answers
