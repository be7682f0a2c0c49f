use Rattle.std.proofs.Common.{take, arith}
use Rattle.batch_serving.proofs.SessionLemmas.{over, piece_answered, read_failed}
use Rattle.batch_serving.proofs.serving_batches.serve_piece.Goals as goal

pub returns-in-Err-clause-session : goal.returns-in-Err-clause-session
returns-in-Err-clause-session g c = read_failed g.B.Backend.steps g.C.Clock.draws g.K.Keeping.waits c.args.frames.now _ _ _ _ _ _ c.requires.begun c.in-Err.ensures.bytes

pub returns-then-count-eq0-clause-session : goal.returns-then-count-eq0-clause-session
returns-then-count-eq0-clause-session g c =
    over g.B.Backend.steps g.C.Clock.draws g.K.Keeping.waits c.end_at.result c.args.frames.now c.in-Ok.count c.read.new.into _ _ _ _ _ _ c.requires.begun c.end_at.ensures
    c.if-count-eq0.true (grind arith) c.in-Ok.ensures.bytes

pub returns-clause-session : goal.returns-clause-session
returns-clause-session g c =
    piece_answered g.B.Backend.steps g.C.Clock.draws g.K.Keeping.waits c.args.frames.now _ (take c.in-Ok.count c.read.new.into) c.answer_piece.result _ _ _ _ _ _ _ _ _ _
    c.in-Ok.ensures.bytes.0 c.answer_piece.ensures.session
