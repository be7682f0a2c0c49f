use Rattle.std.proofs.Common.{refl, arith, rules}
use Rattle.batch_serving.proofs.SayingLemmas.{begins_to_say}
use Rattle.batch_serving.proofs.SessionLemmas.{begins_at, begun_by, unstarted, Goes-serves, Goes-trans}
use Rattle.batch_serving.proofs.serving_batches.serve_batch.Goals as goal

pub returns-in_default-clause-session : goal.returns-in_default-clause-session
returns-in_default-clause-session g c = unstarted g.B.Backend.steps g.C.Clock.draws g.K.Keeping.waits _ _ _ _ _

pub returns-in_default-vec-clause-session : goal.returns-in_default-vec-clause-session
returns-in_default-vec-clause-session g c = unstarted g.B.Backend.steps g.C.Clock.draws g.K.Keeping.waits _ _ _ _ _

pub loop-end-init : goal.loop-end-init
loop-end-init g c = record {
  goes = begins_at g.B.Backend.steps g.C.Clock.draws g.K.Keeping.waits c.in-Ok.frames _ _ _ _ _ c.in-Ok.ensures.start;
  said = begins_to_say g.B.Backend.steps g.C.Clock.draws _ _ _ _ c.requires.begins c.requires.unsent;
  reading = refl;
  writing = refl;
  room = search rules;
}

pub serve_piece-requires-clause-begun : goal.serve_piece-requires-clause-begun
serve_piece-requires-clause-begun g c = begun_by g.B.Backend.steps g.C.Clock.draws g.K.Keeping.waits _ c.loop-end.frames _ _ _ _ _ _ _ _ _ _ c.loop-end.invariant.goes

pub returns-in-Err-clause-session : goal.returns-in-Err-clause-session
returns-in-Err-clause-session g c =
    Goes-serves g.B.Backend.steps g.C.Clock.draws g.K.Keeping.waits _ c.loop-end.frames c.in-Err.end _ _ _ _ _ _ _ _ _ _ _ _ _ _ _ c.loop-end.invariant.goes c.in-Err.ensures.session

pub loop-end-preserved : goal.loop-end-preserved
loop-end-preserved g c = record {
  goes = Goes-trans g.B.Backend.steps g.C.Clock.draws g.K.Keeping.waits _ c.loop-end.frames _ _ _ _ _ _ _ _ _ _ _ _ _ _ _ _ c.loop-end.invariant.goes c.in-Ok-serve_piece.ensures.session;
  said = c.in-Ok-serve_piece.ensures.said;
  reading = omega (arith, c.in-Ok-serve_piece.ensures.reading, c.loop-end.invariant.reading);
  writing = omega (arith, c.in-Ok-serve_piece.ensures.writing, c.loop-end.invariant.writing);
  room = search rules;
}
