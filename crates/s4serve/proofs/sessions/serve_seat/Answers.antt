use Rattle.s4serve.proofs.Tracing.{trace_session}
use Rattle.s4serve.proofs.sessions.serve_seat.Goals as goal

-- the session, with a clock that draws nothing
pub returns-clause-session : goal.returns-clause-session
returns-clause-session g c = (_, _, c.serve_batch.ensures.session)

-- and with all that it was after its steps
pub returns-clause-covered : goal.returns-clause-covered
returns-clause-covered g c =
    let session = trace_session g.J.Naming.base g.J.Running.reserve g.J.Running.moments _ _ _ (λ k. k.receipt) _ _ _ _ _ _ _ _ _ _ _ c.serve_batch.ensures.session in
    (_, _, session.0, session.1)
