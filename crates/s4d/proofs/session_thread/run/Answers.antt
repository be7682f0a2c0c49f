use Rattle.std.proofs.Common.{map, subst}
use Rattle.s4d.specs.Performing.{IsUndone, any_writer, unknown}
use Rattle.s4d.proofs.session_thread.run.Goals as goal

pub returns-clause-undone : goal.returns-clause-undone
returns-clause-undone g c = λ failed.
    subst (λ ws. IsUndone any_writer unknown unknown (g.R.Source.remaining c.args.reader) (g.W.Sink.passed c.args.writer) (g.R.Source.remaining c.perform-status.new.reader) (g.W.Sink.passed c.perform-status.new.writer)
    (g.W.Sink.failures c.args.writer) (g.W.Sink.failures c.perform-status.new.writer) (map g.S.AsStr.text ws) c.perform-status.result)
    c.as_slice.ensures.value (c.perform-status.ensures.undone failed)
