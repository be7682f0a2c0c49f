use Rattle.std.proofs.Common.{Bool, subst, arith}
use Rattle.door_lines.specs.private.Scanning.{Finishes}
use Rattle.door_lines.proofs.Going.{ended, refilled, taken}
use Rattle.door_lines.proofs.reader.DoorReader.next_line.Goals as goal

pub returns-then-finish-clause-line : goal.returns-then-finish-clause-line
returns-then-finish-clause-line g c =
    taken c.args.self.now c.loop-line.self c.finish.new.self (g.S.PieceSource.pieces c.args.source.now) (g.S.PieceSource.pieces c.loop-line.source)
    c.loop-line.line c.finish.new.line c.says.result c.loop-line.invariant.passed
    (λ front h. subst (λ (b : Bool). Finishes c.loop-line.self front b c.finish.new.self c.finish.new.line) c.if-finish.true (c.finish.ensures front h))
    c.says.ensures

pub loop-line-preserved : goal.loop-line-preserved
loop-line-preserved g c = record {
  passed = refilled c.args.self.now c.loop-line.self c.finish.new.self c.refill.new.self
      (g.S.PieceSource.pieces c.args.source.now) (g.S.PieceSource.pieces c.loop-line.source) (g.S.PieceSource.pieces c.refill.new.source)
      c.loop-line.line c.finish.new.line c.loop-line.invariant.passed
      (λ front h. subst (λ (b : Bool). Finishes c.loop-line.self front b c.finish.new.self c.finish.new.line) c.if-finish.false (c.finish.ensures front h))
      c.in-Ok.ensures.read;
  failures = omega (arith, c.in-Ok.ensures.failures, c.loop-line.invariant.failures);
}

pub returns-in-Err-clause-end : goal.returns-in-Err-clause-end
returns-in-Err-clause-end g c =
    ended c.args.self.now c.loop-line.self c.finish.new.self
    (g.S.PieceSource.pieces c.args.source.now) (g.S.PieceSource.pieces c.loop-line.source) (g.S.PieceSource.pieces c.refill.new.source)
    c.loop-line.line c.finish.new.line c.in-Err.end c.loop-line.invariant.passed
    (λ front h. subst (λ (b : Bool). Finishes c.loop-line.self front b c.finish.new.self c.finish.new.line) c.if-finish.false (c.finish.ensures front h))
    c.in-Err.ensures.end
