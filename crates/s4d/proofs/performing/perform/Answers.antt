use Rattle.std.proofs.Common.{◌∙◌, arith, map, sym, ⊎_elim}
use Rattle.s4d.specs.Opening.{HoldsAt}
use Rattle.s4d.proofs.Status.{some_status, usage_of}
use Rattle.s4d.proofs.performing.perform.Goals as goal

-- what isn't done has its status
pub returns-in-Err : goal.returns-in-Err
returns-in-Err g c =
    let why = c.in-Err.why in
    let status = c.tell.ensures in
    let some = some_status why in
    record {
      status = ⊎_elim (λ one. omega (arith, status, one)) (λ two. omega (arith, status, two)) some;
      done = λ none. ⊎_elim (λ one. absurd (omega (arith, none, status, one))) (λ two. absurd (omega (arith, none, status, two))) some;
      usage = λ two. usage_of (HoldsAt g.F.Files.writes g.F.Writer.Write.contents) (g.F.Files.contents c.args.files.now) (g.F.Files.contents c.perform_line.new.files)
          (g.R.Source.remaining c.args.reader.now) (g.W.Sink.passed c.args.writer.now) (g.R.Source.remaining c.perform_line.new.reader) (g.W.Sink.passed c.perform_line.new.writer)
          (g.W.Sink.failures c.args.writer.now) (g.W.Sink.failures c.perform_line.new.writer) (map g.S.AsStr.text c.args.words.now) why c.in-Err.ensures.undone (sym status ∙ two);
      undone = λ _. record { why = why; is = status; says = c.in-Err.ensures.undone };
    }
