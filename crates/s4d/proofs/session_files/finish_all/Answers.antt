use Rattle.std.proofs.Common.{arith}
use Rattle.std.specs.Io.KnownBytes.{Keeps}
use Rattle.std.proofs.KnownBytes.{Keeps-trans}
use Rattle.s4d.proofs.Ends.{ended_there, sides_more}
use Rattle.s4d.proofs.Left.{finished_by, kept_apart}
use Rattle.s4d.proofs.Zips.{zip_of}
use Rattle.s4d.proofs.session_files.finish_all.Goals as goal

pub loop-number-preserved : goal.loop-number-preserved
loop-number-preserved g c =
    let sessions = c.args.sessions.now in
    let served = c.args.served.now in
    let n = c.loop-number.number in
    let lt = c.loop-number-test.true in
    let written = g.F.Writer.Write.contents in
    let now = g.F.Files.contents c.finish_one-are_there.new.files in
    let client = c.index-served-number.result in
    let finished = c.finish_one-are_there.ensures in
    record {
      left = λ is.
          let both = ended_there c.loop-number.are_there c.finish_one-are_there.result is in
          sides_more (λ s x. Keeps (written x.writer.writer) (now s.output.now)) sessions served n _ client lt (omega (arith, lt, c.requires.count))
          (λ i d e below. Keeps-trans _ _ _ (c.loop-number.invariant.left both.0 i d e below) (kept_apart g.F.Files.apart (g.F.Files.contents c.loop-number.files) now (λ s. s.output.now) sessions i n d _ lt (c.requires.apart i n d below lt) finished.others))
          (finished_by written now _ _ _ c.writer.ensures (finished.written both.1));
      others = λ other apart. Keeps-trans _ _ _ (c.loop-number.invariant.others other apart) (finished.others other (apart n _ lt));
    }

pub returns-clause-left : goal.returns-clause-left
returns-clause-left g c = λ is.
    zip_of (λ s x. Keeps (g.F.Writer.Write.contents x.writer.writer) (g.F.Files.contents c.loop-number.files s.output.now)) c.args.sessions.now c.args.served.now c.requires.count
    (λ i d e lt. c.loop-number.invariant.left is i d e (omega (arith, lt, c.loop-number-test.false)))
