use Rattle.std.proofs.Common.{rules, ◌++◌, sym, subst}
use Rattle.std.specs.Io.KnownBytes.{Appends}
use Rattle.std.proofs.KnownBytes.{Appends-trans}
use Rattle.std.proofs.lemmas.List.{append-nil}
use Rattle.std.proofs.lemmas.Result.{on_ok_weaker}
use Rattle.history_report.specs.declared.texts.TheConstants.{PAGE_END}
use Rattle.history_report.specs.Report.{none_text}
use Rattle.history_report.proofs.page.write_end.Goals as goal

pub returns : goal.returns
returns g c =
    let passed = g.W.Sink.passed in
    let x = passed c.args.writer.now in
    let y = passed c.write_out.new.writer in
    let z = passed c.write_out-2.new.writer in
    let none = none_text c.args.differs in
    let first : Appends x y none = search rules in
    on_ok_weaker c.write_out-2.result
    (λ wrote. let last : Appends y z PAGE_END.now = subst (Appends y z) c.as_bytes-2.ensures.value wrote in
    subst (λ l. Appends x z (none ++ l)) (sym (append-nil PAGE_END.now)) (Appends-trans x y z none PAGE_END.now first last))
    c.write_out-2.ensures.bytes
