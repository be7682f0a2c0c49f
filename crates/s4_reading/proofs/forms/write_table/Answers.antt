use Rattle.std.proofs.Common.{rules}
use Rattle.std.specs.List.{flat_map}
use Rattle.std.proofs.KnownBytes.{Appends-trans}
use Rattle.s4_reading.proofs.forms.write_table.Goals as goal

pub returns-clause-table : goal.returns-clause-table
returns-clause-table g c =
    let passed = g.W.Sink.passed in
    Appends-trans (passed c.args.writer.now) (passed c.write_out.new.writer) (passed c.write_lines.new.writer) c.args.head.now (flat_map (g.P.Prints.line c.args.form.now) c.args.rows.now) (search rules) c.in_ok-write_lines.ensures.lines
