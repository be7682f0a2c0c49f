use Rattle.std.proofs.Common.{◌≡◌, rules, true, false, subst}
use Rattle.std.specs.Io.KnownBytes.{Appends}
use Rattle.std.proofs.KnownBytes.{Appends-trans}
use Rattle.std.proofs.lemmas.Result.{on_ok_weaker}
use Rattle.history_view.specs.Contents.{content_of}
use Rattle.history_diff.specs.Differences.{told_of}
use Rattle.history_diff.specs.Diffing.{detail_lines, json_of, row_of}
use Rattle.history_diff.specs.Lines.{difference_line}
use Rattle.history_diff.specs.Texts.{IsAskedText, detail_of, text_shown}
use Rattle.history_diff.proofs.Written.{lines_written}
use Rattle.history_diff.proofs.diffing.write_lines.Goals as goal

pub returns-then-comparison-clause-lines : goal.returns-then-comparison-clause-lines
returns-then-comparison-clause-lines g c =
    let passed = g.W.Sink.passed in
    let shown = c.in_ok-shown.shown in
    let found = c.args.found.now in
    let unified : IsAskedText c.args.comparison.now.detail found.object c.args.comparison.now (content_of found.before) (content_of found.after) (text_shown shown) = search rules in
    let row = row_of found in
    let json = json_of (detail_of shown) row (text_shown shown) in
    let x = passed c.args.writer.now in
    let y = passed c.write_out.new.writer in
    let is : c.as_bytes.result.now ≡ json = search rules in
    on_ok_weaker c.write_out.result
    (λ wrote. lines_written c.args.comparison.now row true (detail_of shown) (text_shown shown) x y c.if-comparison.true c.in_ok-shown.ensures.detail unified (subst (Appends x y) is wrote))
    c.write_out.ensures.bytes

pub returns-clause-lines : goal.returns-clause-lines
returns-clause-lines g c =
    let passed = g.W.Sink.passed in
    let shown = c.in_ok-shown.shown in
    let found = c.args.found.now in
    let detail = detail_lines c.args.comparison.now.raw (detail_of shown) (row_of found) (text_shown shown) in
    let x = passed c.args.writer.now in
    let y = passed c.write_line.new.writer in
    let z = passed c.write_detail.new.writer in
    let unified : IsAskedText c.args.comparison.now.detail found.object c.args.comparison.now (content_of found.before) (content_of found.after) (text_shown shown) = search rules in
    on_ok_weaker c.write_detail.result
    (λ wrote. lines_written c.args.comparison.now (row_of found) false (detail_of shown) (text_shown shown) x z c.if-comparison.false c.in_ok-shown.ensures.detail unified
    (Appends-trans x y z (difference_line found.object (told_of found.difference)) detail c.in_ok-write_line.ensures.line wrote))
    c.write_detail.ensures.lines
