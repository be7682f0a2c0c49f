use Rattle.std.proofs.Common.{◌≡◌, ◌+◌, ◌<◌, ◌++◌, ◌∙◌, length, take, get_or, ap, sym, refl, subst, arith}
use Rattle.std.specs.List.{flat_map}
use Rattle.std.specs.Io.KnownBytes.{Appends}
use Rattle.std.proofs.KnownBytes.{Appends-trans, Appends-nil}
use Rattle.std.proofs.lemmas.List.{take_more}
use Rattle.history_view.proofs.Fronts.{flat_more}
use Rattle.s4_images.proofs.printing.write_lines.Goals as goal

pub loop-one-init : goal.loop-one-init
loop-one-init g c = record { failures = refl; wrote = Appends-nil (g.W.Sink.passed c.args.writer.now) }

pub loop-one-preserved : goal.loop-one-preserved
loop-one-preserved g c =
    let passed = g.W.Sink.passed in
    let before = c.loop-one.invariant in
    let line = g.P.Prints.line c.args.form.now in
    let all = c.args.all.now in
    let i = c.loop-one.one-index in
    let lt : i < length all = omega arith in
    let more : flat_map line (take i all) ++ line c.one-item.result ≡ flat_map line (take (i + 1) all) =
    ap (λ x. flat_map line (take i all) ++ line x) c.one-item.is ∙ sym (flat_more line (take i all) (get_or all i c.one-item.result)) ∙ ap (flat_map line) (sym (take_more all i c.one-item.result lt)) in
    record {
      failures = c.in_ok-write_line.ensures.failures ∙ before.failures;
      wrote = subst (Appends (passed c.args.writer.now) (passed c.write_line.new.writer)) more
          (Appends-trans (passed c.args.writer.now) (passed c.loop-one.writer) (passed c.write_line.new.writer) (flat_map line (take i all)) (line c.one-item.result) before.wrote c.in_ok-write_line.ensures.line);
    }
