use Rattle.std.proofs.Common.{rules, ◌≡◌, ◌++◌, ◌∙◌, List, ℕ, ap, subst}
use Rattle.std.proofs.lemmas.Result.{on_ok_weaker}
use Rattle.std.specs.List.{flat_map}
use Rattle.std.specs.Io.KnownBytes.{Appends}
use Rattle.history_view.specs.declared.stats.ObjectStat.{ObjectStat}
use Rattle.s4_reading.specs.Logging.{head_of_stats, line_of_stat}
use Rattle.s4_reading.proofs.logging.write_stats.Goals as goal

pub returns : goal.returns
returns g c =
    let passed = g.W.Sink.passed in
    let line = line_of_stat c.args.form.now.json c.args.form.now.style in
    let head = head_of_stats c.args.form.now.json c.args.form.now.style in
    let above : c.head-head.result.now ≡ head = search rules in
    let table : c.head-head.result.now ++ flat_map line c.as_slice.result.now ≡ head ++ flat_map line c.in_ok-stats.stats.items =
    ap (λ h. h ++ flat_map line c.as_slice.result.now) above ∙ ap (λ (l : List ObjectStat). head ++ flat_map line l) c.as_slice.ensures.value in
    record {
      stats = on_ok_weaker c.write_table.result
          (λ wrote. record {
            stats = c.in_ok-stats.stats.items;
            shows = c.in_ok-stats.ensures.stats;
            wrote = subst (λ (t : List ℕ). Appends (passed c.args.writer.now) (passed c.write_table.new.writer) t) table wrote;
          })
          c.write_table.ensures.table;
    }
