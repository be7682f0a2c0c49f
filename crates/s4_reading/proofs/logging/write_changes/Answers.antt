use Rattle.std.proofs.Common.{rules, ◌≡◌, ◌++◌, ◌∙◌, List, ℕ, ap, subst}
use Rattle.std.proofs.lemmas.List.{append_assoc}
use Rattle.std.specs.List.{flat_map}
use Rattle.std.specs.Io.KnownBytes.{Appends}
use Rattle.std.proofs.KnownBytes.{Appends-trans}
use Rattle.s4_model.specs.State.{state_of}
use Rattle.s4_types.specs.declared.audit_rows.AuditRow.{AuditRow}
use Rattle.drive.specs.Fields.{state_in}
use Rattle.history_view.specs.declared.rows.LogRow.{LogRow}
use Rattle.s4_reading.specs.Logging.{flushes_of, head_of_log, line_of_flush, line_of_row}
use Rattle.s4_reading.proofs.logging.write_changes.Goals as goal

pub returns : goal.returns
returns g c =
    let passed = g.W.Sink.passed in
    let json = c.args.form.now.json in
    let style = c.args.form.now.style in
    let head = head_of_log json style in
    let lines = flat_map (line_of_row json style) c.in_ok-rows.rows.items in
    let flushes = flushes_of (state_in c.args.drive.now) c.args.query.now in
    let hid = flat_map (line_of_flush json style) flushes in
    let above : c.head-head.result.now ≡ head = search rules in
    let table : c.head-head.result.now ++ flat_map (line_of_row json style) c.as_slice.result.now ≡ head ++ lines =
    ap (λ h. h ++ flat_map (line_of_row json style) c.as_slice.result.now) above ∙ ap (λ (l : List LogRow). head ++ flat_map (line_of_row json style) l) c.as_slice.ensures.value in
    let first : Appends (passed c.args.writer.now) (passed c.write_table.new.writer) (head ++ lines) =
    subst (λ (t : List ℕ). Appends (passed c.args.writer.now) (passed c.write_table.new.writer) t) table c.in_ok-write_table.ensures.table in
    let are : c.as_slice-2.result.now ≡ flushes =
    c.as_slice-2.ensures.value ∙ c.in_ok-flushes.ensures.rows ∙ ap (λ l. flushes_of (state_of l.history) c.args.query.now) c.log_rows.ensures.ledger in
    let second : Appends (passed c.write_table.new.writer) (passed c.write_lines.new.writer) hid =
    subst (λ (l : List AuditRow). Appends (passed c.write_table.new.writer) (passed c.write_lines.new.writer) (flat_map (line_of_flush json style) l)) are c.in_ok-write_lines.ensures.lines in
    record {
      log = record {
        rows = c.in_ok-rows.rows.items;
        shows = c.in_ok-rows.ensures.rows;
        wrote = subst (λ (t : List ℕ). Appends (passed c.args.writer.now) (passed c.write_lines.new.writer) t) (append_assoc head lines hid)
            (Appends-trans (passed c.args.writer.now) (passed c.write_table.new.writer) (passed c.write_lines.new.writer) (head ++ lines) hid first second);
      };
    }
