use Rattle.std.proofs.Common.{rules, ◌≡◌, ◌++◌, ◌∙◌, List, ℕ, ap, filter, refl, subst}
use Rattle.std.specs.List.{flat_map}
use Rattle.std.specs.Io.KnownBytes.{Appends}
use Rattle.s4_model.specs.Audit.{audit_of}
use Rattle.drive.specs.Fields.{state_in}
use Rattle.s4_reading.specs.Auditing.{at_most, audit_text, head_of_audit, line_of_row, rows_shown, text_of_rows}
use Rattle.s4_reading.specs.Forms.{form_over}
use Rattle.s4_reading.specs.declared.forms.Form.{Form}
use Rattle.s4_reading.proofs.auditing.write_audit.Goals as goal

pub returns : goal.returns
returns g c =
    let passed = g.W.Sink.passed in
    let s = state_in c.args.drive.now in
    let asked = c.args.asked.now in
    let form = c.over-form.result in
    let rows = c.as_slice.result.now in
    let head : c.head-head.result.now ≡ head_of_audit form.json form.style = search rules in
    let table : Appends (passed c.args.writer.now) (passed c.write_table.new.writer) (text_of_rows form.json form.style rows) =
    subst (λ (above : List ℕ). Appends (passed c.args.writer.now) (passed c.write_table.new.writer) (above ++ flat_map (line_of_row form.json form.style) rows)) head c.in_ok-write_table.ensures.table in
    let shown : c.in_ok-shown.shown.items ≡ rows_shown s asked =
    c.in_ok-shown.ensures.rows ∙ ap (λ test. at_most asked.limit (filter test (audit_of s))) c.in_ok-query.ensures.query in
    let is : text_of_rows form.json form.style rows ≡ audit_text s asked =
    ap (λ (f : Form). text_of_rows f.json f.style rows) c.over-form.ensures
    ∙ ap (λ r. text_of_rows asked.json (form_over s asked.moments asked.json).style r) (c.as_slice.ensures.value ∙ shown) in
    record { prints = (refl, c.in_ok-query.ensures.moments, subst (λ (t : List ℕ). Appends (passed c.args.writer.now) (passed c.write_table.new.writer) t) is table) }
