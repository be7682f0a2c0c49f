use Rattle.std.proofs.Common.{rules, ◌∙◌, true, false, ℕ, ap, subst, flat_map}
use Rattle.std.specs.Io.KnownBytes.{Appends}
use Rattle.std.proofs.KnownBytes.{Appends-trans}
use Rattle.std.proofs.lemmas.Result.{on_ok_weaker}
use Rattle.drive.specs.Fields.{state_in, store_of}
use Rattle.history_view.specs.Listing.{AreListedFrom}
use Rattle.history_report.specs.declared.texts.TheConstants.{TABLE_HEAD}
use Rattle.moment_words.specs.declared.printing.MomentStyle.{MomentStyle}
use Rattle.moment_words.specs.Texts.{style_of}
use Rattle.history_report.specs.Page.{page_text}
use Rattle.history_report.specs.Table.{row_of}
use Rattle.history_report.specs.private.Sections.{WritesRows}
use Rattle.history_report.proofs.page.write_table.Goals as goal

pub returns-clause-table : goal.returns-clause-table
returns-clause-table g c =
    let passed = g.W.Sink.passed in
    let s = state_in c.args.drive.now in
    let store = store_of c.args.drive.now in
    let x = passed c.args.writer.now in
    let y = passed c.write_out.new.writer in
    let z = passed c.write_rows.new.writer in
    let head : Appends x y TABLE_HEAD.now = search rules in
    on_ok_weaker c.write_rows.result
    (λ done. let rows : WritesRows s store c.clock-clock.result (style_of s.clock false) y z =
    subst (λ (style : MomentStyle). WritesRows s store c.clock-clock.result style y z) (c.style_of-style.ensures ∙ ap (λ (n : ℕ). style_of n false) (c.number.ensures ∙ c.clock-clock.ensures)) done in
    record {
      rows = rows.rows;
      listed = subst (λ (t : ℕ). AreListedFrom s store true t 0 rows.rows) c.clock-clock.ensures rows.listed;
      wrote = Appends-trans x y z TABLE_HEAD.now (page_text (flat_map (row_of (style_of s.clock false)) rows.rows)) head rows.wrote;
    })
    c.write_rows.ensures.rows
