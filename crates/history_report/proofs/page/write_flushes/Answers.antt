use Rattle.std.proofs.Common.{rules, ◌≡◌, ◌∙◌, [], ◌∷◌, List, ℕ, false, ap, sym, subst}
use Rattle.std.specs.List.{flat_map}
use Rattle.std.specs.Io.KnownBytes.{Appends}
use Rattle.std.proofs.KnownBytes.{Appends-trans}
use Rattle.std.proofs.lemmas.List.{append-nil}
use Rattle.std.proofs.lemmas.Result.{on_ok_weaker}
use Rattle.s4_types.specs.declared.audit_rows.AuditRow.{AuditRow}
use Rattle.drive.specs.Fields.{state_in}
use Rattle.moment_words.specs.declared.printing.MomentStyle.{MomentStyle}
use Rattle.moment_words.specs.Texts.{style_of}
use Rattle.history_report.specs.declared.texts.TheConstants.{FLUSHES_HEAD}
use Rattle.history_report.specs.Page.{Constant, page_text}
use Rattle.history_report.specs.Flushes.{flush_parts, flushes_by, flushes_and_windows_of, none_flushed}
use Rattle.history_report.proofs.Pages.{appends_two}
use Rattle.history_report.proofs.page.write_flushes.Goals as goal

pub returns-clause-flushes : goal.returns-clause-flushes
returns-clause-flushes g c =
    let passed = g.W.Sink.passed in
    let s = state_in c.args.drive.now in
    let rows = flushes_and_windows_of s in
    let w = passed c.args.writer.now in
    let x = passed c.write_out.new.writer in
    let y = passed c.write_each_flush.new.writer in
    let z = passed c.write_out-2.new.writer in
    let style : c.style_of-style.result ≡ style_of s.clock false = c.style_of-style.ensures ∙ ap (λ (n : ℕ). style_of n false) (c.number.ensures ∙ c.clock.ensures) in
    let are : c.as_slice.result.now ≡ rows = c.as_slice.ensures.value ∙ c.in_ok-flushes.ensures.flushes in
    let again : c.as_slice-2.result.now ≡ rows = c.as_slice-2.ensures.value ∙ c.in_ok-flushes.ensures.flushes in
    let none : c.as_bytes-2.result.now ≡ none_flushed rows = c.as_bytes-2.ensures.value ∙ c.none_flushed.ensures ∙ ap none_flushed again in
    let paragraphs = flat_map (flush_parts (style_of s.clock false)) rows in
    let first : Appends w x FLUSHES_HEAD.now = search rules in
    let each : Appends x y (page_text paragraphs) =
    subst (λ (l : List AuditRow). Appends x y (page_text (flat_map (flush_parts (style_of s.clock false)) l))) are
    (subst (λ (t : MomentStyle). Appends x y (page_text (flat_map (flush_parts t) c.as_slice.result.now))) style c.in_ok-write_each_flush.ensures.flushes) in
    on_ok_weaker c.write_out-2.result
    (λ wrote. let last : Appends y z (page_text (Constant (none_flushed rows) ∷ [])) = subst (Appends y z) (none ∙ sym (append-nil (none_flushed rows))) wrote in
    record { wrote = Appends-trans w x z FLUSHES_HEAD.now (page_text (flushes_by (style_of s.clock false) rows)) first (appends_two x y z paragraphs (Constant (none_flushed rows) ∷ []) each last) })
    c.write_out-2.ensures.bytes
