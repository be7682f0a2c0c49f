use Rattle.std.proofs.Common.{◌≡◌, ◌∙◌, ◌^◌, ◌<◌, ℕ, List, [], ◌++◌, map, length, ap, subst}
use Rattle.std.specs.List.{AllByRecursion, flat_map}
use Rattle.s4_types.specs.declared.audit_rows.AuditRow.{AuditRow}
use Rattle.image_parts.specs.Audit.{IsAuditPart, audit_bytes}
use Rattle.verifier.specs.Audit.{audit_part}
use Rattle.image_parts.specs.Header.{header_bytes}
use Rattle.image_parts.specs.Rows.{row_bytes}
use Rattle.image_parts.specs.Spans.{span_bytes}
use Rattle.drive.specs.Fields.{DriveFields}
use Rattle.verifier.specs.Saved.{AddsFrames, as_seen}
use Rattle.verifier.proofs.SavedWhole.{Shown, SpansShown, AuditShown, HeaderShown, saves}
use Rattle.verifier.proofs.SeenWhole.{HeaderSeen, shown_seen, spans_seen, audit_seen, header_seen, decodes_seen}
use Rattle.verifier.proofs.saving.save_front.Goals as goal

pub returns-clause-saved : goal.returns-clause-saved
returns-clause-saved g c =
    let d : DriveFields = c.args.drive.now in
    let m : ℕ = c.args.moment in
    let rows = c.in_ok-rows.rows.items in
    let spans = c.in_ok-spans.spans.items in
    let audit = c.in_ok-audit.audit.items in
    let h = c.header_seen-header.result in
    let rules = c.rules.ensures in
    let shown : Shown d = record { sound = rules.sound; store = rules.store; past = rules.past; unborn = rules.unborn; used = rules.frames.used; count = rules.frames.count } in
    let seen : SpansShown (as_seen d m) spans = spans_seen d m spans c.in_ok-spans.ensures.spans in
    let fit : AllByRecursion (λ row. IsAuditPart (audit_part row)) audit = subst (λ (rows : List AuditRow). AllByRecursion (λ row. IsAuditPart (audit_part row)) rows) c.as_slice-3.ensures.value c.in_ok-push_audit_rows.ensures.fit in
    let audited : AuditShown (as_seen d m) audit = audit_seen d m audit c.in_ok-audit.ensures.rows c.in_ok-audit.ensures.kept fit in
    let head = c.header_seen-header.ensures in
    let heading : HeaderSeen d m (length rows) (length spans) (length audit) h = record {
      frames = head.frames;
      clock = head.clock;
      window = head.window;
      floor = head.floor;
      next = head.next;
      row_count = head.rows ∙ c.len.ensures ∙ c.in_ok-rows.rows.ok.0;
      span_count = head.spans ∙ c.len-2.ensures ∙ c.in_ok-spans.spans.ok.0;
      audit_count = head.audit ∙ c.len-3.ensures ∙ c.in_ok-audit.audit.ok.0;
      clock_fits = head.clock_fits;
      window_fits = head.window_fits;
      next_fits = head.next_fits;
      audit_fits = subst (λ (n : ℕ). n < 2 ^ 64) (c.len-3.ensures ∙ c.in_ok-audit.audit.ok.0) head.audit_fits;
    } in
    let written : HeaderShown (as_seen d m) (length rows) (length spans) (length audit) h = header_seen d m (length rows) (length spans) (length audit) h heading in
    let begun : c.push_header.new.out.items ≡ [] ++ header_bytes h = c.in_ok-push_header.ensures.items ∙ ap (λ (l : List ℕ). l ++ header_bytes h) c.in_ok-out.ensures.empty in
    let adds : AddsFrames d.store.table ([] ++ header_bytes h) c.push_frames.new.out.items =
    subst (λ (l : List ℕ). AddsFrames d.store.table l c.push_frames.new.out.items) begun
    (subst (λ (before : DriveFields). AddsFrames before.store.table c.push_header.new.out.items c.push_frames.new.out.items) c.in_ok-out.ensures.same c.in_ok-push_frames.ensures.frames) in
    let spanned : c.push_spans.new.out.items ≡ (c.push_frames.new.out.items ++ flat_map row_bytes rows) ++ flat_map span_bytes spans =
    c.in_ok-push_spans.ensures.items ∙ ap (λ l. l ++ flat_map span_bytes c.as_slice-2.result.now) (c.in_ok-push_rows.ensures.items ∙ ap (λ r. c.push_frames.new.out.items ++ flat_map row_bytes r) c.as_slice.ensures.value)
    ∙ ap (λ r. (c.push_frames.new.out.items ++ flat_map row_bytes rows) ++ flat_map span_bytes r) c.as_slice-2.ensures.value in
    let parts : c.push_audit_rows.new.out.items ≡ ((c.push_frames.new.out.items ++ flat_map row_bytes rows) ++ flat_map span_bytes spans) ++ flat_map audit_bytes (map audit_part audit) =
    c.in_ok-push_audit_rows.ensures.items ∙ ap (λ l. l ++ flat_map audit_bytes (map audit_part c.as_slice-3.result.now)) spanned
    ∙ ap (λ r. ((c.push_frames.new.out.items ++ flat_map row_bytes rows) ++ flat_map span_bytes spans) ++ flat_map audit_bytes (map audit_part r)) c.as_slice-3.ensures.value in
    saves (as_seen d m) rows spans audit h c.push_frames.new.out.items c.push_audit_rows.new.out.items (record { held = c.a_checkpoint_is_in_its_blocks.ensures.held; first = c.a_checkpoint_is_in_its_blocks.ensures.first }) c.a_store_stands_in_its_image.ensures.stand c.a_store_stands_in_its_image.ensures.ascend
    (shown_seen d m shown) c.in_ok-rows.ensures.saved seen audited written adds parts

pub returns-clause-promise : goal.returns-clause-promise
returns-clause-promise g c = λ base tells.
    let d : DriveFields = c.args.drive.now in
    let rules = c.rules.ensures in
    let shown : Shown d = record { sound = rules.sound; store = rules.store; past = rules.past; unborn = rules.unborn; used = rules.frames.used; count = rules.frames.count } in
    c.what_is_saved_goes_on.ensures (as_seen d c.args.moment) _ base rules.store rules.frames.used (decodes_seen c.the_present_stays.ensures d c.args.moment shown rules.decodes) (returns-clause-saved g c) tells
