use Rattle.std.proofs.Common.{◌≡◌, ℕ, List, [], ◌++◌, length, ap, subst, ◌∙◌}
use Rattle.std.specs.List.{flat_map}
use Rattle.s4_types.specs.declared.spans.Span.{Span}
use Rattle.image_parts.specs.declared.headers.Header.{Header}
use Rattle.image_parts.specs.declared.rows.RowPart.{RowPart}
use Rattle.image_parts.specs.Audit.{audit_bytes}
use Rattle.image_parts.specs.Header.{header_bytes}
use Rattle.image_parts.specs.Frames.{frame_bytes}
use Rattle.image_parts.specs.Rows.{row_bytes}
use Rattle.image_parts.specs.Spans.{span_bytes}
use Rattle.image_parts.specs.Image.{header_of}
use Rattle.image_objects.specs.declared.rows.ImageRow.{ImageRow}
use Rattle.verifier.specs.Saved.{AddsFrames}
use Rattle.migration.specs.private.Written.{ArePartsOf, header_with}
use Rattle.migration.proofs.Fronts.{whole_bytes}
use Rattle.migration.proofs.Whole.{image_written}
use Rattle.migration.proofs.writing.write_image.Goals as goal

pub returns-clause-written : goal.returns-clause-written
returns-clause-written c =
    let old = c.args.old.now in
    let audit = c.args.audit.now in
    let parts = c.in_ok-parts.parts.items in
    let h : Header = c.header_of-header.result in
    let begun : c.push_header.new.out.items ≡ [] ++ header_bytes h = c.in_ok-push_header.ensures.items ∙ ap (λ (l : List ℕ). l ++ header_bytes h) c.in_ok-out.ensures.items in
    let adds : AddsFrames c.args.table.now ([] ++ header_bytes h) c.push_frames.new.out.items = subst (λ (l : List ℕ). AddsFrames c.args.table.now l c.push_frames.new.out.items) begun c.in_ok-push_frames.ensures.frames in
    let same : h ≡ header_of (image_written old audit adds.frames parts) =
    c.header_of-header.ensures
    ∙ ap (λ n. header_with old n c.len.result (length c.spans.result.now) (length audit)) (c.frame_count.ensures ∙ adds.table.frame_count)
    ∙ ap (λ n. header_with old (length adds.frames) n (length c.spans.result.now) (length audit)) (c.len.ensures ∙ c.in_ok-parts.parts.ok.0)
    ∙ ap (λ n. header_with old (length adds.frames) (length parts) n (length audit)) (ap length c.spans.ensures) in
    let spans : c.push_spans.new.out.items ≡ ((([] ++ header_bytes h) ++ flat_map frame_bytes adds.frames) ++ flat_map row_bytes parts) ++ flat_map span_bytes old.spans =
    c.in_ok-push_spans.ensures.items
    ∙ ap (λ (l : List ℕ). l ++ flat_map span_bytes c.spans-2.result.now) (c.in_ok-push_rows.ensures.items ∙ ap (λ (r : List RowPart). c.push_frames.new.out.items ++ flat_map row_bytes r) c.as_slice.ensures.value)
    ∙ ap (λ (s : List Span). (c.push_frames.new.out.items ++ flat_map row_bytes parts) ++ flat_map span_bytes s) c.spans-2.ensures
    ∙ ap (λ (l : List ℕ). (l ++ flat_map row_bytes parts) ++ flat_map span_bytes old.spans) adds.bytes in
    let out = c.in_ok-push_audits.ensures.items ∙ ap (λ (l : List ℕ). l ++ flat_map audit_bytes audit) spans in
    record {
      frames = adds.frames;
      are_frames = adds.is;
      rules = adds.rules;
      table = adds.table;
      parts = parts;
      rows = subst (λ (rs : List ImageRow). ArePartsOf rs c.args.laters.now parts) c.rows.ensures c.in_ok-parts.ensures.parts;
      bytes_are = c.in_ok-push_digest.ensures.items ∙ whole_bytes (image_written old audit adds.frames parts) h c.push_audits.new.out.items same out;
    }
