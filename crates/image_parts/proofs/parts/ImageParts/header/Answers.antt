use Rattle.std.proofs.Common.{◌≡◌, ℕ, List, refl, sym, ap, ◌∙◌}
use Rattle.image_parts.specs.Frames.{frames_in}
use Rattle.image_parts.specs.Rows.{rows_in}
use Rattle.image_parts.specs.Spans.{spans_in}
use Rattle.image_parts.specs.Audit.{audits_in}
use Rattle.image_parts.specs.Image.{Image, header_of}
use Rattle.image_parts.specs.declared.headers.Header.{Header}
use Rattle.image_parts.proofs.FrameLists.{frames_count}
use Rattle.image_parts.proofs.RowLists.{rows_count, spans_count}
use Rattle.image_parts.proofs.AuditLaws.{audits_count}
use Rattle.image_parts.proofs.parts.ImageParts.header.Goals as goal

abbrev told : Header → List ℕ → List ℕ → List ℕ → List ℕ → Image
told h frames rows spans audit =
    record { clock = h.clock; window = h.window; floor = h.floor; next = h.next; frames = frames_in h.frames frames; rows = rows_in h.rows rows; spans = spans_in h.spans spans; audit = audits_in h.audit audit }

counted : (h : Header) (frames rows spans audit : List ℕ) → header_of (told h frames rows spans audit) ≡ h
counted h frames rows spans audit = rw (frames_count h.frames frames, rows_count h.rows rows, spans_count h.spans spans, audits_count h.audit audit) refl

pub returns : goal.returns
returns c = sym (counted c.self.inside.header c.self.inside.frames.now c.self.inside.rows.now c.self.inside.spans.now c.self.inside.audit.now) ∙ ap header_of c.self.view_is
