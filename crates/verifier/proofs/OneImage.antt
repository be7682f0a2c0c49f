-- What a drive is saved as is one image, and so one list of bytes.
use Rattle.std.proofs.Common.{◌≡◌, ℕ, List, sym, ap, ◌∙◌, subst}
use Rattle.s4_types.specs.declared.spans.Span.{Span}
use Rattle.object_map.specs.declared.map.Row.{Row}
use Rattle.image_parts.specs.declared.audit.AuditPart.{AuditPart}
use Rattle.image_parts.specs.declared.rows.RowPart.{RowPart}
use Rattle.image_parts.specs.Frames.{FrameFields}
use Rattle.image_parts.specs.Image.{Image, IsImage, KeepsRules, SpellsImage, header_of, image_bytes}
use Rattle.image_objects.specs.Saved.{saved_rows}
use Rattle.window.specs.Runs.{AllBeginFrom}
use Rattle.drive.specs.Fields.{DriveFields, state_in}
use Rattle.verifier.specs.Rows.{SpellRows}
use Rattle.verifier.specs.Saved.{IsSavedOf, SpellsSaved}
use Rattle.verifier.proofs.SpanOrder.{spans_ascend, spans_from_floor}
use Rattle.verifier.proofs.OneSpans.{one_list_of_runs}
use Rattle.verifier.proofs.OneRows.{one_list_of_rows, one_list_of_parts}
use Rattle.verifier.proofs.OneFrames.{one_list_of_frames}

-- ---- the parts

-- the spans of an image begin at the drive's floor or later
from_floor : (d : DriveFields) (image : Image) → KeepsRules image → IsSavedOf d image → AllBeginFrom (state_in d).floor image.spans
from_floor d image rules saved = subst (λ (n : ℕ). AllBeginFrom n image.spans) saved.floor (spans_from_floor (header_of image) image.spans rules.spans.each)

one_list_of_spans : (d : DriveFields) (image other : Image) → KeepsRules image → KeepsRules other → IsSavedOf d image → IsSavedOf d other → image.spans ≡ other.spans
one_list_of_spans d image other rules rules_other saved saved_other =
    one_list_of_runs (state_in d).floor image.spans other.spans
    (spans_ascend (header_of image) image.spans rules.spans.each) (spans_ascend (header_of other) other.spans rules_other.spans.each)
    (from_floor d image rules saved) (from_floor d other rules_other saved_other)
    (λ list t from. saved.spans list t from ∙ sym (saved_other.spans list t from))

one_list_of_saved_rows : (d : DriveFields) (image other : Image) → IsImage image → IsImage other → IsSavedOf d image → IsSavedOf d other → image.rows ≡ other.rows
one_list_of_saved_rows d image other is is_other saved saved_other =
    let rows : saved.rows ≡ saved_other.rows = one_list_of_rows 1 saved.rows saved_other.rows saved.ascending saved_other.ascending (λ o. saved.listed o ∙ sym (saved_other.listed o)) in
    let spelled : SpellRows other.rows (saved_rows saved.rows) = subst (λ (l : List (ℕ × Row)). SpellRows other.rows (saved_rows l)) (sym rows) saved_other.spelled in
    one_list_of_parts image.rows other.rows (saved_rows saved.rows) is.rows is_other.rows saved.spelled spelled

-- ---- the whole

made : ℕ → ℕ → ℕ → ℕ → List FrameFields → List RowPart → List Span → List AuditPart → Image
made clock window floor next frames rows spans audit = record { clock = clock; window = window; floor = floor; next = next; frames = frames; rows = rows; spans = spans; audit = audit }

same_image : (i j : Image) → i.clock ≡ j.clock → i.window ≡ j.window → i.floor ≡ j.floor → i.next ≡ j.next → i.frames ≡ j.frames → i.rows ≡ j.rows → i.spans ≡ j.spans → i.audit ≡ j.audit → i ≡ j
unfolding made
same_image i j clock window floor next frames rows spans audit =
    ap (λ n. made n i.window i.floor i.next i.frames i.rows i.spans i.audit) clock
    ∙ ap (λ n. made j.clock n i.floor i.next i.frames i.rows i.spans i.audit) window
    ∙ ap (λ n. made j.clock j.window n i.next i.frames i.rows i.spans i.audit) floor
    ∙ ap (λ n. made j.clock j.window j.floor n i.frames i.rows i.spans i.audit) next
    ∙ ap (λ l. made j.clock j.window j.floor j.next l i.rows i.spans i.audit) frames
    ∙ ap (λ l. made j.clock j.window j.floor j.next j.frames l i.spans i.audit) rows
    ∙ ap (λ l. made j.clock j.window j.floor j.next j.frames j.rows l i.audit) spans
    ∙ ap (made j.clock j.window j.floor j.next j.frames j.rows j.spans) audit

one_image : (d : DriveFields) (bytes more : List ℕ) (image other : Image) → SpellsImage bytes image → SpellsImage more other → IsSavedOf d image → IsSavedOf d other → image ≡ other
one_image d bytes more image other spelled spelled_other saved saved_other =
    same_image image other (saved.clock ∙ sym saved_other.clock) (saved.window ∙ sym saved_other.window) (saved.floor ∙ sym saved_other.floor) (saved.next ∙ sym saved_other.next)
    (one_list_of_frames d.store.table image.frames other.frames spelled.is.frames spelled_other.is.frames spelled.rules.frames spelled_other.rules.frames saved.frames saved_other.frames)
    (one_list_of_saved_rows d image other spelled.is spelled_other.is saved saved_other)
    (one_list_of_spans d image other spelled.rules spelled_other.rules saved saved_other)
    (saved.audit ∙ sym saved_other.audit)

pub one_spelling : (d : DriveFields) (bytes other : List ℕ) → SpellsSaved d bytes → SpellsSaved d other → bytes ≡ other
unfolding image_bytes
one_spelling d bytes other spells spells_other =
    let image : spells.image ≡ spells_other.image = one_image d bytes other spells.image spells_other.image spells.spelled.parts spells_other.spelled.parts spells.saved spells_other.saved in
    spells.spelled.parts.spelled ∙ ap image_bytes image ∙ sym spells_other.spelled.parts.spelled
