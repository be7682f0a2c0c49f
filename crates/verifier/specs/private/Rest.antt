-- Why an image of which the header keeps its rules can't be opened, its digest aside.
use Rattle.std.specs.Prelude.{◌≡◌, Option, None}
use Rattle.s4_types.specs.declared.refusals.Cause.{Cause}
use Rattle.s4_types.specs.declared.refusals.Cause.TheVariants.{Frame, Span, Row, Chain, Audit}
use Rattle.image_parts.specs.Frames.{KeepFrameRules}
use Rattle.image_parts.specs.Spans.{KeepSpanRules}
use Rattle.image_parts.specs.Rows.{KeepRowRules}
use Rattle.image_parts.specs.Image.{Image, header_of}
use Rattle.image_parts.specs.Causes.{Tested}
use Rattle.verifier.specs.Rows.{ChainsStand}
use Rattle.verifier.specs.Audit.{AuditStands}

-- the cause of the first test after that of the digest which fails, or none where all of them hold
abbrev pub FirstRestCause : Image → Option Cause → Type 0
FirstRestCause image found =
    Tested (KeepFrameRules image.frames) Frame (
    Tested (KeepSpanRules (header_of image) image.spans) Span (
    Tested (KeepRowRules (header_of image) image.rows) Row (
    Tested (ChainsStand image) Chain (
    Tested (AuditStands image) Audit (λ f. f ≡ None))))) found
