-- Why an image of an earlier version of which the header and the digest keep the rules is none.
use Rattle.std.specs.Prelude.{◌≡◌, Option, None}
use Rattle.s4_types.specs.declared.refusals.Cause.{Cause}
use Rattle.s4_types.specs.declared.refusals.Cause.TheVariants.{Frame, Span, Row, Chain}
use Rattle.codec.specs.declared.versions.ImageVersion.{ImageVersion}
use Rattle.image_parts.specs.Frames.{KeepFrameRulesBy}
use Rattle.image_parts.specs.Spans.{KeepSpanRules}
use Rattle.image_parts.specs.Rows.{KeepRowRules}
use Rattle.image_parts.specs.Image.{Image, header_of}
use Rattle.image_parts.specs.Causes.{Tested}
use Rattle.earlier_images.specs.Rows.{EarlierChainsStand}

-- the cause of the first test after that of the digest which fails, or none where all of them hold
abbrev pub FirstEarlierRest : ImageVersion → Image → Option Cause → Type 0
FirstEarlierRest version image found =
    Tested (KeepFrameRulesBy version image.frames) Frame (
    Tested (KeepSpanRules (header_of image) image.spans) Span (
    Tested (KeepRowRules (header_of image) image.rows) Row (
    Tested (EarlierChainsStand version image) Chain (λ f. f ≡ None)))) found
