-- What is read of the parts of an image is one image.
use Rattle.std.proofs.Common.{◌≡◌, ℕ, List, Option, sym, ap, ◌∙◌}
use Rattle.s4_types.specs.Pointer.{Place}
use Rattle.s4_types.specs.declared.spans.Span.{Span}
use Rattle.codec.specs.Fields.{SpellsSlot}
use Rattle.codec.specs.declared.versions.ImageVersion.{ImageVersion}
use Rattle.image_parts.specs.Frames.{FrameFields}
use Rattle.image_parts.specs.Image.{Image}
use Rattle.image_parts.specs.declared.headers.Header.{Header}
use Rattle.image_objects.specs.declared.rows.ImageRow.{ImageRow}
use Rattle.verifier.proofs.OpenedRows.{rows_same}
use Rattle.earlier_images.specs.declared.frames.EarlierFrame.{EarlierFrame}
use Rattle.earlier_images.specs.Used.{AreFramesOf}
use Rattle.earlier_images.specs.Images.{EarlierFields, IsEarlierOf}

-- what one_pointer_a_spelling and an_image_has_its_frames_once say
abbrev OnePointerASpelling : Type 0
OnePointerASpelling = (bytes : List ℕ) (p q : Option Place) → SpellsSlot bytes p → SpellsSlot bytes q → p ≡ q

abbrev OneListOfFrames : Type 0
OneListOfFrames = (parts : List FrameFields) (frames others : List EarlierFrame) → AreFramesOf parts frames → AreFramesOf parts others → frames ≡ others

abbrev image_with : ImageVersion → Header → ℕ → ℕ → ℕ → ℕ → List EarlierFrame → List ImageRow → List Span → EarlierFields
image_with version header clock window floor next frames rows spans = record { version = version; header = header; clock = clock; window = window; floor = floor; next = next; frames = frames; rows = rows; spans = spans }

pub one_image : OnePointerASpelling → OneListOfFrames → (version : ImageVersion) (parts : Image) (a b : EarlierFields) → IsEarlierOf version parts a → IsEarlierOf version parts b → a ≡ b
one_image one once version parts a b x y =
    ap (λ v. image_with v a.header a.clock a.window a.floor a.next a.frames a.rows a.spans) (x.version_is ∙ sym y.version_is)
    ∙ ap (λ h. image_with b.version h a.clock a.window a.floor a.next a.frames a.rows a.spans) (x.header ∙ sym y.header)
    ∙ ap (λ n. image_with b.version b.header n a.window a.floor a.next a.frames a.rows a.spans) (x.clock ∙ sym y.clock)
    ∙ ap (λ n. image_with b.version b.header b.clock n a.floor a.next a.frames a.rows a.spans) (x.window ∙ sym y.window)
    ∙ ap (λ n. image_with b.version b.header b.clock b.window n a.next a.frames a.rows a.spans) (x.floor ∙ sym y.floor)
    ∙ ap (λ n. image_with b.version b.header b.clock b.window b.floor n a.frames a.rows a.spans) (x.next ∙ sym y.next)
    ∙ ap (λ l. image_with b.version b.header b.clock b.window b.floor b.next l a.rows a.spans) (once parts.frames a.frames b.frames x.frames y.frames)
    ∙ ap (λ l. image_with b.version b.header b.clock b.window b.floor b.next b.frames l a.spans) (rows_same one parts.rows a.rows b.rows x.spelled y.spelled)
    ∙ ap (λ l. image_with b.version b.header b.clock b.window b.floor b.next b.frames b.rows l) (x.spans ∙ sym y.spans)
