-- The line of an image, by the parts that its bytes have.
use Rattle.std.proofs.Common.{◌≡◌, ◌∙◌, ℕ, List, length, sym, ap}
use Rattle.image_parts.specs.Image.{Image as ImageParts, image_in}
use Rattle.verifier.specs.Grammar.{SpellsDrive}
use Rattle.verifier.specs.Images.{ImageFields, IsImageOf}
use Rattle.verifier.specs.Opened.{IsReadOf}
use Rattle.image_commands.specs.Verifying.{image_line, number_line}
use Rattle.s4d.specs.Migrating.{parts_line}

-- an image has as many objects as rows
abbrev pub AsManyObjects : Type 0
AsManyObjects = (parts : ImageParts) (image : ImageFields) → IsImageOf parts image → length image.objects ≡ length parts.rows

-- the line of an image is that of its parts
line_of_parts : AsManyObjects → (parts : ImageParts) (image : ImageFields) → IsImageOf parts image → image_line image ≡ parts_line parts
line_of_parts as_many parts image is =
    ap (λ n. number_line n (length image.objects) image.clock image.window image.floor) is.frames.frame_count
    ∙ ap (λ n. number_line (length parts.frames) n image.clock image.window image.floor) (as_many parts image is)
    ∙ ap (λ n. number_line (length parts.frames) (length parts.rows) n image.window image.floor) is.clock
    ∙ ap (λ n. number_line (length parts.frames) (length parts.rows) parts.clock n image.floor) is.window
    ∙ ap (λ n. number_line (length parts.frames) (length parts.rows) parts.clock parts.window n) is.floor

-- the line of the parts that bytes have is the one of the image that is read of them
pub line_read : AsManyObjects → ((xs : List ℕ) (parts : ImageParts) → SpellsDrive xs parts → image_in xs ≡ parts)
    → (bytes : List ℕ) (image : ImageFields) (line : List ℕ) → IsReadOf bytes image → line ≡ parts_line (image_in bytes) → line ≡ image_line image
line_read as_many one bytes image line of is = is ∙ ap parts_line (one bytes of.parts of.spelled) ∙ sym (line_of_parts as_many of.parts image of.told)
