-- What is asked of a copy, by the words of a line and the image.
use Rattle.std.specs.Prelude.{◌≡◌, ◌==◌, ℕ, ◌-◌, ◌^◌, min, not, Bool, List, Option, Some, None, option_map}
use Rattle.std.specs.BTreeSet.{contains}
use Rattle.std.specs.List.{find, list_any}
use Rattle.std.specs.Ordering.{nat_cmp}
use Rattle.moment_words.specs.Words.{moment_of}
use Rattle.moment_words.specs.declared.words.MomentWord.{MomentWord}
use Rattle.image_parts.specs.Image.{Image}
use Rattle.image_parts.specs.declared.rows.RowPart.{RowPart}
use Rattle.migration.specs.declared.copying.CopyAsked.{CopyAsked as Wanted}
use Rattle.s4_command.specs.declared.copying.CopyAsked.{CopyAsked}

-- a number of frames; no drive has as many as the most
abbrev pub clipped : ℕ → ℕ
clipped frames = min frames (2 ^ 16 - 1)

-- whether an object has a row in an image
abbrev pub has_row : Image → ℕ → Bool
has_row image o = list_any (λ (row : RowPart). row.object == o) image.rows

-- the first of these objects that has none; none where each has one
abbrev pub first_absent : Image → List ℕ → Option ℕ
first_absent image objects = find (λ o. not (has_row image o)) objects

-- the moment that is asked for, where the clock is there; none where none is asked for
abbrev pub moment_asked : Option MomentWord → ℕ → Option ℕ
moment_asked None clock = None
moment_asked (Some word) clock = moment_of word clock

-- a time is asked for, and moments are numbers
abbrev pub HasNoMoment : Option MomentWord → ℕ → Type 0
HasNoMoment None clock = ⊥
HasNoMoment (Some word) clock = moment_of word clock ≡ None

-- This is asked of the copy of an image: the frames, the objects and the moment of a line.
pub record Wants (asked : CopyAsked) (image : Image) (wanted : Wanted) : Type 0 where
  pub frames : wanted.frames ≡ option_map clipped asked.frames
  pub objects : (o : ℕ) → contains nat_cmp wanted.objects.now o ≡ list_any (λ n. n == o) asked.without.items
  pub since : wanted.since ≡ moment_asked asked.created_since image.clock
  pub said : HasNoMoment asked.created_since image.clock → ⊥
