-- What differs between two versions of an object.
use Rattle.std.specs.Prelude.{◌≡◌, ◌≢◌, ℕ, if◌then◌else◌, List, length, Option, Some, None}
use Rattle.s4_types.specs.declared.versions.Version.{Version}
use Rattle.s4_model.specs.Refusals.{is_absent}
use Rattle.history_view.specs.Contents.{attribute_of, content_of}
use Rattle.history_diff.specs.declared.ranges.ByteRange.{ByteRange}
use Rattle.history_diff.specs.declared.differences.AttributePair.{AttributePair}
use Rattle.history_diff.specs.declared.differences.Difference.{Difference}
use Rattle.history_diff.specs.declared.differences.DifferenceKind.{DifferenceKind}
use Rattle.history_diff.specs.declared.differences.DifferenceKind.TheVariants.{Made, Deleted, Changed}
use Rattle.history_diff.specs.Ranges.{AreRangesOf}

-- Two versions are alike: both are absent, or both are live, with the same bytes and the same attribute. Their moments may differ.
pub record AreAlike (before after : Version) : Type 0 where
  pub presence : is_absent before ≡ is_absent after
  pub content : content_of before ≡ content_of after
  pub attribute : attribute_of before ≡ attribute_of after

-- what was done between two versions that aren't alike
abbrev pub kind_between : Version → Version → DifferenceKind
kind_between before after = if is_absent before then Made else (if is_absent after then Deleted else Changed)

-- The attributes are told where they differ.
abbrev pub TellsAttributes : List ℕ → List ℕ → Option AttributePair → Type 0
TellsAttributes before after None = before ≡ after
TellsAttributes before after (Some pair) = (before ≢ after) × (pair.before ≡ before) × (pair.after ≡ after)

-- a difference, with its ranges as a list
pub record Told : Type 0 where
  pub kind : DifferenceKind
  pub size_before : ℕ
  pub size_after : ℕ
  pub attributes : Option AttributePair
  pub ranges : List ByteRange

abbrev pub told_of : Difference → Told
told_of d = record { kind = d.kind; size_before = d.size_before; size_after = d.size_after; attributes = d.attributes; ranges = d.ranges.items }

-- Two versions aren't alike, and this is all that differs between them.
pub record IsDifferenceOf (before after : Version) (told : Told) : Type 0 where
  pub apart : AreAlike before after → ⊥
  pub kind : told.kind ≡ kind_between before after
  pub size_before : told.size_before ≡ length (content_of before)
  pub size_after : told.size_after ≡ length (content_of after)
  pub attributes : TellsAttributes (attribute_of before) (attribute_of after) told.attributes
  pub ranges : AreRangesOf (content_of before) (content_of after) told.ranges
