-- The lines that differ, where both versions are text.
use Rattle.std.specs.Prelude.{◌≡◌, ℕ, ◌++◌, ◌==◌, if◌then◌else◌, Bool, List, [], length, option_map, Option, Some, None, IsUtf8, string_bytes, codes, decimal}
use Rattle.moment_words.specs.declared.printing.MomentStyle.{MomentStyle}
use Rattle.moment_words.specs.Texts.{moment_text}
use Rattle.shown_text.specs.Shown.{shown_lines}
use Rattle.line_diff.specs.Lines.{lines_of}
use Rattle.line_diff.specs.Unified.{IsUnified}
use Rattle.history_diff.specs.declared.diffing.Comparison.{Comparison}
use Rattle.history_diff.specs.declared.texts.Detail.{Detail}
use Rattle.history_diff.specs.declared.texts.Detail.TheVariants.{Ranges, Bytes, Lines}
use Rattle.history_diff.specs.declared.texts.Shown as shown

-- the line that names a version: its sign, its object and its moment
abbrev pub version_line : List ℕ → ℕ → ℕ → MomentStyle → List ℕ
version_line sign o moment style = sign ++ (codes " object-" ++ (decimal o ++ (codes " @ " ++ (moment_text moment style ++ codes "\n"))))

-- hunks after the lines that name the two versions; nothing where there are none
abbrev pub with_versions : ℕ → Comparison → List ℕ → List ℕ
with_versions o c hunks = if length hunks == 0 then [] else version_line (codes "---") o c.before c.style ++ (version_line (codes "+++") o c.after c.style ++ hunks)

-- Two lists of bytes are text, and these are the hunks of their unified difference.
pub record AreHunks (old new hunks : List ℕ) : Type 0 where
  pub old_text : IsUtf8 old
  pub new_text : IsUtf8 new
  pub unified : IsUnified (lines_of old) (lines_of new) hunks

-- These are the hunks between two lists of bytes, or there are none, since one of them isn't text.
abbrev pub AreHunksOf : (old new : List ℕ) → Option (List ℕ) → Type 0
AreHunksOf old new None = IsUtf8 old → IsUtf8 new → ⊥
AreHunksOf old new (Some hunks) = AreHunks old new hunks

-- A text is the unified difference of the versions of an object at the two moments, of which these
-- are the bytes.
pub record IsUnifiedText (o : ℕ) (c : Comparison) (old new text : List ℕ) : Type 0 where
  pub hunks : List ℕ
  pub are : AreHunks old new hunks
  pub text_is : text ≡ with_versions o c hunks

-- This is the unified difference of two versions, or there is none, since one of them isn't text.
abbrev pub IsTextOf : ℕ → Comparison → (old new : List ℕ) → Option (List ℕ) → Type 0
IsTextOf o c old new None = IsUtf8 old → IsUtf8 new → ⊥
IsTextOf o c old new (Some text) = IsUnifiedText o c old new text

-- The same where lines are asked for. There is none where they aren't.
abbrev pub IsAskedText : Detail → ℕ → Comparison → (old new : List ℕ) → Option (List ℕ) → Type 0
IsAskedText Ranges o c old new text = text ≡ None
IsAskedText Bytes o c old new text = text ≡ None
IsAskedText Lines o c old new text = IsTextOf o c old new text

-- the detail that is shown
abbrev pub detail_of : shown.Shown → Detail
detail_of shown.TheVariants.Ranges = Ranges
detail_of shown.TheVariants.Bytes = Bytes
detail_of (shown.TheVariants.Lines text) = Lines

-- the unified difference that is shown, if any is
abbrev pub text_shown : shown.Shown → Option (List ℕ)
text_shown shown.TheVariants.Ranges = None
text_shown shown.TheVariants.Bytes = None
text_shown (shown.TheVariants.Lines text) = option_map string_bytes text

-- lines as they are printed: as they are where that is asked for, and else as they are shown
abbrev pub lines_printed : Bool → List ℕ → List ℕ
lines_printed raw text = if raw then text else shown_lines text

-- the same of a unified difference, and nothing where there is none
abbrev pub bytes_printed : Bool → Option (List ℕ) → List ℕ
bytes_printed raw None = []
bytes_printed raw (Some text) = lines_printed raw text
