-- What is told of the differences between two moments of a drive.
use Rattle.std.specs.Prelude.{◌≡◌, ◌⊎◌, ⊤, ℕ, ◌<◌, ◌++◌, if◌then◌else◌, Bool, true, false, List, [], ◌∷◌, Option, Some, None}
use Rattle.std.specs.Io.KnownBytes.{Appends}
use Rattle.s4_types.specs.declared.versions.Version.{Version}
use Rattle.s4_model.specs.State.{State}
use Rattle.s4_model.specs.VersionAt.{version_of}
use Rattle.s4_model.specs.Visible.{IsVisible}
use Rattle.history_text.specs.Json.{json_line}
use Rattle.history_diff.specs.declared.diffing.Comparison.{Comparison}
use Rattle.history_diff.specs.declared.texts.Detail.{Detail}
use Rattle.history_diff.specs.declared.texts.Detail.TheVariants.{Ranges, Bytes, Lines}
use Rattle.history_diff.specs.declared.differing.DifferingObject.{DifferingObject}
use Rattle.history_diff.specs.declared.diffing.DiffAsked.{DiffAsked}
use Rattle.history_diff.specs.declared.faults.DiffFault.{DiffFault}
use Rattle.history_diff.specs.declared.faults.DiffFault.TheVariants.{Unreadable, Stopped}
use Rattle.history_view.specs.Contents.{content_of}
use Rattle.history_diff.specs.Differences.{AreAlike, IsDifferenceOf, Told, told_of}
use Rattle.history_diff.specs.Lines.{difference_line}
use Rattle.history_diff.specs.Patches.{patch_lines}
use Rattle.history_diff.specs.Json.{difference_data, ranges_data, text_members, has_bytes}
use Rattle.history_diff.specs.Texts.{IsAskedText, bytes_printed}

-- an object's two versions, and what differs between them
pub record ObjectDifference : Type 0 where
  pub object : ℕ
  pub before : Version
  pub after : Version
  pub told : Told

abbrev pub row_of : DifferingObject → ObjectDifference
row_of d = record { object = d.object; before = d.before; after = d.after; told = told_of d.difference }

-- what follows the line of an object: nothing, the lines of its bytes, or those of a unified difference, as they are or as they are shown
abbrev pub detail_lines : Bool → Detail → ObjectDifference → Option (List ℕ) → List ℕ
detail_lines raw Ranges d text = []
detail_lines raw Bytes d text = patch_lines (content_of d.before) (content_of d.after) d.told.ranges
detail_lines raw Lines d text = bytes_printed raw text

-- the text of what differs of an object: its line, and the detail that is asked for
abbrev pub text_of : Bool → Detail → ObjectDifference → Option (List ℕ) → List ℕ
text_of raw detail d text = difference_line d.object d.told ++ detail_lines raw detail d text

-- its line for programs
abbrev pub json_of : Detail → ObjectDifference → Option (List ℕ) → List ℕ
json_of detail d text = json_line (difference_data d.object (ranges_data (has_bytes detail) (content_of d.before) (content_of d.after) d.told.ranges) (text_members detail text) d.told)

-- what is written of it, for programs or for people
abbrev pub lines_with : Comparison → ObjectDifference → Option (List ℕ) → List ℕ
lines_with c d text = if c.json then json_of c.detail d text else text_of c.raw c.detail d text

-- This is what is written of an object's difference.
pub record AreLinesOf (c : Comparison) (d : ObjectDifference) (lines : List ℕ) : Type 0 where
  pub text : Option (List ℕ)
  pub unified : IsAskedText c.detail d.object c (content_of d.before) (content_of d.after) text
  pub lines_are : lines ≡ lines_with c d text

-- This is what is written of differences, one after the other.
abbrev pub AreAllLinesOf : Comparison → List ObjectDifference → List ℕ → Type 0
AreAllLinesOf c [] text = text ≡ []
AreAllLinesOf c (d ∷ differences) text = (first : List ℕ) × (rest : List ℕ) × (text ≡ first ++ rest) × AreLinesOf c d first × AreAllLinesOf c differences rest

-- An object is passed: its versions at two moments are alike, or one of these moments of it can't be read.
abbrev pub IsPassed : State → (t u o : ℕ) → Type 0
IsPassed s t u o = IsVisible s o t → IsVisible s o u → AreAlike (version_of s o t) (version_of s o u)

-- This is what differs of an object between two moments, which can be read.
pub record IsDifferenceAt (s : State) (t u : ℕ) (d : ObjectDifference) : Type 0 where
  pub visible_before : IsVisible s d.object t
  pub visible_after : IsVisible s d.object u
  pub before : d.before ≡ version_of s d.object t
  pub after : d.after ≡ version_of s d.object u
  pub told : IsDifferenceOf d.before d.after d.told

-- This is the difference of the least object above one that isn't passed.
pub record IsDifferenceNext (s : State) (t u above : ℕ) (d : ObjectDifference) : Type 0 where
  pub beyond : above < d.object
  pub here : IsDifferenceAt s t u d
  pub least : (o : ℕ) → above < o → o < d.object → IsPassed s t u o

-- These are the differences of all objects above one, by ascending number.
abbrev pub AreDifferencesFrom : State → (t u above : ℕ) → List ObjectDifference → Type 0
AreDifferencesFrom s t u above [] = (o : ℕ) → above < o → IsPassed s t u o
AreDifferencesFrom s t u above (d ∷ differences) = IsDifferenceNext s t u above d × AreDifferencesFrom s t u d.object differences

-- These are the differences of the one object: one, or none.
abbrev pub AreDifferencesOf : State → (t u o : ℕ) → List ObjectDifference → Type 0
AreDifferencesOf s t u o [] = IsPassed s t u o
AreDifferencesOf s t u o (d ∷ []) = (d.object ≡ o) × IsDifferenceAt s t u d
AreDifferencesOf s t u o (d ∷ e ∷ differences) = ⊥

-- the differences of the object that is asked for, or of all
abbrev pub AreAsked : State → Comparison → Option ℕ → List ObjectDifference → Type 0
AreAsked s c None differences = AreDifferencesFrom s c.before c.after 0 differences
AreAsked s c (Some o) differences = AreDifferencesOf s c.before c.after o differences

-- The differences that are asked for are the only ones: it is a clause of a function with an empty body.
abbrev pub DifferencesAreOnly : Type 0
DifferencesAreOnly = (s : State) (c : Comparison) (object : Option ℕ) (one other : List ObjectDifference) → AreAsked s c object one → AreAsked s c object other → one ≡ other

-- whether a list has an element
abbrev pub has_any : {X : Type 0} → List X → Bool
has_any [] = false
has_any (x ∷ xs) = true

-- The output has the lines of the differences after it that are asked for, and this says whether there are any.
pub record WritesAsked (s : State) (c : Comparison) (object : Option ℕ) (differs : Bool) (output output' : Option (List ℕ)) : Type 0 where
  pub differences : List ObjectDifference
  pub asked : AreAsked s c object differences
  pub text : List ℕ
  pub lines : AreAllLinesOf c differences text
  pub wrote : Appends output output' text
  pub answer : differs ≡ has_any differences

-- the object whose moments must be such that can be read; where none is asked for, 0: its moments are hidden where those of all objects are
abbrev pub object_asked : Option ℕ → ℕ
object_asked None = 0
object_asked (Some o) = o

-- the moment that is asked for, and the clock's where none is
abbrev pub moment_asked : State → Option ℕ → ℕ
moment_asked s None = s.clock
moment_asked s (Some at) = at

-- which moments are compared, and how what differs is told
abbrev pub comparison_of : State → DiffAsked → Comparison
comparison_of s asked = record { before = asked.before; after = moment_asked s asked.after; json = asked.json; detail = asked.detail; raw = asked.raw; style = asked.style }

-- both moments of an object can be read
pub record AreVisible (s : State) (o t u : ℕ) : Type 0 where
  pub before : IsVisible s o t
  pub after : IsVisible s o u

-- Both moments can be read, and the output has the lines of the differences after it that are asked for; this says whether there are any.
pub record TellsDifferences (s : State) (asked : DiffAsked) (differs : Bool) (output output' : Option (List ℕ)) : Type 0 where
  pub visible : AreVisible s (object_asked asked.object) asked.before (moment_asked s asked.after)
  pub wrote : WritesAsked s (comparison_of s asked) asked.object differs output output'

-- a moment of an object is one of the two, and can't be read
pub record IsUnreadable (s : State) (o before after moment : ℕ) : Type 0 where
  pub among : (moment ≡ before) ⊎ (moment ≡ after)
  pub hidden : IsVisible s o moment → ⊥

-- A moment is told as one that can't be read only where it is one of the two, and can't; then nothing is written.
abbrev pub IsFaultOf : State → DiffAsked → (output output' : Option (List ℕ)) → DiffFault → Type 0
IsFaultOf s asked output output' (Unreadable moment) = IsUnreadable s (object_asked asked.object) asked.before (moment_asked s asked.after) moment × (output' ≡ output)
IsFaultOf s asked output output' (Stopped stop) = ⊤
