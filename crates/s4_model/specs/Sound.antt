-- What holds of each history that a drive can have.
use Rattle.std.specs.Prelude.{◌≡◌, ℕ, ◌+◌, ◌-◌, ◌<◌, ◌≤◌, ◌≢◌, List, [], ◌∷◌}
use Rattle.std.specs.List.{AllByRecursion}
use Rattle.s4_types.specs.declared.spans.Span.{Span}
use Rattle.s4_types.specs.declared.changes.Accepted.{Accepted}
use Rattle.s4_types.specs.declared.versions.Version.{Version}
use Rattle.s4_types.specs.declared.versions.Version.TheVariants.{Absent}
use Rattle.s4_model.specs.State.{State}
use Rattle.s4_model.specs.VersionAt.{version_of}
use Rattle.s4_model.specs.Visible.{spans_of}
use Rattle.s4_model.specs.Audit.{all_rows, IsAuditRow}

-- the moments of these changes ascend strictly, from above one number up to another
abbrev pub Ascends : ℕ → List Accepted → ℕ → Type 0
Ascends low [] high = low ≤ high
Ascends low (a ∷ changes) high = (low < a.moment) × Ascends a.moment changes high

-- whether a span ends before a moment
abbrev pub EndsBefore : ℕ → Span → Type 0
EndsBefore t span = span.last < t

-- whether a span is of all objects, which are under 0, or of one whose number is below next
abbrev pub IsOfGiven : ℕ → Span → Type 0
IsOfGiven next span = span.object < next

-- these changes are numbered upwards, one by one
abbrev pub AreCounted : ℕ → List Accepted → Type 0
AreCounted number [] = Unit {0}
AreCounted number (a ∷ changes) = (a.number ≡ number) × AreCounted (number + 1) changes

-- no object is listed twice
abbrev pub AreListedOnce : List (ℕ × List (ℕ × Version)) → Type 0
AreListedOnce [] = Unit {0}
AreListedOnce (entry ∷ entries) = AllByRecursion (λ other. other.0 ≢ entry.0) entries × AreListedOnce entries

-- the moments from which versions are current ascend strictly
abbrev pub DatesAscend : List (ℕ × Version) → Type 0
DatesAscend [] = Unit {0}
DatesAscend (dated ∷ versions) = AllByRecursion (λ later. dated.0 < later.0) versions × DatesAscend versions

-- A state that a drive can have: the floor isn't above the clock, and at least as high as the window reaches back
-- from it; the next object's number is at least 1, and no more numbers were given than moments passed, since each
-- object took a moment of its own to make. Changes are numbered from 1, moments ascend strictly from the base's
-- clock to the clock, spans end before the clock and are of numbers that were given, a number that wasn't given is
-- of no object, and number 0 never is. The base lists each object once, with the moments of its versions ascending
-- strictly. Each row of the audit is one that an accepted change can have.
pub record IsSound (s : State) : Type 0 where
  pub floor_reached : s.floor ≤ s.clock
  pub reached : s.clock - s.window ≤ s.floor
  pub numbered : 1 ≤ s.next
  pub given : s.next ≤ s.clock + 1
  pub counted : AreCounted 1 s.changes
  pub stamped : Ascends s.opened s.changes s.clock
  pub past : AllByRecursion (EndsBefore s.clock) (spans_of s)
  pub owned : AllByRecursion (IsOfGiven s.next) (spans_of s)
  pub unborn : (o t : ℕ) → s.next ≤ o → version_of s o t ≡ Absent
  pub nobody : (t : ℕ) → version_of s 0 t ≡ Absent
  pub listed : AreListedOnce s.versions
  pub dated : AllByRecursion (λ entry. DatesAscend entry.1) s.versions
  pub audited : AllByRecursion (IsAuditRow s.next) (all_rows s)
