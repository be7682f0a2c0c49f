-- Which moments of an object can be read.
use Rattle.std.specs.Prelude.{◌≡◌, ℕ, Bool, false, ◌==◌, ◌&&◌, ◌||◌, ◌≤◌, nat_le, Option, None, Some, List, ◌++◌}
use Rattle.std.specs.List.{filter_map, list_any}
use Rattle.s4_types.specs.declared.spans.Span.{Span}
use Rattle.s4_types.specs.declared.changes.Accepted.{Accepted}
use Rattle.s4_types.specs.declared.changes.Change.{Change}
use Rattle.s4_types.specs.declared.changes.Change.TheVariants.{Flush, FlushO}
use Rattle.s4_model.specs.State.{State}

-- The span that a change hides: a Flush of all objects, which are under number 0. No FlushO of object 0 is
-- ever accepted.
abbrev pub span_by : Change → Option Span
span_by (Flush first last) = Some (record { object = 0; first = first; last = last })
span_by (FlushO object first last) = Some (record { object = object; first = first; last = last })
span_by _ = None

abbrev pub span_of : Accepted → Option Span
span_of a = span_by a.change

-- the spans that a drive began with, and those of the accepted changes
abbrev pub spans_of : State → List Span
spans_of s = s.spans ++ filter_map span_of s.changes

-- whether a span has the moment in it, both ends included
abbrev pub is_within : Span → ℕ → Bool
is_within span t = nat_le span.first t && nat_le t span.last

-- whether a span hides the moment of the object: it is of all objects, or of this one
abbrev pub hides : ℕ → ℕ → Span → Bool
hides o t span = (span.object == 0 || span.object == o) && is_within span t

-- whether a moment of an object is hidden
abbrev pub is_hidden : State → ℕ → ℕ → Bool
is_hidden s o t = list_any (hides o t) (spans_of s)

-- The moments of an object that can be read: from the floor to the clock, and not hidden.
pub record IsVisible (s : State) (o t : ℕ) : Type 0 where
  pub kept : s.floor ≤ t
  pub reached : t ≤ s.clock
  pub shown : is_hidden s o t ≡ false

-- some moment of an object, of those from first to last, can be read
pub record IsSeenBetween (s : State) (o first last : ℕ) : Type 0 where
  pub moment : ℕ
  pub begun : first ≤ moment
  pub ended : moment ≤ last
  pub visible : IsVisible s o moment
