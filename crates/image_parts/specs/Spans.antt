-- The spans of an image: how each is encoded and read, and their rules.
use Rattle.std.specs.Prelude.{◌≡◌, ◌⊎◌, ℕ, zero, suc, ◌+◌, ◌^◌, ◌<◌, ◌≤◌, List, [], ◌∷◌, ◌++◌, length, drop, count_by, ◌==◌}
use Rattle.std.specs.Int.{w64}
use Rattle.s4_types.specs.declared.limits.TheConstants.{RUNS_IN_A_LIST, RUNS_IN_ALL}
use Rattle.s4_types.specs.declared.spans.Span.{Span}
use Rattle.codec.specs.Fields.{number}
use Rattle.image_parts.specs.Header.{number_in}
use Rattle.image_parts.specs.declared.headers.Header.{Header}

-- the 24 bytes of a span
unfoldable pub span_bytes : Span → List ℕ
span_bytes s = number w64 s.object ++ (number w64 s.first ++ number w64 s.last)

-- a span has an encoding: its numbers are in their ranges
pub record IsSpan (s : Span) : Type 0 where
  pub object : s.object < 2 ^ 64
  pub first : s.first < 2 ^ 64
  pub last : s.last < 2 ^ 64

-- the span that bytes begin with
unfoldable pub span_in : List ℕ → Span
span_in bytes = record {
  object = number_in w64 bytes;
  first = number_in w64 (drop 8 bytes);
  last = number_in w64 (drop 16 bytes);
}

-- the first n spans
abbrev pub spans_in : ℕ → List ℕ → List Span
spans_in zero bytes = []
spans_in (suc n) bytes = span_in bytes ∷ spans_in n (drop 24 bytes)

-- the rules of a span by itself: it is of all objects or of one that was given, and its moments are from the floor on, before
-- the clock
pub record KeepsSpanRules (h : Header) (s : Span) : Type 0 where
  pub given : s.object < h.next
  pub floor : h.floor ≤ s.first
  pub order : s.first ≤ s.last
  pub clock : s.last < h.clock

-- a span begins the next list, after one of the list before it
abbrev pub BeginsList : Span → Span → Type 0
BeginsList before s = before.object < s.object

-- a span goes on with the list of the one before it, which is the nth of that list: at least one moment lies between them,
-- and the list has room
abbrev pub GoesOn : Span → ℕ → Span → Type 0
GoesOn before nth s = (before.object ≡ s.object) × (before.last + 1 < s.first) × (nth < RUNS_IN_A_LIST)

-- each span keeps its rules, and begins a list or goes on with one; the span before them is the nth of its list
abbrev pub SpansFollow : Header → Span → ℕ → List Span → Type 0
SpansFollow h before nth [] = Unit {0}
SpansFollow h before nth (s ∷ spans) =
    KeepsSpanRules h s × ((BeginsList before s × SpansFollow h s 1 spans) ⊎ (GoesOn before nth s × SpansFollow h s (nth + 1) spans))

-- the same of all spans, where none is before the first
abbrev pub SpansKeep : Header → List Span → Type 0
SpansKeep h [] = Unit {0}
SpansKeep h (s ∷ spans) = KeepsSpanRules h s × SpansFollow h s 1 spans

-- the rules of all spans
pub record KeepSpanRules (h : Header) (spans : List Span) : Type 0 where
  pub each : SpansKeep h spans
  pub few : length spans ≤ RUNS_IN_ALL

-- how many spans an object's list has; number 0 is that of all objects
abbrev pub span_count : ℕ → List Span → ℕ
span_count object spans = count_by (λ s. s.object == object) spans
