-- Spans judged one by one, as a loop does.
use Rattle.std.proofs.Common.{ℕ, List}
use Rattle.s4_types.specs.declared.spans.Span.{Span}
use Rattle.image_parts.specs.Spans.{SpansFollow, SpansKeep}
use Rattle.image_parts.specs.declared.headers.Header.{Header}

-- all spans keep the rules exactly where those that are left do, after one that is the nth of its list
pub record SpansJudged (h : Header) (all : List Span) (before : Span) (nth : ℕ) (left : List Span) : Type 0 where
  pub on : SpansFollow h before nth left → SpansKeep h all
  pub back : SpansKeep h all → SpansFollow h before nth left
