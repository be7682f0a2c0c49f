-- A moment is left of a window's two lists where one of the object can be read.
use Rattle.std.proofs.Common.{◌≡◌, ℕ, Bool, true, false, ◌<◌, ◌≤◌, min, max, List, filter, MatchBool, sym, ap, subst, ◌∙◌, arith}
use Rattle.std.specs.List.{list_any}
use Rattle.std.proofs.lemmas.Bool.{or_parts, or_from}
use Rattle.s4_types.specs.declared.spans.Span.{Span}
use Rattle.s4_model.specs.State.{State}
use Rattle.s4_model.specs.Visible.{IsSeenBetween}
use Rattle.window.specs.Runs.{covers, span_is_of, IsLeft}
use Rattle.window.specs.Timeline.{Timeline, StandsFor}
use Rattle.window.proofs.Lists.{cover_of}
use Rattle.window.proofs.Standing.{hidden_is}

-- a moment that is left of the lists of all objects and of one
abbrev pub IsLeftOf : Timeline → ℕ → ℕ → ℕ → Type 0
IsLeftOf w o first last = IsLeft (filter (span_is_of 0) w.runs) (filter (span_is_of o) w.runs) (max first w.floor) (min last w.clock)

pub seen_where_left : (w : Timeline) (s : State) (o first last : ℕ) → StandsFor w s → IsLeftOf w o first last → IsSeenBetween s o first last
seen_where_left w s o first last stands left =
    let t : ℕ = left.moment in
    let low : max first w.floor ≤ t = left.begun in
    let high : t ≤ min last w.clock = left.ended in
    let floor : w.floor ≡ s.floor = stands.floor in
    let clock : w.clock ≡ s.clock = stands.clock in
    record {
      moment = t;
      begun = omega arith;
      ended = omega arith;
      visible = record {
        kept = omega arith;
        reached = omega arith;
        shown = hidden_is w s o t stands (omega arith) ∙ or_from (list_any (covers 0 t) w.runs) (list_any (covers o t) w.runs) (sym (cover_of 0 t w.runs) ∙ left.not_in_all) (sym (cover_of o t w.runs) ∙ left.not_in_own);
      };
    }

pub left_where_seen : (w : Timeline) (s : State) (o first last : ℕ) → StandsFor w s → IsSeenBetween s o first last → IsLeftOf w o first last
left_where_seen w s o first last stands seen =
    let t : ℕ = seen.moment in
    let low : first ≤ t = seen.begun in
    let high : t ≤ last = seen.ended in
    let kept : s.floor ≤ t = seen.visible.kept in
    let reached : t ≤ s.clock = seen.visible.reached in
    let floor : w.floor ≡ s.floor = stands.floor in
    let clock : w.clock ≡ s.clock = stands.clock in
    let parts = or_parts (list_any (covers 0 t) w.runs) (list_any (covers o t) w.runs) (sym (hidden_is w s o t stands kept) ∙ seen.visible.shown) in
    record {
      moment = t;
      begun = omega arith;
      ended = omega arith;
      not_in_all = cover_of 0 t w.runs ∙ parts.0;
      not_in_own = cover_of o t w.runs ∙ parts.1;
    }

-- none where the end comes before the beginning
pub none_seen : (w : Timeline) (s : State) (o first last : ℕ) → StandsFor w s → min last w.clock < max first w.floor → IsSeenBetween s o first last → ⊥
none_seen w s o first last stands early seen =
    let left : IsLeftOf w o first last = left_where_seen w s o first last stands seen in
    let low : max first w.floor ≤ left.moment = left.begun in
    let high : left.moment ≤ min last w.clock = left.ended in
    omega arith

answered : (w : Timeline) (s : State) (o first last : ℕ) (b : Bool) → StandsFor w s → MatchBool b (IsLeftOf w o first last) (IsLeftOf w o first last → ⊥) → MatchBool b (IsSeenBetween s o first last) (IsSeenBetween s o first last → ⊥)
answered w s o first last true stands left = seen_where_left w s o first last stands left
answered w s o first last false stands none = λ seen. none (left_where_seen w s o first last stands seen)

-- what the walk through the two lists answers
pub seen_is : (w : Timeline) (s : State) (o first last from to nought : ℕ) (runs all own : List Span) (b : Bool) → StandsFor w s
    → from ≡ max first w.floor → to ≡ min last w.clock → nought ≡ 0 → runs ≡ w.runs → all ≡ filter (span_is_of nought) runs → own ≡ filter (span_is_of o) runs
    → MatchBool b (IsLeft all own from to) (IsLeft all own from to → ⊥) → MatchBool b (IsSeenBetween s o first last) (IsSeenBetween s o first last → ⊥)
seen_is w s o first last from to nought runs all own b stands f t z r a e walked =
    let in_all : all ≡ filter (span_is_of 0) w.runs = a ∙ ap (λ n. filter (span_is_of n) runs) z ∙ ap (λ xs. filter (span_is_of 0) xs) r in
    let in_own : own ≡ filter (span_is_of o) w.runs = e ∙ ap (λ xs. filter (span_is_of o) xs) r in
    let P : List Span → List Span → ℕ → ℕ → Type 0 = λ x y m n. MatchBool b (IsLeft x y m n) (IsLeft x y m n → ⊥) in
    answered w s o first last b stands (subst (λ x. P x (filter (span_is_of o) w.runs) (max first w.floor) (min last w.clock)) in_all (subst (λ y. P all y (max first w.floor) (min last w.clock)) in_own (subst (λ m. P all own m (min last w.clock)) f (subst (λ n. P all own from n) t walked))))
