-- Which moments of objects are needed: with each record of a history there are fewer of them.
use Rattle.std.proofs.Common.{◌≡◌, ℕ, ◌<◌, ◌≤◌, false, inl, inr, [], ◌∷◌, ◌++◌, filter_map, append_assoc, ap, sym, ◌∙◌, arith}
use Rattle.std.proofs.lemmas.Bool.{cases_lt, or_parts}
use Rattle.std.proofs.lemmas.List.Elements.{filter_map-append}
use Rattle.std.proofs.lemmas.List.Folds.{list_any-append}
use Rattle.std.specs.List.{list_any}
use Rattle.s4_types.specs.declared.changes.Accepted.{Accepted}
use Rattle.s4_model.specs.State.{State, seen, took}
use Rattle.s4_model.specs.Visible.{IsVisible, is_hidden, hides, spans_of, span_of}
use Rattle.version_store.specs.Store.{StoreFields}
use Rattle.drive.specs.Keeping.{IsNeeded, HasVersions, DecodesWhereVisible}

-- the present is needed
pub present_needed : (s : State) (o : ℕ) → IsNeeded s o s.clock
present_needed s o = inr (omega arith)

-- each moment that can be read is needed
pub decodes_where_needed : (store : StoreFields) (s : State) → HasVersions store s → DecodesWhereVisible store s
decodes_where_needed store s has o t visible = has o t (inl visible)

-- What can be read once a moment was seen could be read before, or is the clock or later.
visible_before_moment : (s : State) (now o t : ℕ) → IsVisible (seen s now) o t → IsNeeded s o t
visible_before_moment s now o t visible =
    let low = visible.kept in
    elim (cases_lt t s.clock) [
      | inl lt ↦ inl (record { kept = omega arith; reached = omega arith; shown = visible.shown })
      | inr late ↦ inr late
    ]

-- So what is needed then was needed before.
pub needed_before_moment : (s : State) (now o t : ℕ) → IsNeeded (seen s now) o t → IsNeeded s o t
needed_before_moment s now o t (inl visible) = visible_before_moment s now o t visible
needed_before_moment s now o t (inr late) = inr (omega arith)

-- what a change doesn't hide wasn't hidden before it
hidden_before : (s : State) (a : Accepted) (o t : ℕ) → is_hidden (took s a) o t ≡ false → is_hidden s o t ≡ false
hidden_before s a o t shown =
    let more : spans_of (took s a) ≡ spans_of s ++ filter_map span_of (a ∷ []) =
    ap (λ spans. s.spans ++ spans) (filter_map-append span_of s.changes (a ∷ [])) ∙ sym (append_assoc s.spans (filter_map span_of s.changes) (filter_map span_of (a ∷ []))) in
    (or_parts (is_hidden s o t) (list_any (hides o t) (filter_map span_of (a ∷ [])))
    (sym (ap (list_any (hides o t)) more ∙ list_any-append (hides o t) (spans_of s) (filter_map span_of (a ∷ []))) ∙ shown)).0

-- What can be read after a change, however large a window it sets, could be read before it, or is the clock or later.
visible_before_change : (s : State) (a : Accepted) (o t : ℕ) → IsVisible (took s a) o t → IsNeeded s o t
visible_before_change s a o t visible =
    let low = visible.kept in
    elim (cases_lt t s.clock) [
      | inl lt ↦ inl (record { kept = omega arith; reached = omega arith; shown = hidden_before s a o t visible.shown })
      | inr late ↦ inr late
    ]

-- So what is needed after it was needed before it.
pub needed_before_change : (s : State) (a : Accepted) (o t : ℕ) → s.clock < a.moment → IsNeeded (took s a) o t → IsNeeded s o t
needed_before_change s a o t lt (inl visible) = visible_before_change s a o t visible
needed_before_change s a o t lt (inr late) = let at : a.moment ≤ t = late in inr (omega arith)
