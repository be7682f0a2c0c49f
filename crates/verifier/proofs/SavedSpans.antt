-- The spans of a window keep the rules of an image's.
use Rattle.std.proofs.Common.{◌≡◌, inl, inr, ℕ, cond, ◌+◌, ◌<◌, ◌≤◌, ◌^◌, List, [], ◌∷◌, length, refl, sym, ap, ◌∙◌, arith}
use Rattle.std.specs.Prelude.{count_by}
use Rattle.std.specs.List.{AllByRecursion}
use Rattle.std.proofs.lemmas.Bool.{eq-eqb}
use Rattle.std.proofs.lemmas.List.Sums.{sum_by-cons}
use Rattle.s4_types.specs.declared.limits.TheConstants.{RUNS_IN_A_LIST, RUNS_IN_ALL}
use Rattle.s4_types.specs.declared.spans.Span.{Span}
use Rattle.s4_model.specs.Sound.{IsOfGiven}
use Rattle.window.specs.Runs.{IsBeforeAll, Ascend, AllBeginFrom, AllEndBefore, AreFewInEachList, span_is_of}
use Rattle.window.proofs.Ordering.{before_parts}
use Rattle.image_parts.specs.Spans.{IsSpan, KeepsSpanRules, SpansFollow, SpansKeep, KeepSpanRules}
use Rattle.image_parts.specs.declared.headers.Header.{Header}

-- one more span of a list
count_here : (list : ℕ) (s : Span) (spans : List Span) → s.object ≡ list → count_by (span_is_of list) (s ∷ spans) ≡ 1 + count_by (span_is_of list) spans
count_here list s spans is = sum_by-cons (λ (x : Span). cond (span_is_of list x) 1 0) s spans ∙ ap (λ b. cond b 1 0 + count_by (span_is_of list) spans) (eq-eqb s.object list is)

count_more : (list : ℕ) (s : Span) (spans : List Span) → count_by (span_is_of list) spans ≤ count_by (span_is_of list) (s ∷ spans)
count_more list s spans = omega (arith, sum_by-cons (λ (x : Span). cond (span_is_of list x) 1 0) s spans)

few_behind : (s : Span) (spans : List Span) → AreFewInEachList (s ∷ spans) → AreFewInEachList spans
few_behind s spans few = λ list. omega (arith, few list, count_more list s spans)

follow : (h : Header) (before_it : Span) (nth : ℕ) (spans : List Span) → IsBeforeAll before_it spans → Ascend spans → AllByRecursion (KeepsSpanRules h) spans
    → nth + count_by (span_is_of before_it.object) spans ≤ RUNS_IN_A_LIST → AreFewInEachList spans → SpansFollow h before_it nth spans
follow h b nth [] behind ordered rules count few = tt
follow h b nth (s ∷ spans) behind ordered rules count few = (
  rules.0,
  elim (before_parts b s behind.0) [
    | inl begins ↦
        let own : 1 + count_by (span_is_of s.object) spans ≤ RUNS_IN_A_LIST = omega (arith, few s.object, count_here s.object s spans refl) in
        inl (begins, follow h s 1 spans ordered.1 ordered.2 rules.1 own (few_behind s spans few))
    | inr on ↦
        let more : count_by (span_is_of b.object) (s ∷ spans) ≡ 1 + count_by (span_is_of b.object) spans = count_here b.object s spans (sym on.0) in
        let room : nth < RUNS_IN_A_LIST = omega (arith, count, more) in
        let same : count_by (span_is_of b.object) spans ≡ count_by (span_is_of s.object) spans = ap (λ list. count_by (span_is_of list) spans) on.0 in
        let own : (nth + 1) + count_by (span_is_of s.object) spans ≤ RUNS_IN_A_LIST = omega (arith, count, more, same) in
        inr ((on.0, on.1, room), follow h s (nth + 1) spans ordered.1 ordered.2 rules.1 own (few_behind s spans few))
  ],
)

keep : (h : Header) (spans : List Span) → Ascend spans → AllByRecursion (KeepsSpanRules h) spans → AreFewInEachList spans → SpansKeep h spans
keep h [] ordered rules few = tt
keep h (s ∷ spans) ordered rules few =
    let own : 1 + count_by (span_is_of s.object) spans ≤ RUNS_IN_A_LIST = omega (arith, few s.object, count_here s.object s spans refl) in
    (rules.0, follow h s 1 spans ordered.1 ordered.2 rules.1 own (few_behind s spans few))

each : (h : Header) (spans : List Span) → Ascend spans → AllBeginFrom h.floor spans → AllEndBefore h.clock spans → AllByRecursion (IsOfGiven h.next) spans → AllByRecursion (KeepsSpanRules h) spans
each h [] ordered from past given = tt
each h (s ∷ spans) ordered from past given =
    (record { given = given.0; floor = from.0; order = ordered.0; clock = past.0 }, each h spans ordered.2 from.1 past.1 given.1)

-- the spans of a window keep an image's rules
pub spans_keep_rules : (h : Header) (spans : List Span) → Ascend spans → AllBeginFrom h.floor spans → AllEndBefore h.clock spans → AllByRecursion (IsOfGiven h.next) spans
    → length spans ≤ RUNS_IN_ALL → AreFewInEachList spans → KeepSpanRules h spans
spans_keep_rules h spans ordered from past given few few_each = record {
  each = keep h spans ordered (each h spans ordered from past given) few_each;
  few = few;
}

-- and each has an encoding, where clock and next number have 64 bits
pub are_spans : (clock next : ℕ) (spans : List Span) → clock < 2 ^ 64 → next < 2 ^ 64 → Ascend spans → AllEndBefore clock spans → AllByRecursion (IsOfGiven next) spans → AllByRecursion IsSpan spans
are_spans clock next [] small low ordered past given = tt
are_spans clock next (s ∷ spans) small low ordered past given =
    (record { object = omega (arith, given.0); first = omega (arith, ordered.0, past.0); last = omega (arith, past.0) }, are_spans clock next spans small low ordered.2 past.1 given.1)
