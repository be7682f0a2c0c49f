-- What runs cover, with one more span and without what lies below the floor.
use Rattle.std.proofs.Common.{◌≡◌, ℕ, Bool, true, false, ◌==◌, ◌&&◌, ◌||◌, ◌+◌, ◌<◌, ◌≤◌, nat_le, min, max, List, [], ◌∷◌, ◌++◌, filter, refl, sym, ap, ◌∙◌, arith}
use Rattle.std.specs.List.{list_any}
use Rattle.std.proofs.lemmas.Bool.{and_right, lt-leb, leb-false, cond_both}
use Rattle.std.proofs.lemmas.Bool.Decides.{nat_tests}
use Rattle.s4_types.specs.declared.spans.Span.{Span}
use Rattle.lemmas.proofs.Bool.{or_assoc}
use Rattle.s4_model.specs.Visible.{is_within}
use Rattle.window.specs.Runs.{is_before, Ascend, joined_span, with_span, covers, is_live}
use Rattle.window.proofs.Ordering.{Touch, touch_from}

swap : (a b c : Bool) → (a || (b || c)) ≡ (b || (a || c))
swap true true c = refl
swap true false c = refl
swap false true c = refl
swap false false c = refl

and_or : (a b c : Bool) → (a && (b || c)) ≡ ((a && b) || (a && c))
and_or true b c = refl
and_or false b c = refl

within_joined : (f l g m t : ℕ) → f ≤ l → g ≤ m → f ≤ m + 1 → g ≤ l + 1 → (nat_le (min f g) t && nat_le t (max l m)) ≡ ((nat_le f t && nat_le t l) || (nat_le g t && nat_le t m))
within_joined f l g m t a b c d = grind (arith, nat_tests)

covers_joined : (list t : ℕ) (x y : Span) → x.first ≤ x.last → y.first ≤ y.last → Touch x y → covers list t (joined_span x y) ≡ (covers list t x || covers list t y)
covers_joined list t x y a b touch =
    ap (λ w. x.object == list && w) (within_joined x.first x.last y.first y.last t a b touch.first touch.last)
    ∙ and_or (x.object == list) (is_within x t) (is_within y t)
    ∙ ap (λ o. covers list t x || (o == list && is_within y t)) touch.object

-- a span put in covers what it has in it, and the runs what they did
pub covers_with_span : (list t : ℕ) (span : Span) (runs : List Span) → span.first ≤ span.last → Ascend runs → list_any (covers list t) (with_span span runs) ≡ (covers list t span || list_any (covers list t) runs)
covers_with_span list t span [] o h = refl
covers_with_span list t span (run ∷ runs) o h =
    let P : List Span → Type 0 = λ all. list_any (covers list t) all ≡ (covers list t span || (covers list t run || list_any (covers list t) runs)) in
    cond_both (is_before run span) _ _ P
    (λ _. ap (λ b. covers list t run || b) (covers_with_span list t span runs o h.2) ∙ swap (covers list t run) (covers list t span) (list_any (covers list t) runs))
    (λ later. cond_both (is_before span run) _ _ P
    (λ _. refl)
    (λ earlier. covers_with_span list t (joined_span span run) runs (omega (arith, h.0)) h.2
    ∙ ap (λ b. b || list_any (covers list t) runs) (covers_joined list t span run o h.0 (touch_from span run earlier later))
    ∙ or_assoc (covers list t span) (covers list t run) (list_any (covers list t) runs)))

dead_covers : (floor list t : ℕ) (run : Span) → floor ≤ t → is_live floor run ≡ false → covers list t run ≡ false
dead_covers floor list t run le dead =
    let below : run.last < floor = leb-false _ _ dead in
    and_right (run.object == list) (is_within run t) (and_right (nat_le run.first t) (nat_le t run.last) (lt-leb t run.last (omega arith)))

-- runs below the floor cover nothing from the floor on
pub covers_live : (floor list t : ℕ) (runs : List Span) → floor ≤ t → list_any (covers list t) (filter (is_live floor) runs) ≡ list_any (covers list t) runs
covers_live floor list t [] le = refl
covers_live floor list t (run ∷ runs) le =
    let P : List Span → Type 0 = λ all. list_any (covers list t) all ≡ (covers list t run || list_any (covers list t) runs) in
    cond_both (is_live floor run) _ _ P
    (λ _. ap (λ b. covers list t run || b) (covers_live floor list t runs le))
    (λ dead. covers_live floor list t runs le ∙ ap (λ b. b || list_any (covers list t) runs) (sym (dead_covers floor list t run le dead)))

-- one more span at the end
pub covers_push : (list t : ℕ) (spans : List Span) (span : Span) → list_any (covers list t) (spans ++ span ∷ []) ≡ (covers list t span || list_any (covers list t) spans)
covers_push list t [] span = refl
covers_push list t (first ∷ spans) span =
    ap (λ b. covers list t first || b) (covers_push list t spans span) ∙ swap (covers list t first) (covers list t span) (list_any (covers list t) spans)
