-- The moments of a chain, pushed one after another.
use Rattle.std.proofs.Common.{◌≡◌, ◌↔◌, ℕ, zero, suc, ◌+◌, ◌-◌, ◌<◌, ◌≤◌, List, [], ◌∷◌, ◌++◌, length, drop, get_or, map, refl, sym, ap, ◌∙◌, subst, arith, append_assoc}
use Rattle.std.specs.Prelude.{nat_eq}
use Rattle.std.specs.List.{dedup_from}
use Rattle.std.proofs.lemmas.Bool.{cond-true, cond-false, eq-eqb, ne_eqb}
use Rattle.std.proofs.lemmas.List.{drop_all}
use Rattle.lemmas.proofs.List.{drop_next}
use Rattle.codec.specs.Entry.{EntryFields}
use Rattle.image_objects.specs.Moments.{moments_of_chain, StandOnce}

-- the moments of entries after one of a moment that was not yet told
unfoldable pub told_from : ℕ → List EntryFields → List ℕ
told_from last entries = dedup_from nat_eq last (map (λ e. e.moment) entries)

told_none : (last : ℕ) → told_from last [] ≡ last ∷ []
unfolding told_from
told_none last = refl

told_same : (last : ℕ) (e : EntryFields) (entries : List EntryFields) → e.moment ≡ last → told_from last (e ∷ entries) ≡ told_from last entries
unfolding told_from
told_same last e entries is =
    let ms = map (λ (f : EntryFields). f.moment) entries in
    cond-true (nat_eq e.moment last) (dedup_from nat_eq last ms) (last ∷ dedup_from nat_eq e.moment ms) (eq-eqb e.moment last is)

told_other : (last : ℕ) (e : EntryFields) (entries : List EntryFields) → (e.moment ≡ last → ⊥) → told_from last (e ∷ entries) ≡ last ∷ told_from e.moment entries
unfolding told_from
told_other last e entries ne =
    let ms = map (λ (f : EntryFields). f.moment) entries in
    cond-false (nat_eq e.moment last) (dedup_from nat_eq last ms) (last ∷ dedup_from nat_eq e.moment ms) (ne_eqb e.moment last ne)

-- from the first entry's own moment on, all are told
pub told_whole : (entries : List EntryFields) (e : EntryFields) → 0 < length entries → e ≡ get_or entries 0 e → told_from e.moment entries ≡ moments_of_chain entries
unfolding told_from
told_whole [] e some is = absurd (omega (arith, some))
told_whole (x ∷ entries) e some is =
    subst (λ (f : EntryFields). told_from f.moment (x ∷ entries) ≡ moments_of_chain (x ∷ entries)) (sym is) (told_same x.moment x entries refl)

pub same_again : (all before : List ℕ) (entries : List EntryFields) (i last : ℕ) (e : EntryFields) → i < length entries → e ≡ get_or entries i e → e.moment ≡ last
    → before ++ told_from last (drop i entries) ≡ all → before ++ told_from last (drop (i + 1) entries) ≡ all
same_again all before entries i last e lt is same h =
    ap (λ (l : List ℕ). before ++ l) (sym (ap (told_from last) (drop_next entries i e lt is) ∙ told_same last e (drop (i + 1) entries) same)) ∙ h

pub one_told : (all before : List ℕ) (entries : List EntryFields) (i last : ℕ) (e : EntryFields) → i < length entries → e ≡ get_or entries i e → (e.moment ≡ last → ⊥)
    → before ++ told_from last (drop i entries) ≡ all → (before ++ last ∷ []) ++ told_from e.moment (drop (i + 1) entries) ≡ all
one_told all before entries i last e lt is other h =
    append_assoc before (last ∷ []) (told_from e.moment (drop (i + 1) entries))
    ∙ ap (λ (l : List ℕ). before ++ l) (sym (ap (told_from last) (drop_next entries i e lt is) ∙ told_other last e (drop (i + 1) entries) other)) ∙ h

pub last_told : (all before : List ℕ) (entries : List EntryFields) (i last : ℕ) → length entries ≤ i → before ++ told_from last (drop i entries) ≡ all → before ++ last ∷ [] ≡ all
last_told all before entries i last past h =
    ap (λ (l : List ℕ). before ++ l) (sym (ap (told_from last) (drop_all i entries past) ∙ told_none last)) ∙ h

-- ---- neighbours of a list that was sorted

at_any : (numbers : List ℕ) (i d e : ℕ) → i < length numbers → get_or numbers i d ≡ get_or numbers i e
at_any [] i d e lt = absurd (omega (arith, lt))
at_any (n ∷ numbers) zero d e lt = refl
at_any (n ∷ numbers) (suc i) d e lt = at_any numbers i d e (omega (arith, lt))

-- where two neighbours are equal, a number is twice
pub stands_twice : (numbers sorted : List ℕ) (i a b : ℕ) → StandOnce numbers ↔ ((k : ℕ) → k + 1 < length sorted → get_or sorted k 0 ≡ get_or sorted (k + 1) 0 → ⊥)
    → 1 ≤ i → i < length sorted → a ≡ get_or sorted (i - 1) a → b ≡ get_or sorted i b → a ≡ b → StandOnce numbers → ⊥
stands_twice numbers sorted i a b tells low lt first second same once =
    let back : (i - 1) + 1 ≡ i = omega (arith, low) in
    tells.0 once (i - 1) (omega (arith, low, lt))
    (sym (first ∙ at_any sorted (i - 1) a 0 (omega (arith, low, lt))) ∙ same ∙ second ∙ at_any sorted i b 0 lt ∙ ap (λ k. get_or sorted k 0) (sym back))
