-- No moment is in two chains, exactly where the moments of all chains, each of them once, have none twice.
use Rattle.std.proofs.Common.{◌≡◌, inl, inr, ℕ, ◌<◌, ◌≤◌, true, false, leb, List, [], ◌∷◌, ◌++◌, get_or, map, Option, sym, ap, ◌∙◌, subst, arith}
use Rattle.std.specs.Prelude.{nat_eq}
use Rattle.std.specs.List.{AllByRecursion, Contains, IsDistinct, dedup_from}
use Rattle.std.proofs.lemmas.Bool.{cases_Bool, cases_lt, cond-true, cond-false, and_parts, leb-true, eq-eqb, eqb-true, ne_eqb, false≢true}
use Rattle.std.proofs.lemmas.List.Elements.{All-contains, All-from_recursion, recursion_from_All, Contains-get_or, Contains-append_left, Contains-append_right, Contains-append_cases}
use Rattle.std.proofs.lemmas.List.Kept.{Contains-dedup_nat, Contains-from_dedup}
use Rattle.std.proofs.lemmas.Map.Keys.{IsDistinct-head, IsDistinct-tail, IsDistinct-cons}
use Rattle.s4_types.specs.Pointer.{Place}
use Rattle.lemmas.proofs.Contains.{contains_first, contains_later, contains_none, contains_cases}
use Rattle.block_log.specs.Log.{Stored}
use Rattle.codec.specs.Entry.{EntryFields}
use Rattle.codec.specs.declared.versions.ImageVersion.{ImageVersion}
use Rattle.undo_redo.specs.Groups.{grouped}
use Rattle.undo_redo.specs.Runs.{moments_ascend_from}
use Rattle.version_store.specs.Across.{ShareNoMoment}
use Rattle.image_objects.specs.declared.rows.ImageRow.{ImageRow}
use Rattle.image_objects.specs.Chains.{entries_used}
use Rattle.image_objects.specs.Objects.{ObjectStands}
use Rattle.image_objects.specs.Rows.{RowsStand}
use Rattle.image_objects.specs.Moments.{moments_of_chain, moments_of, moments_used, ChainsShareNoMoment, StandOnce}
use Rattle.image_objects.specs.Versions.{entries_used_by, moments_used_by, ObjectStandsBy, RowsStandBy}
use Rattle.image_objects.proofs.Grouping.{groups_of_a_version}

-- ---- elements of lists that are made of others

-- the moments of entries are those of the entries, and no others
moments : List EntryFields → List ℕ
moments entries = map (λ e. e.moment) entries

mapped_there : (entries : List EntryFields) (e : EntryFields) → Contains entries e → Contains (moments entries) e.moment
unfolding moments
mapped_there [] e there = absurd (contains_none e there)
mapped_there (x ∷ entries) e there = elim (contains_cases x entries e there) [
  | inl is ↦ subst (λ (f : EntryFields). Contains (x.moment ∷ moments entries) f.moment) is (contains_first x.moment (moments entries))
  | inr behind ↦ contains_later x.moment (moments entries) e.moment (mapped_there entries e behind)
]

-- an entry of a moment
record OfMoment (entries : List EntryFields) (m : ℕ) : Type 0 where
  entry : EntryFields
  listed : Contains entries entry
  moment : entry.moment ≡ m

mapped_from : (entries : List EntryFields) (m : ℕ) → Contains (moments entries) m → OfMoment entries m
unfolding moments
mapped_from [] m there = absurd (contains_none m there)
mapped_from (x ∷ entries) m there = elim (contains_cases x.moment (moments entries) m there) [
  | inl is ↦ record { entry = x; listed = contains_first x entries; moment = is }
  | inr behind ↦ (let found : OfMoment entries m = mapped_from entries m behind in record { entry = found.entry; listed = contains_later x entries found.entry found.listed; moment = found.moment })
]

told : (entries : List EntryFields) (e : EntryFields) → Contains entries e → Contains (moments_of_chain entries) e.moment
unfolding moments
told entries e there = Contains-dedup_nat (moments entries) e.moment (mapped_there entries e there)

of_moment : (entries : List EntryFields) (m : ℕ) → Contains (moments_of_chain entries) m → OfMoment entries m
unfolding moments
of_moment entries m there = mapped_from entries m (Contains-from_dedup nat_eq (moments entries) m there)

-- a moment of one of the rows is told
moment_told : (chain : ImageRow → List EntryFields) (rows : List ImageRow) (row : ImageRow) (m : ℕ) → Contains rows row → Contains (moments_of_chain (chain row)) m → Contains (moments_of chain rows) m
moment_told chain [] row m there at = absurd (contains_none row there)
moment_told chain (x ∷ rows) row m there at = elim (contains_cases x rows row there) [
  | inl is ↦
      Contains-append_left (moments_of_chain (chain x)) (moments_of chain rows) m (subst (λ (r : ImageRow). Contains (moments_of_chain (chain r)) m) (sym is) at)
  | inr behind ↦ Contains-append_right (moments_of_chain (chain x)) (moments_of chain rows) m (moment_told chain rows row m behind at)
]

record OfARow (chain : ImageRow → List EntryFields) (rows : List ImageRow) (m : ℕ) : Type 0 where
  row : ImageRow
  listed : Contains rows row
  found : OfMoment (chain row) m

of_a_row : (chain : ImageRow → List EntryFields) (rows : List ImageRow) (m : ℕ) → Contains (moments_of chain rows) m → OfARow chain rows m
of_a_row chain [] m there = absurd (contains_none m there)
of_a_row chain (x ∷ rows) m there = elim (Contains-append_cases (moments_of_chain (chain x)) (moments_of chain rows) m there) [
  | inl here ↦ record { row = x; listed = contains_first x rows; found = of_moment (chain x) m here }
  | inr behind ↦ (let r : OfARow chain rows m = of_a_row chain rows m behind in record { row = r.row; listed = contains_later x rows r.row r.listed; found = r.found })
]

-- ---- numbers that are once in joined lists

none_twice : StandOnce []
unfolding IsDistinct
none_twice = tt

once_behind : (xs ys : List ℕ) → StandOnce (xs ++ ys) → StandOnce ys
once_behind [] ys once = once
once_behind (x ∷ xs) ys once = once_behind xs ys (IsDistinct-tail nat_eq x (xs ++ ys) once)

once_apart : (xs ys : List ℕ) (m : ℕ) → StandOnce (xs ++ ys) → Contains xs m → Contains ys m → ⊥
once_apart [] ys m once first second = contains_none m first
once_apart (x ∷ xs) ys m once first second = elim (contains_cases x xs m first) [
  | inl is ↦
      let P : ℕ → Type 0 = λ y. nat_eq x y ≡ false in
      let apart : nat_eq x m ≡ false = All-contains P (xs ++ ys) m (All-from_recursion P (xs ++ ys) (IsDistinct-head nat_eq x (xs ++ ys) once)) (Contains-append_right xs ys m second) in
      false≢true (sym apart ∙ eq-eqb x m is)
  | inr behind ↦ once_apart xs ys m (IsDistinct-tail nat_eq x (xs ++ ys) once) behind second
]

apart_joined : (x : ℕ) (xs ys : List ℕ) → AllByRecursion (λ y. nat_eq x y ≡ false) xs → (Contains ys x → ⊥) → AllByRecursion (λ y. nat_eq x y ≡ false) (xs ++ ys)
apart_joined x [] [] front none = tt
apart_joined x [] (y ∷ ys) front none = (ne_eqb x y (λ (is : x ≡ y). none (subst (λ m. Contains (y ∷ ys) m) (sym is) (contains_first y ys))), apart_joined x [] ys front (λ there. none (contains_later y ys x there)))
apart_joined x (z ∷ xs) ys front none = (front.0, apart_joined x xs ys front.1 none)

once_joined : (xs ys : List ℕ) → StandOnce xs → StandOnce ys → ((m : ℕ) → Contains xs m → Contains ys m → ⊥) → StandOnce (xs ++ ys)
once_joined [] ys first second apart = second
once_joined (x ∷ xs) ys first second apart =
    IsDistinct-cons nat_eq x (xs ++ ys)
    (apart_joined x xs ys (IsDistinct-head nat_eq x xs first) (λ there. apart x (contains_first x xs) there))
    (once_joined xs ys (IsDistinct-tail nat_eq x xs first) second (λ m one other. apart m (contains_later x xs m one) other))

-- ---- the moments of one chain

ascend_parts : (low : ℕ) (e : EntryFields) (entries : List EntryFields) → moments_ascend_from low (e ∷ entries) ≡ true → (low ≤ e.moment) × (moments_ascend_from e.moment entries ≡ true)
ascend_parts low e entries h = let parts = and_parts (leb low e.moment) (moments_ascend_from e.moment entries) h in (leb-true low e.moment parts.0, parts.1)

same_from : (a m : ℕ) (entries : List EntryFields) → m ≡ a → moments_ascend_from m entries ≡ true → moments_ascend_from a entries ≡ true
same_from a m entries is h = ap (λ n. moments_ascend_from n entries) (sym is) ∙ h

-- a number below the first of them is none of them
below_all : (k a : ℕ) (entries : List EntryFields) → k < a → moments_ascend_from a entries ≡ true → AllByRecursion (λ y. nat_eq k y ≡ false) (dedup_from nat_eq a (map (λ (e : EntryFields). e.moment) entries))
below_all k a [] less h = (ne_eqb k a (λ (is : k ≡ a). omega (arith, less, is)), tt)
below_all k a (e ∷ entries) less h =
    let (low, rest) = ascend_parts a e entries h in
    let ms = map (λ (f : EntryFields). f.moment) entries in
    let P : List ℕ → Type 0 = λ l. AllByRecursion (λ y. nat_eq k y ≡ false) l in
    elim (cases_Bool (nat_eq e.moment a)) [
      | inl is ↦ subst P (sym (cond-true (nat_eq e.moment a) (dedup_from nat_eq a ms) (a ∷ dedup_from nat_eq e.moment ms) is)) (below_all k a entries less (same_from a e.moment entries (eqb-true e.moment a is) rest))
      | inr ne ↦ subst P (sym (cond-false (nat_eq e.moment a) (dedup_from nat_eq a ms) (a ∷ dedup_from nat_eq e.moment ms) ne))
          (ne_eqb k a (λ (is : k ≡ a). omega (arith, less, is)), below_all k e.moment entries (omega (arith, less, low)) rest)
    ]

once_from : (a : ℕ) (entries : List EntryFields) → moments_ascend_from a entries ≡ true → StandOnce (dedup_from nat_eq a (map (λ (e : EntryFields). e.moment) entries))
once_from a [] h = IsDistinct-cons nat_eq a [] tt none_twice
once_from a (e ∷ entries) h =
    let (low, rest) = ascend_parts a e entries h in
    let ms = map (λ (f : EntryFields). f.moment) entries in
    elim (cases_Bool (nat_eq e.moment a)) [
      | inl is ↦ subst StandOnce (sym (cond-true (nat_eq e.moment a) (dedup_from nat_eq a ms) (a ∷ dedup_from nat_eq e.moment ms) is)) (once_from a entries (same_from a e.moment entries (eqb-true e.moment a is) rest))
      | inr ne ↦
          let more : a < e.moment = elim (cases_lt a e.moment) [ inl less ↦ less | inr le ↦ absurd (false≢true (sym ne ∙ eq-eqb e.moment a (omega (arith, low, le)))) ] in
          subst StandOnce (sym (cond-false (nat_eq e.moment a) (dedup_from nat_eq a ms) (a ∷ dedup_from nat_eq e.moment ms) ne))
          (IsDistinct-cons nat_eq a (dedup_from nat_eq e.moment ms) (below_all a e.moment entries more rest) (once_from e.moment entries rest))
    ]

-- grouped entries have ascending moments: a law of groups
abbrev pub GroupsAscend : Type 0
GroupsAscend = (entries : List EntryFields) → grouped entries ≡ true → moments_ascend_from 0 entries ≡ true

once_in_chain : GroupsAscend → (entries : List EntryFields) → grouped entries ≡ true → StandOnce (moments_of_chain entries)
once_in_chain ascend [] h = none_twice
once_in_chain ascend (e ∷ entries) h = once_from e.moment entries (ascend_parts 0 e entries (ascend (e ∷ entries) h)).1

-- ---- the moments of all chains

pub share_none : (chain : ImageRow → List EntryFields) (rows : List ImageRow) → StandOnce (moments_of chain rows) → ChainsShareNoMoment chain rows
share_none chain [] once = tt
share_none chain (x ∷ rows) once =
    let P : ImageRow → Type 0 = λ other. ShareNoMoment (chain x) (chain other) in
    let here : (other : ImageRow) → Contains rows other → P other = λ other there e f first second same.
    once_apart (moments_of_chain (chain x)) (moments_of chain rows) e.moment once (told (chain x) e first)
    (moment_told chain rows other e.moment there (subst (λ m. Contains (moments_of_chain (chain other)) m) (sym same) (told (chain other) f second))) in (
      recursion_from_All P rows (λ k d below. here (get_or rows k d) (Contains-get_or rows k d below)),
      share_none chain rows (once_behind (moments_of_chain (chain x)) (moments_of chain rows) once),
    )

pub stand_once : GroupsAscend → (chain : ImageRow → List EntryFields) (rows : List ImageRow) → AllByRecursion (λ row. grouped (chain row) ≡ true) rows → ChainsShareNoMoment chain rows → StandOnce (moments_of chain rows)
stand_once ascend chain [] groups share = none_twice
stand_once ascend chain (x ∷ rows) groups share =
    let P : ImageRow → Type 0 = λ other. ShareNoMoment (chain x) (chain other) in
    once_joined (moments_of_chain (chain x)) (moments_of chain rows) (once_in_chain ascend (chain x) groups.0) (stand_once ascend chain rows groups.1 share.1)
    (λ m first second.
    let e : OfMoment (chain x) m = of_moment (chain x) m first in
    let r : OfARow chain rows m = of_a_row chain rows m second in
    let apart : P r.row = All-contains P rows r.row (All-from_recursion P rows share.0) r.listed in
    apart e.entry r.found.entry e.listed r.found.listed (e.moment ∙ sym r.found.moment))

-- ---- the moments of rows that keep the rules

groups_of : (used : Place → Option Stored) (rows : List ImageRow) (clock : ℕ) → AllByRecursion (λ row. ObjectStands used row clock) rows → AllByRecursion (λ row. grouped (entries_used used row) ≡ true) rows
groups_of used [] clock stand = tt
groups_of used (x ∷ rows) clock stand = (stand.0.versions.chain.groups, groups_of used rows clock stand.1)

pub standing_once : GroupsAscend → (used : Place → Option Stored) (rows : List ImageRow) (clock : ℕ) → RowsStand used rows clock → StandOnce (moments_used used rows)
standing_once ascend used rows clock stand = stand_once ascend (entries_used used) rows (groups_of used rows clock stand.objects) stand.apart

groups_of_by : (version : ImageVersion) (used : Place → Option Stored) (rows : List ImageRow) (clock : ℕ) → AllByRecursion (λ row. ObjectStandsBy version used row clock) rows → AllByRecursion (λ row. grouped (entries_used_by version used row) ≡ true) rows
groups_of_by version used [] clock stand = tt
groups_of_by version used (x ∷ rows) clock stand = (groups_of_a_version version (entries_used_by version used x) stand.0.versions.chain.groups, groups_of_by version used rows clock stand.1)

pub standing_once_by : GroupsAscend → (version : ImageVersion) (used : Place → Option Stored) (rows : List ImageRow) (clock : ℕ) → RowsStandBy version used rows clock → StandOnce (moments_used_by version used rows)
standing_once_by ascend version used rows clock stand = stand_once ascend (entries_used_by version used) rows (groups_of_by version used rows clock stand.objects) stand.apart
