-- One more block of data is copied.
use Rattle.std.proofs.Common.{◌≡◌, ℕ, ◌+◌, ◌==◌, Bool, true, false, cond, List, [], ◌∷◌, ◌++◌, Option, Some, None, IsSome, is_some, inl, inr, refl, sym, ap, subst, ◌∙◌}
use Rattle.std.specs.Prelude.{◌||◌}
use Rattle.std.specs.List.{AllByRecursion}
use Rattle.std.proofs.lemmas.Bool.{cases_Bool, or_left, or_right, or_from, or_parts, both_ways}
use Rattle.std.proofs.lemmas.List.{append_assoc, map-append}
use Rattle.std.proofs.lemmas.List.Folds.{list_any-append}
use Rattle.s4_types.specs.Pointer.{Place}
use Rattle.block_log.specs.Log.{Log, Stored, of_kind, same_place, seen_as}
use Rattle.block_log.specs.Growth.{Puts}
use Rattle.block_log.specs.Taken.{TakesPlaces}
use Rattle.block_log.specs.declared.kinds.BlockKind.TheVariants.{Data}
use Rattle.block_log.proofs.Places.{same_place_back}
use Rattle.checkpoint.specs.Held.{is_one_of}
use Rattle.migration.specs.declared.moves.Move.{Move}
use Rattle.migration.specs.Moves.{moves_to, new_places}
use Rattle.migration.specs.private.Copying.{Copying, IsCopied, AreApart}
use Rattle.migration.proofs.Moving.{OnePlace}

abbrev pub PlacesAddUp : Type 0
PlacesAddUp = (n m : ℕ) (first second third : Log) → TakesPlaces n first second → TakesPlaces m second third → TakesPlaces (n + m) first third

abbrev pub data_block : ℕ → List ℕ → Stored
data_block o bytes = record { kind = Data; object = o; bytes = bytes }

nothing_seen : (o : ℕ) (x : Option Stored) → x ≡ None → IsSome (seen_as Data o x) → ⊥
nothing_seen o None is some = absurd (cc)
nothing_seen o (Some block) is some = absurd (cc)

-- where nothing is held no copy is
none_at : OnePlace → (used : Place → Option Stored) (now : Log) (o : ℕ) (moves : List Move) (q : Place) → AllByRecursion (IsCopied used now.held o) moves → now.held q ≡ None → is_one_of (new_places moves) q ≡ false
none_at one used now o [] q all none = refl
none_at one used now o (m ∷ moves) q all none =
    let other : same_place m.to q ≡ false = elim (cases_Bool (same_place m.to q)) [
      | inl here ↦ absurd (nothing_seen o (now.held m.to) (ap now.held (one m.to q here) ∙ none) (subst (λ (x : Option (List ℕ)). IsSome x) (sym all.0.same) all.0.there))
      | inr not ↦ not
    ] in
    or_from (same_place m.to q) (is_one_of (new_places moves) q) other (none_at one used now o moves q all.1 none)

still : OnePlace → (used : Place → Option Stored) (now after : Log) (block : Stored) (q : Place) (o : ℕ) (m : Move) → Puts now block q after → IsCopied used now.held o m → IsCopied used after.held o m
still one used now after block q o m puts copied =
    let kept : after.held m.to ≡ now.held m.to = elim (cases_Bool (same_place q m.to)) [
      | inl here ↦ absurd (nothing_seen o (now.held m.to) (ap now.held (sym (one q m.to here)) ∙ puts.fresh) (subst (λ (x : Option (List ℕ)). IsSome x) (sym copied.same) copied.there))
      | inr not ↦ puts.kept m.to not
    ] in
    record { there = copied.there; same = ap (seen_as Data o) kept ∙ copied.same }

all_still : OnePlace → (used : Place → Option Stored) (now after : Log) (block : Stored) (q : Place) (o : ℕ) (moves : List Move) (m : Move) → Puts now block q after → AllByRecursion (IsCopied used now.held o) moves → IsCopied used after.held o m → AllByRecursion (IsCopied used after.held o) (moves ++ m ∷ [])
all_still one used now after block q o [] m puts all last = (last, tt)
all_still one used now after block q o (n ∷ moves) m puts all last = (still one used now after block q o n puts all.0, all_still one used now after block q o moves m puts all.1 last)

apart_push : (places : List Place) (q : Place) → AreApart places → is_one_of places q ≡ false → AreApart (places ++ q ∷ [])
apart_push [] q apart none = (refl, tt)
apart_push (p ∷ places) q apart none =
    let parts = or_parts (same_place p q) (is_one_of places q) none in
    let back : same_place q p ≡ false = elim (cases_Bool (same_place q p)) [
      | inl same ↦ absurd (both_ways (same_place p q) parts.0 (same_place_back q p same))
      | inr other ↦ other
    ] in
    (list_any-append (λ r. same_place r p) places (q ∷ []) ∙ or_from (is_one_of places p) (same_place q p || false) apart.0 (or_from (same_place q p) false back refl), apart_push places q apart.1 parts.1)

one_of_push : (places : List Place) (q r : Place) → is_one_of (places ++ q ∷ []) r ≡ (is_one_of places r || (same_place q r || false))
one_of_push places q r = list_any-append (λ p. same_place p r) places (q ∷ [])

same_held : (o : ℕ) (x y : Option Stored) → x ≡ y → IsSome (seen_as Data o x) → IsSome (seen_as Data o y)
same_held o x y same some = subst (λ (z : Option Stored). IsSome (seen_as Data o z)) same some

pub one_copied : OnePlace → PlacesAddUp → (used : Place → Option Stored) (o : ℕ) (places rest : List Place) (count : ℕ) (before now after : Log) (p q : Place) (moves : List Move) (bytes : List ℕ)
    → Puts now (data_block o bytes) q after → TakesPlaces 1 now after → (o == o) ≡ true → of_kind Data o used p ≡ Some bytes
    → Copying used o places (p ∷ rest) count before now moves → Copying used o places rest (count + 1) before after (moves ++ (record { from = p; to = q }) ∷ [])
one_copied one add_up used o places rest count before now after p q moves bytes puts takes itself there copying =
    let m : Move = record { from = p; to = q } in
    let named : new_places (moves ++ m ∷ []) ≡ new_places moves ++ q ∷ [] = map-append (λ (n : Move). n.to) moves (m ∷ []) in
    let seen : of_kind Data o after.held q ≡ Some bytes = ap (seen_as Data o) puts.here ∙ ap (λ (b : Bool). cond b (Some bytes) None) itself in
    let last : IsCopied used after.held o m = record { there = ap is_some there; same = seen ∙ sym there } in
    record {
      exact = append_assoc moves (m ∷ []) (moves_to rest after.ahead) ∙ ap (λ (a : List Place). moves ++ moves_to (p ∷ rest) a) (sym puts.ahead) ∙ copying.exact;
      ahead = copying.ahead ∙ ap (λ (a : List Place). new_places moves ++ a) puts.ahead ∙ sym (append_assoc (new_places moves) (q ∷ []) after.ahead) ∙ ap (λ (x : List Place). x ++ after.ahead) (sym named);
      copied = all_still one used now after (data_block o bytes) q o moves m puts copying.copied last;
      apart = subst (λ (x : List Place). AreApart x) (sym named) (apart_push (new_places moves) q copying.apart (none_at one used now o moves q copying.copied puts.fresh));
      only = λ r some. elim (cases_Bool (same_place q r)) [
        | inl here ↦ ap (λ (x : List Place). is_one_of x r) named ∙ one_of_push (new_places moves) q r ∙ or_right (is_one_of (new_places moves) r) (same_place q r || false) (or_left (same_place q r) false here)
        | inr not ↦ ap (λ (x : List Place). is_one_of x r) named ∙ one_of_push (new_places moves) q r
            ∙ or_left (is_one_of (new_places moves) r) (same_place q r || false) (copying.only r (same_held o (after.held r) (now.held r) (puts.kept r not) some))
      ];
      others = λ kind other r not. puts.others kind other r not ∙ copying.others kind other r not;
      takes = add_up count 1 before now after copying.takes takes;
    }
