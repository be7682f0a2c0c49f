-- Data blocks appended one by one.
use Rattle.std.proofs.Common.{◌≡◌, ℕ, zero, suc, ◌+◌, ◌-◌, ◌<◌, ◌==◌, false, ◌&&◌, List, [], ◌∷◌, ◌++◌, length, take, drop, slice_get, Option, Some, None, IsSome, inl, inr, refl, ap, sym, ◌∙◌, subst, arith}
use Rattle.std.proofs.lemmas.Bool.{cases_lt, cases_Bool, cond-true, cond-false, false≢true}
use Rattle.std.specs.List.{Contains}
use Rattle.std.proofs.lemmas.List.{length-append, length-drop, drop-drop}
use Rattle.std.proofs.lemmas.List.Elements.{Contains-append_left, Contains-append_right}
use Rattle.std.proofs.Math.Seq.{take-add}
use Rattle.std.proofs.lemmas.Option.{slice_get_within, same_Some, none-some}
use Rattle.s4_types.specs.Pointer.{Place}
use Rattle.lemmas.proofs.Option.{none_before}
use Rattle.block_log.specs.Log.{Log, Stored, with_held, with_more, seen_as, same_kind, same_place}
use Rattle.block_log.specs.Taken.{TakesPlaces}
use Rattle.block_log.specs.declared.kinds.BlockKind.{BlockKind}
use Rattle.block_log.specs.declared.kinds.BlockKind.TheVariants.{Data}
use Rattle.block_log.proofs.Places.{same_place_itself, one_place}
use Rattle.inode.specs.Growth.{data_block, log_grown, grown_at, with_data, GrowsBy}

pub with_data-push : (object : ℕ) (blocks : List (List ℕ)) (bytes : List ℕ) (log : Log) → with_data object (blocks ++ bytes ∷ []) log ≡ log_grown (with_data object blocks log) (data_block object bytes)
with_data-push object [] bytes log = refl
with_data-push object (first ∷ blocks) bytes log = with_data-push object blocks bytes (log_grown log (data_block object first))

held_here : (held : Place → Option Stored) (p : Place) (block : Stored) → with_held held p block p ≡ Some block
held_here held p block = cond-true (same_place p p) (Some block) (held p) (same_place_itself p)

none_is_some : (o : Option Stored) → o ≡ None → IsSome o → ⊥
none_is_some None e h = false≢true h
none_is_some (Some block) e h = none-some block (sym e)

-- a place that is held isn't the one that a block is put at, where that one wasn't held
held_beside : (held : Place → Option Stored) (p q : Place) (block : Stored) → held p ≡ None → IsSome (held q) → with_held held p block q ≡ held q
held_beside held p q block free taken =
    elim (cases_Bool (same_place p q)) [
      | inl e ↦ absurd (none_is_some (held q) (ap held (sym (one_place p q e)) ∙ free) taken)
      | inr e ↦ cond-false (same_place p q) (Some block) (held q) e
    ]

some_is : (o : Option Stored) (block : Stored) → o ≡ Some block → IsSome o
some_is o block e = subst IsSome (sym e) refl

not_seen : (kind : BlockKind) (o object : ℕ) (bytes : List ℕ) → (same_kind kind Data && object == o) ≡ false → seen_as kind o (Some (data_block object bytes)) ≡ None
not_seen kind o object bytes other = cond-false (same_kind kind Data && object == o) (Some bytes) None other

-- what isn't this object's data is as it was
kind_beside : (held : Place → Option Stored) (p q : Place) (object : ℕ) (bytes : List ℕ) (kind : BlockKind) (o : ℕ) → held p ≡ None → (same_kind kind Data && object == o) ≡ false
    → seen_as kind o (with_held held p (data_block object bytes) q) ≡ seen_as kind o (held q)
kind_beside held p q object bytes kind o free other =
    elim (cases_Bool (same_place p q)) [
      | inl e ↦
          ap (seen_as kind o) (cond-true (same_place p q) (Some (data_block object bytes)) (held q) e)
          ∙ not_seen kind o object bytes other
          ∙ sym (ap (seen_as kind o) (ap held (sym (one_place p q e)) ∙ free))
      | inr e ↦ ap (seen_as kind o) (cond-false (same_place p q) (Some (data_block object bytes)) (held q) e)
    ]

slice_get-append_left : {X : Type 0} (xs ys : List X) (n : ℕ) → n < length xs → slice_get (xs ++ ys) n ≡ slice_get xs n
slice_get-append_left [] ys n lt = absurd (omega arith)
slice_get-append_left (x ∷ xs) ys zero lt = refl
slice_get-append_left (x ∷ xs) ys (suc n) lt = slice_get-append_left xs ys n (omega arith)

slice_get-at_end : {X : Type 0} (xs : List X) (y : X) → slice_get (xs ++ y ∷ []) (length xs) ≡ Some y
slice_get-at_end [] y = refl
slice_get-at_end (x ∷ xs) y = slice_get-at_end xs y

pub slice_get-drop : {X : Type 0} (xs : List X) (n k m : ℕ) → n + k ≡ m → slice_get (drop n xs) k ≡ slice_get xs m
slice_get-drop xs zero k m e = ap (slice_get xs) (omega arith)
slice_get-drop [] (suc n) k m e = refl
slice_get-drop (x ∷ xs) (suc n) k zero e = absurd (omega arith)
slice_get-drop (x ∷ xs) (suc n) k (suc m) e = slice_get-drop xs n k m (omega arith)

pub grows-none : (object : ℕ) (log : Log) → GrowsBy object [] log log
grows-none object log = record {
  room = omega arith;
  takes = record { ahead = refl; spent = omega arith; among = λ p none some. absurd (none_is_some (log.held p) none some) };
  fresh = λ n p lt e. absurd (omega arith);
  taken = λ n p bytes e none. absurd (none-some bytes none);
  kept = λ p held. refl;
  first_names = λ p none some. absurd (none_is_some (log.held p) none some);
  names_kept = λ p same. refl;
  others = λ kind o p other. refl;
}

-- the first place ahead, and those after it
ahead_is : (ahead : List Place) (q : Place) → slice_get ahead 0 ≡ Some q → ahead ≡ q ∷ drop 1 ahead
ahead_is [] q e = absurd (none-some q e)
ahead_is (p ∷ ahead) q e = ap (λ first. first ∷ ahead) (same_Some p q e)

-- the log after a block at the first place ahead
abbrev put_at : Log → Stored → Place → Log
put_at log block q = record { held = with_held log.held q block; ahead = drop 1 log.ahead; spent = 1 + log.spent; named = with_more log.named q }

grown_is : (log : Log) (block : Stored) (q : Place) → slice_get log.ahead 0 ≡ Some q → log_grown log block ≡ put_at log block q
grown_is log block q e = ap (grown_at log block) (ahead_is log.ahead q e)

taken_more : (object : ℕ) (blocks : List (List ℕ)) (bytes : List ℕ) (before mid : Log) (q : Place) → GrowsBy object blocks before mid → slice_get mid.ahead 0 ≡ Some q → mid.held q ≡ None
    → (n : ℕ) (p : Place) (found : List ℕ) → slice_get before.ahead n ≡ Some p → slice_get (blocks ++ bytes ∷ []) n ≡ Some found → with_held mid.held q (data_block object bytes) p ≡ Some (data_block object found)
taken_more object blocks bytes before mid q grows first free n p found at_n is_found =
    let longer : length (blocks ++ bytes ∷ []) ≡ length blocks + 1 = length-append blocks (bytes ∷ []) in
    let within : n < length (blocks ++ bytes ∷ []) = slice_get_within (blocks ++ bytes ∷ []) n found is_found in
    elim (cases_lt n (length blocks)) [
      | inl below ↦
          let old : mid.held p ≡ Some (data_block object found) = grows.taken n p found at_n (sym (slice_get-append_left blocks (bytes ∷ []) n below) ∙ is_found) in
          held_beside mid.held q p (data_block object bytes) free (some_is (mid.held p) (data_block object found) old) ∙ old
      | inr past ↦
          let last : n ≡ length blocks = omega arith in
          let here : q ≡ p = same_Some q p (sym first ∙ ap (λ a. slice_get a 0) grows.takes.ahead ∙ slice_get-drop before.ahead (length blocks) 0 n (omega arith) ∙ at_n) in
          let same : bytes ≡ found = same_Some bytes found (sym (slice_get-at_end blocks bytes) ∙ ap (slice_get (blocks ++ bytes ∷ [])) (sym last) ∙ is_found) in
          ap (with_held mid.held q (data_block object bytes)) (sym here) ∙ held_here mid.held q (data_block object bytes) ∙ ap (λ b. Some (data_block object b)) same
    ]

fresh_more : (object : ℕ) (blocks : List (List ℕ)) (bytes : List ℕ) (before mid : Log) (q : Place) → GrowsBy object blocks before mid → slice_get mid.ahead 0 ≡ Some q → mid.held q ≡ None
    → (n : ℕ) (p : Place) → n < length (blocks ++ bytes ∷ []) → slice_get before.ahead n ≡ Some p → before.held p ≡ None
fresh_more object blocks bytes before mid q grows first free n p lt at_n =
    let longer : length (blocks ++ bytes ∷ []) ≡ length blocks + 1 = length-append blocks (bytes ∷ []) in
    elim (cases_lt n (length blocks)) [
      | inl below ↦ grows.fresh n p below at_n
      | inr past ↦
          let here : q ≡ p = same_Some q p (sym first ∙ ap (λ a. slice_get a 0) grows.takes.ahead ∙ slice_get-drop before.ahead (length blocks) 0 n (omega arith) ∙ at_n) in
          none_before (before.held p) (mid.held p) (grows.kept p) (ap mid.held (sym here) ∙ free)
    ]

drop_one_more : (before mid : List Place) (n m : ℕ) → mid ≡ drop n before → n + 1 ≡ m → drop 1 mid ≡ drop m before
drop_one_more before mid n m e more = ap (drop 1) e ∙ drop-drop 1 n before ∙ ap (λ k. drop k before) (omega arith)

take_one_more : (before mid : List Place) (n m : ℕ) (q : Place) → mid ≡ drop n before → n + 1 ≡ m → slice_get mid 0 ≡ Some q → take m before ≡ take n before ++ q ∷ []
take_one_more before mid n m q e more first =
    ap (λ k. take k before) (sym more) ∙ take-add n 1 before ∙ ap (λ rest. take n before ++ take 1 rest) (sym e ∙ ahead_is mid q first)

-- what is newly held is at a place that was taken before, or at the new one
among_one_more : (before mid : Log) (n m : ℕ) (q : Place) (block : Stored) → TakesPlaces n before mid → n + 1 ≡ m → slice_get mid.ahead 0 ≡ Some q
    → (p : Place) → before.held p ≡ None → IsSome (with_held mid.held q block p) → Contains (take m before.ahead) p
among_one_more before mid n m q block takes more first p none some =
    subst (λ places. Contains places p) (sym (take_one_more before.ahead mid.ahead n m q takes.ahead more first)) (elim (cases_Bool (same_place q p)) [
      | inl e ↦ Contains-append_right (take n before.ahead) (q ∷ []) p (subst (λ r. Contains (q ∷ []) r) (one_place q p e) (0, omega arith, refl))
      | inr e ↦ Contains-append_left (take n before.ahead) (q ∷ []) p (takes.among p none (subst (λ (there : Option Stored). IsSome there) (cond-false (same_place q p) (Some block) (mid.held p) e) some))
    ])

-- one block more takes one place more
taken_one_more : (before mid : Log) (n m : ℕ) (q : Place) (block : Stored) → TakesPlaces n before mid → n + 1 ≡ m → slice_get mid.ahead 0 ≡ Some q → TakesPlaces m before (put_at mid block q)
taken_one_more before mid n m q block takes more first = record {
  ahead = drop_one_more before.ahead mid.ahead n m takes.ahead more;
  spent = (let one = takes.spent in omega (arith, one, more));
  among = among_one_more before mid n m q block takes more first;
}

-- the new block is named once more, and those that came before it
first_names_more : (object : ℕ) (blocks : List (List ℕ)) (block : Stored) (before mid : Log) (q : Place) → GrowsBy object blocks before mid → mid.held q ≡ None
    → (p : Place) → before.held p ≡ None → IsSome (with_held mid.held q block p) → with_more mid.named q p ≡ 1 + before.named p
first_names_more object blocks block before mid q grows free p none some =
    elim (cases_Bool (same_place q p)) [
      | inl here ↦
          let empty : mid.held p ≡ None = ap mid.held (sym (one_place q p here)) ∙ free in
          cond-true (same_place q p) (1 + mid.named p) (mid.named p) here ∙ ap (λ (n : ℕ). 1 + n) (grows.names_kept p (empty ∙ sym none))
      | inr beside ↦
          cond-false (same_place q p) (1 + mid.named p) (mid.named p) beside
          ∙ grows.first_names p none (subst (λ (there : Option Stored). IsSome there) (cond-false (same_place q p) (Some block) (mid.held p) beside) some)
    ]

-- and all others are named as often as before
names_kept_more : (object : ℕ) (blocks : List (List ℕ)) (block : Stored) (before mid : Log) (q : Place) → GrowsBy object blocks before mid → mid.held q ≡ None
    → (p : Place) → with_held mid.held q block p ≡ before.held p → with_more mid.named q p ≡ before.named p
names_kept_more object blocks block before mid q grows free p same =
    elim (cases_Bool (same_place q p)) [
      | inl here ↦
          let empty : before.held p ≡ None = none_before (before.held p) (mid.held p) (grows.kept p) (ap mid.held (sym (one_place q p here)) ∙ free) in
          absurd (none-some block (sym empty ∙ sym same ∙ cond-true (same_place q p) (Some block) (mid.held p) here))
      | inr beside ↦
          cond-false (same_place q p) (1 + mid.named p) (mid.named p) beside
          ∙ grows.names_kept p (sym (cond-false (same_place q p) (Some block) (mid.held p) beside) ∙ same)
    ]

pub grows-more : (object : ℕ) (blocks : List (List ℕ)) (bytes : List ℕ) (before mid : Log) (q : Place) → GrowsBy object blocks before mid → slice_get mid.ahead 0 ≡ Some q → mid.held q ≡ None
    → GrowsBy object (blocks ++ bytes ∷ []) before (log_grown mid (data_block object bytes))
grows-more object blocks bytes before mid q grows first free =
    let longer : length (blocks ++ bytes ∷ []) ≡ length blocks + 1 = length-append blocks (bytes ∷ []) in
    let within : 0 < length mid.ahead = slice_get_within mid.ahead 0 q first in
    let left : length mid.ahead ≡ length before.ahead - length blocks = ap length grows.takes.ahead ∙ length-drop (length blocks) before.ahead in
    subst (GrowsBy object (blocks ++ bytes ∷ []) before) (sym (grown_is mid (data_block object bytes) q first)) (record {
      room = omega arith;
      takes = taken_one_more before mid (length blocks) (length (blocks ++ bytes ∷ [])) q (data_block object bytes) grows.takes (sym longer) first;
      fresh = fresh_more object blocks bytes before mid q grows first free;
      taken = taken_more object blocks bytes before mid q grows first free;
      first_names = first_names_more object blocks (data_block object bytes) before mid q grows free;
      names_kept = names_kept_more object blocks (data_block object bytes) before mid q grows free;
      kept = λ p held. held_beside mid.held q p (data_block object bytes) free (subst IsSome (sym (grows.kept p held)) held) ∙ grows.kept p held;
      others = λ kind o p other. kind_beside mid.held q p object bytes kind o free other ∙ grows.others kind o p other;
    })
