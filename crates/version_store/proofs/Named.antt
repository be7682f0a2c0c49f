-- How many names the data of an object has, and what is held of it, where names were given and taken away.
use Rattle.std.proofs.Common.{◌≡◌, ◌⊎◌, inl, inr, ℕ, ◌+◌, ◌-◌, ◌≤◌, ◌<◌, ◌==◌, ◌&&◌, cond, Bool, true, false, List, [], ◌∷◌, ◌++◌, length, get_or, Option, Some, None, IsSome, is_some, option_map, refl, sym, ap, subst, ◌∙◌, arith}
use Rattle.std.specs.List.{All, Contains}
use Rattle.std.proofs.lemmas.Bool.{cases_Bool, cases_lt, cond-true, cond-false, and_parts, and_from, eqb-true, eq-eqb, ne_eqb, false≢true}
use Rattle.std.proofs.lemmas.List.Sums.{sum_by-cons, sum_by-append, get_or-le-sum_by, count_by-le-length}
use Rattle.std.proofs.lemmas.List.Elements.{All-weaker, Contains-append_right}
use std.Path.{fun_ext}
use Rattle.s4_types.specs.Pointer.{Place}
use Rattle.lemmas.proofs.Nat.{eqb_false_back}
use Rattle.block_log.specs.declared.kinds.BlockKind.{BlockKind}
use Rattle.block_log.specs.declared.kinds.BlockKind.TheVariants.{Journal, Checkpoint, Data, Pointers}
use Rattle.block_log.specs.Log.{Log, Stored, same_place, same_kind, seen_as, of_kind, is_data, NamesAreOfData}
use Rattle.block_log.proofs.Places.{same_place_itself}
use Rattle.block_log.proofs.BlockKinds.{seen_is_data}
use Rattle.checkpoint.specs.Held.{or_others, begun_by, seen_of, of_checkpoints}
use Rattle.version_store.specs.Store.{IsLed, is_at, named_of, times_led}
use Rattle.version_store.specs.Replacing.{OnlyDataChanged}
use Rattle.version_store.specs.private.Below.{OnePlace, PlacesAddUp}
use Rattle.version_store.specs.private.Names.{IsOfData, IsOfDataOrNothing, Gives, TakesAway, held_named}
use Rattle.version_store.specs.private.Recounting.{Recounts}
use Rattle.version_store.proofs.Telling.{led_there}
use Rattle.version_store.proofs.Counted.{held_data_is_named}

-- ---- pointers that lead to a place

pub pointer_is : OnePlace → (p : Place) (x : Option Place) → is_at x p ≡ true → x ≡ Some p
pointer_is one p None is = absurd (false≢true is)
pointer_is one p (Some q) is = ap (λ (r : Place). Some r) (one q p is)

-- whether one pointer refers to a place, as a number
abbrev pub once_led : Place → Option Place → ℕ
once_led p x = cond (is_at x p) 1 0

pub times_first : (p : Place) (x : Option Place) (xs : List (Option Place)) → times_led p (x ∷ xs) ≡ once_led p x + times_led p xs
times_first p x xs = sum_by-cons (once_led p) x xs

pub times_joined : (p : Place) (xs ys : List (Option Place)) → times_led p (xs ++ ys) ≡ times_led p xs + times_led p ys
times_joined p xs ys = sum_by-append (once_led p) xs ys

pub times_few : (p : Place) (xs : List (Option Place)) → times_led p xs ≤ length xs
times_few p xs = count_by-le-length (λ (x : Option Place). is_at x p) xs

pub contained_times : (p : Place) (xs : List (Option Place)) → Contains xs (Some p) → 0 < times_led p xs
contained_times p xs there =
    let (n, below, at) = there in
    let least = get_or-le-sum_by (once_led p) xs n (Some p) below in
    let one : once_led p (get_or xs n (Some p)) ≡ 1 = ap (once_led p) at ∙ cond-true (same_place p p) 1 0 (same_place_itself p) in
    omega (arith, least, one)

pub times_contained : OnePlace → (p : Place) (xs : List (Option Place)) → 0 < times_led p xs → Contains xs (Some p)
times_contained one p [] some = absurd (omega (arith, some))
times_contained one p (x ∷ xs) some = elim (cases_Bool (is_at x p)) [
  | inl is ↦ (0, omega arith, pointer_is one p x is)
  | inr beside ↦
      let first = times_first p x xs in
      let none : once_led p x ≡ 0 = cond-false (is_at x p) 1 0 beside in
      let rest : 0 < times_led p xs = omega (arith, first, none, some) in
      Contains-append_right (x ∷ []) xs (Some p) (times_contained one p xs rest)
]

-- ---- a block is of one kind and one object

alone : (k kind : BlockKind) (n o other : ℕ) → (same_kind Data k && n == o) ≡ true → (same_kind Data kind && o == other) ≡ false → (same_kind kind k && n == other) ≡ false
alone Journal kind n o other is beside = absurd (false≢true is)
alone Checkpoint kind n o other is beside = absurd (false≢true is)
alone Pointers kind n o other is beside = absurd (false≢true is)
alone Data Journal n o other is beside = refl
alone Data Checkpoint n o other is beside = refl
alone Data Pointers n o other is beside = refl
alone Data Data n o other is beside = subst (λ (m : ℕ). (m == other) ≡ false) (sym (eqb-true n o is)) beside

pub seen_alone : (kind : BlockKind) (o other : ℕ) (there : Option Stored) → IsSome (seen_as Data o there) → (same_kind Data kind && o == other) ≡ false → seen_as kind other there ≡ None
seen_alone kind o other None some beside = refl
seen_alone kind o other (Some block) some beside = elim (cases_Bool (same_kind Data block.kind && block.object == o)) [
  | inl is ↦ cond-false (same_kind kind block.kind && block.object == other) (Some block.bytes) None (alone block.kind kind block.object o other is beside)
  | inr not_data ↦ absurd (false≢true (sym (ap is_some (cond-false (same_kind Data block.kind && block.object == o) (Some block.bytes) None not_data)) ∙ some))
]

pub led_of_data : (o : ℕ) (held : Place → Option Stored) (x : Option Place) → IsLed held o x → IsOfData held x
led_of_data o held None led = tt
led_of_data o held (Some p) led = seen_is_data o (held p) led

pub all_of_data : (o : ℕ) (held : Place → Option Stored) (xs : List (Option Place)) → All (IsLed held o) xs → All (IsOfData held) xs
all_of_data o held = All-weaker (IsLed held o) (IsOfData held) (led_of_data o held)

led_or_nothing : (o : ℕ) (held : Place → Option Stored) (x : Option Place) → IsLed held o x → IsOfDataOrNothing held x
led_or_nothing o held None led = tt
led_or_nothing o held (Some p) led = inl (seen_is_data o (held p) led)

pub all_or_nothing : (o : ℕ) (held : Place → Option Stored) (xs : List (Option Place)) → All (IsLed held o) xs → All (IsOfDataOrNothing held) xs
all_or_nothing o held = All-weaker (IsLed held o) (IsOfDataOrNothing held) (led_or_nothing o held)

-- where names were taken away before
still_here : (gone : Bool) (there : Option Stored) → (is_data there ≡ true) ⊎ (there ≡ None) → (is_data (cond gone None there) ≡ true) ⊎ (cond gone None there ≡ None)
still_here true there is = inr refl
still_here false there is = is

pub still_one : (held later : Place → Option Stored) (named : Place → ℕ) → ((q : Place) → later q ≡ held_named held named q) → (x : Option Place) → IsOfDataOrNothing held x → IsOfDataOrNothing later x
still_one held later named left None is = tt
still_one held later named left (Some p) is = subst (λ (there : Option Stored). (is_data there ≡ true) ⊎ (there ≡ None)) (sym (left p)) (still_here (is_data (held p) && named p == 0) (held p) is)

pub still_or_nothing : (before after : Log) (xs ys : List (Option Place)) → TakesAway before xs after → All (IsOfDataOrNothing before.held) ys → All (IsOfDataOrNothing after.held) ys
still_or_nothing before after xs ys takes = All-weaker (IsOfDataOrNothing before.held) (IsOfDataOrNothing after.held) (still_one before.held after.held after.named takes.held) ys

-- ---- names

pub named_some : (o : ℕ) (log : Log) (p : Place) → is_some (of_kind Data o log.held p) ≡ true → named_of o log p ≡ log.named p
named_some o log p some = cond-true (is_some (of_kind Data o log.held p)) (log.named p) 0 some

pub named_none : (o : ℕ) (log : Log) (p : Place) → is_some (of_kind Data o log.held p) ≡ false → named_of o log p ≡ 0
named_none o log p none = cond-false (is_some (of_kind Data o log.held p)) (log.named p) 0 none

-- an object's data block that is held has a name
pub named_there : (o : ℕ) (log : Log) (p : Place) → NamesAreOfData log → IsSome (of_kind Data o log.held p) → 0 < named_of o log p
named_there o log p rule some =
    let is = named_some o log p some in
    let least = held_data_is_named log rule p (seen_is_data o (log.held p) some) in
    omega (arith, is, least)

-- and one that has a name is held
pub there_named : (o : ℕ) (log : Log) (p : Place) → 0 < named_of o log p → IsSome (of_kind Data o log.held p)
there_named o log p some = elim (cases_Bool (is_some (of_kind Data o log.held p))) [
  | inl there ↦ there
  | inr none ↦ let is = named_none o log p none in absurd (omega (arith, is, some))
]

-- names of the same data
pub named_alike : (o : ℕ) (before after : Log) (p : Place) → of_kind Data o after.held p ≡ of_kind Data o before.held p → after.named p ≡ before.named p → named_of o after p ≡ named_of o before p
named_alike o before after p seen named = ap (λ (view : Option (List ℕ)). cond (is_some view) (after.named p) 0) seen ∙ ap (λ (n : ℕ). cond (is_some (of_kind Data o before.held p)) n 0) named

-- no pointer of an object's leads where nothing of its data is
pub none_led : (one : OnePlace) (o : ℕ) (held : Place → Option Stored) (xs : List (Option Place)) (p : Place) → All (IsLed held o) xs → is_some (of_kind Data o held p) ≡ false → times_led p xs ≡ 0
none_led one o held xs p led none = elim (cases_lt 0 (times_led p xs)) [
  | inl some ↦ absurd (false≢true (sym none ∙ led_there held o xs p led (times_contained one p xs some)))
  | inr few ↦ omega (arith, few)
]

-- what is of one object's data isn't of another's
pub others_data : (o q : ℕ) (there : Option Stored) → (o == q) ≡ false → IsSome (seen_as Data q there) → is_some (seen_as Data o there) ≡ false
others_data o q there beside some = ap is_some (seen_alone Data q o there some (eqb_false_back o q beside))

-- ---- names were given

pub given_here : OnePlace → (o : ℕ) (before after : Log) (xs : List (Option Place)) → All (IsLed before.held o) xs → Gives before xs after → (p : Place) → named_of o after p ≡ times_led p xs + named_of o before p
given_here one o before after xs led gives p =
    let same : of_kind Data o after.held p ≡ of_kind Data o before.held p = ap (λ (held : Place → Option Stored). of_kind Data o held p) gives.held in
    elim (cases_Bool (is_some (of_kind Data o before.held p))) [
      | inl some ↦
          let later = named_some o after p (ap is_some same ∙ some) in
          let was = named_some o before p some in
          let named = gives.named p in
          omega (arith, later, was, named)
      | inr none ↦
          let later = named_none o after p (ap is_some same ∙ none) in
          let was = named_none o before p none in
          let times = none_led one o before.held xs p led none in
          omega (arith, later, was, times)
    ]

pub given_beside : OnePlace → (o : ℕ) (before after : Log) (xs : List (Option Place)) → All (IsLed before.held o) xs → Gives before xs after → (q : ℕ) (p : Place) → (o == q) ≡ false → named_of q after p ≡ named_of q before p
given_beside one o before after xs led gives q p beside =
    let same : of_kind Data q after.held p ≡ of_kind Data q before.held p = ap (λ (held : Place → Option Stored). of_kind Data q held p) gives.held in
    elim (cases_Bool (is_some (of_kind Data q before.held p))) [
      | inl some ↦
          let times = none_led one o before.held xs p led (others_data o q (before.held p) beside some) in
          let named = gives.named p in
          named_alike q before after p same (omega (arith, named, times))
      | inr none ↦ named_none q after p (ap is_some same ∙ none) ∙ sym (named_none q before p none)
    ]

-- ---- names were taken away

module _ (one : OnePlace) (o : ℕ) (before after : Log) (xs : List (Option Place)) (rule : NamesAreOfData before) (led : All (IsLed before.held o) xs) (takes : TakesAway before xs after) where
  -- what has a name left is held
  pub taken_stays : (p : Place) → (is_data (before.held p) ≡ true → 0 < after.named p) → after.held p ≡ before.held p
  taken_stays p some = takes.held p ∙ elim (cases_Bool (is_data (before.held p))) [
    | inl is ↦ let least = some is in cond-false (is_data (before.held p) && after.named p == 0) None (before.held p) (ap (λ (b : Bool). b && after.named p == 0) is ∙ ne_eqb (after.named p) 0 (λ (z : after.named p ≡ 0). omega (arith, least, z)))
    | inr other ↦ cond-false (is_data (before.held p) && after.named p == 0) None (before.held p) (ap (λ (b : Bool). b && after.named p == 0) other)
  ]

  fewer_none : (p : Place) → is_some (of_kind Data o before.held p) ≡ false → after.named p ≡ before.named p
  fewer_none p none =
      let times = none_led one o before.held xs p led none in
      let named = takes.named p in
      omega (arith, named, times)

  -- what is not of the object's data stays
  pub taken_apart : (p : Place) → is_some (of_kind Data o before.held p) ≡ false → after.held p ≡ before.held p
  taken_apart p none = taken_stays p (λ is.
      let named = fewer_none p none in
      let least = held_data_is_named before rule p is in
      omega (arith, named, least))

  left_or_gone : (gone : Bool) (there : Option Stored) → (cond gone None there ≡ there) ⊎ (cond gone None there ≡ None)
  left_or_gone true there = inr refl
  left_or_gone false there = inl refl

  -- and all else is held no longer
  pub taken_left : (p : Place) → (after.held p ≡ before.held p) ⊎ (after.held p ≡ None)
  taken_left p = elim (left_or_gone (is_data (before.held p) && after.named p == 0) (before.held p)) [
    | inl same ↦ inl (takes.held p ∙ same)
    | inr gone ↦ inr (takes.held p ∙ gone)
  ]

  gone_none : (p : Place) → is_data (before.held p) ≡ true → after.named p ≡ 0 → is_some (of_kind Data o after.held p) ≡ false
  gone_none p is none =
      ap (λ (there : Option Stored). is_some (seen_as Data o there)) (takes.held p ∙ cond-true (is_data (before.held p) && after.named p == 0) None (before.held p) (and_from (is_data (before.held p)) (after.named p == 0) is (eq-eqb (after.named p) 0 none)))

  pub taken_here : (p : Place) → named_of o after p ≡ named_of o before p - times_led p xs
  taken_here p = elim (cases_Bool (is_some (of_kind Data o before.held p))) [
    | inl some ↦
        let was = named_some o before p some in
        let named = takes.named p in
        elim (cases_lt 0 (after.named p)) [
          | inl least ↦
              let same = taken_stays p (λ is. least) in
              let later = named_some o after p (ap (λ (there : Option Stored). is_some (seen_as Data o there)) same ∙ some) in
              omega (arith, was, named, later)
          | inr few ↦
              let zero_names : after.named p ≡ 0 = omega (arith, few) in
              let later = named_none o after p (gone_none p (seen_is_data o (before.held p) some) zero_names) in
              omega (arith, was, named, later, zero_names)
        ]
    | inr none ↦
        let was = named_none o before p none in
        let same = taken_apart p none in
        let later = named_none o after p (ap (λ (there : Option Stored). is_some (seen_as Data o there)) same ∙ none) in
        omega (arith, was, later)
  ]

  pub taken_beside : (q : ℕ) (p : Place) → (o == q) ≡ false → named_of q after p ≡ named_of q before p
  taken_beside q p beside = elim (cases_Bool (is_some (of_kind Data o before.held p))) [
    | inl some ↦
        let none : is_some (of_kind Data q before.held p) ≡ false = others_data q o (before.held p) (eqb_false_back o q beside) some in
        let later : is_some (of_kind Data q after.held p) ≡ false = ap (λ (there : Option Stored). is_some (seen_as Data q there)) (takes.held p) ∙ gone_or_none (is_data (before.held p) && after.named p == 0) (before.held p) none in
        named_none q after p later ∙ sym (named_none q before p none)
    | inr none ↦ named_alike q before after p (ap (seen_as Data q) (taken_apart p none)) (fewer_none p none)
  ]
    where
      gone_or_none : (gone : Bool) (there : Option Stored) → is_some (seen_as Data q there) ≡ false → is_some (seen_as Data q (cond gone None there)) ≡ false
      gone_or_none true there none = refl
      gone_or_none false there none = none

-- ---- names were given, and others taken away

pub recounted : OnePlace → PlacesAddUp → (o : ℕ) (before between after : Log) (more fewer : List (Option Place)) → All (IsLed before.held o) more → All (IsLed before.held o) fewer
    → Gives before more between → NamesAreOfData between → TakesAway between fewer after → NamesAreOfData after → Recounts o before more fewer after
recounted one add_up o before between after more fewer more_led fewer_led gives rule takes names =
    let led : All (IsLed between.held o) fewer = subst (λ (held : Place → Option Stored). All (IsLed held o) fewer) (sym gives.held) fewer_led in
    record {
      here = λ p. taken_here one o between after fewer rule led takes p ∙ ap (λ (n : ℕ). n - times_led p fewer) (given_here one o before between more more_led gives p);
      beside = λ q p beside. taken_beside one o between after fewer rule led takes q p beside ∙ given_beside one o before between more more_led gives q p beside;
      left = λ p. elim (taken_left one o between after fewer rule led takes p) [
        | inl same ↦ inl (same ∙ ap (λ (held : Place → Option Stored). held p) gives.held)
        | inr gone ↦ inr gone
      ];
      apart = λ p none. taken_apart one o between after fewer rule led takes p (ap (λ (held : Place → Option Stored). is_some (of_kind Data o held p)) gives.held ∙ none) ∙ ap (λ (held : Place → Option Stored). held p) gives.held;
      names = names;
      takes = add_up 0 0 before between after gives.takes takes.takes;
    }

-- where nothing is given
pub uncounted : OnePlace → (o : ℕ) (before after : Log) (fewer : List (Option Place)) → All (IsLed before.held o) fewer → NamesAreOfData before → TakesAway before fewer after → NamesAreOfData after → Recounts o before [] fewer after
uncounted one o before after fewer led rule takes names = record {
  here = λ p. let is = taken_here one o before after fewer rule led takes p in omega (arith, is);
  beside = taken_beside one o before after fewer rule led takes;
  left = taken_left one o before after fewer rule led takes;
  apart = taken_apart one o before after fewer rule led takes;
  names = names;
  takes = takes.takes;
}

-- one after the other
pub gives_join : PlacesAddUp → (first second third : Log) (xs ys : List (Option Place)) → Gives first xs second → Gives second ys third → Gives first (xs ++ ys) third
gives_join add_up first second third xs ys a b = record {
  named = λ q.
      let one = a.named q in
      let two = b.named q in
      let both = times_joined q xs ys in
      omega (arith, one, two, both);
  held = b.held ∙ a.held;
  takes = add_up 0 0 first second third a.takes b.takes;
}

left_twice : (data_there : Bool) (n m : ℕ) (there : Option Stored) → is_data there ≡ data_there → m ≤ n
    → cond (is_data (cond (data_there && n == 0) None there) && m == 0) None (cond (data_there && n == 0) None there) ≡ cond (data_there && m == 0) None there
left_twice false n m there is le = ap (λ (b : Bool). cond (b && m == 0) None there) is
left_twice true n m there is le = elim (cases_lt 0 n) [
  | inl some ↦
      let stays : (n == 0) ≡ false = ne_eqb n 0 (λ (z : n ≡ 0). omega (arith, some, z)) in
      ap (λ (b : Bool). cond (is_data (cond b None there) && m == 0) None (cond b None there)) stays ∙ ap (λ (b : Bool). cond (b && m == 0) None there) is
  | inr few ↦
      let gone : (n == 0) ≡ true = eq-eqb n 0 (omega (arith, few)) in
      let after : (m == 0) ≡ true = eq-eqb m 0 (omega (arith, few, le)) in
      ap (λ (b : Bool). cond (is_data (cond b None there) && m == 0) None (cond b None there)) gone ∙ sym (cond-true (m == 0) None there after)
]

pub takes_join : PlacesAddUp → (first second third : Log) (xs ys : List (Option Place)) → TakesAway first xs second → TakesAway second ys third → TakesAway first (xs ++ ys) third
takes_join add_up first second third xs ys a b = record {
  named = λ q.
      let one = a.named q in
      let two = b.named q in
      let both = times_joined q xs ys in
      omega (arith, one, two, both);
  held = λ q.
      b.held q
      ∙ ap (λ (there : Option Stored). cond (is_data there && third.named q == 0) None there) (a.held q)
      ∙ left_twice (is_data (first.held q)) (second.named q) (third.named q) (first.held q) refl (let two = b.named q in omega (arith, two));
  takes = add_up 0 0 first second third a.takes b.takes;
}

-- ---- what a recount leaves

-- what is still held of the object's data is as it was
pub recounts_kept : (o : ℕ) (before after : Log) (more fewer : List (Option Place)) → Recounts o before more fewer after → (p : Place) → IsSome (of_kind Data o after.held p) → after.held p ≡ before.held p
recounts_kept o before after more fewer counts p some = elim (counts.left p) [
  | inl same ↦ same
  | inr gone ↦ absurd (false≢true (sym (ap (λ (there : Option Stored). is_some (seen_as Data o there)) gone) ∙ some))
]

-- of all views, that of the object's data alone has changed
pub recounts_data : (o : ℕ) (before after : Log) (more fewer : List (Option Place)) → Recounts o before more fewer after → OnlyDataChanged o before.held after.held
recounts_data o before after more fewer counts kind other beside = fun_ext (λ (p : Place). elim (cases_Bool (is_some (of_kind Data o before.held p))) [
  | inl some ↦
      let none : seen_as kind other (before.held p) ≡ None = seen_alone kind o other (before.held p) some beside in
      elim (counts.left p) [
        | inl same ↦ ap (seen_as kind other) same
        | inr gone ↦ ap (seen_as kind other) gone ∙ sym none
      ]
  | inr none ↦ ap (seen_as kind other) (counts.apart p none)
])

-- where each data block of the object has a name left, nothing goes
pub recounts_all : (o : ℕ) (before after : Log) (more fewer : List (Option Place)) → Recounts o before more fewer after
    → ((p : Place) → IsSome (of_kind Data o before.held p) → 0 < (times_led p more + named_of o before p) - times_led p fewer) → after.held ≡ before.held
recounts_all o before after more fewer counts some = fun_ext (λ (p : Place). elim (cases_Bool (is_some (of_kind Data o before.held p))) [
  | inl is ↦
      let here = counts.here p in
      let least = some p is in
      recounts_kept o before after more fewer counts p (there_named o after p (omega (arith, here, least)))
  | inr none ↦ counts.apart p none
])

-- no checkpoint goes with a name
unseen_data : (o : ℕ) (gone : Bool) (there : Option Stored) → (gone ≡ true → is_data there ≡ true) → seen_of o (cond gone None there) ≡ seen_of o there
unseen_data o true None is = refl
unseen_data o true (Some block) is = sym (no_checkpoint block.kind (block.object == o) block.bytes (is refl))
  where
    no_checkpoint : (k : BlockKind) (own : Bool) (bytes : List ℕ) → same_kind k Data ≡ true → or_others (option_map (begun_by Checkpoint) (cond (same_kind Checkpoint k && own) (Some bytes) None)) (option_map (begun_by Pointers) (cond (same_kind Pointers k && own) (Some bytes) None)) ≡ None
    no_checkpoint Journal own bytes is = absurd (false≢true is)
    no_checkpoint Checkpoint own bytes is = absurd (false≢true is)
    no_checkpoint Pointers own bytes is = absurd (false≢true is)
    no_checkpoint Data own bytes is = refl
unseen_data o false there is = refl

pub takes_checkpoints : (o : ℕ) (before after : Log) (xs : List (Option Place)) → TakesAway before xs after → of_checkpoints o after.held ≡ of_checkpoints o before.held
takes_checkpoints o before after xs takes = fun_ext (λ (p : Place).
    ap (seen_of o) (takes.held p)
    ∙ unseen_data o (is_data (before.held p) && after.named p == 0) (before.held p) (λ gone. (and_parts (is_data (before.held p)) (after.named p == 0) gone).0))
