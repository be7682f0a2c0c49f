-- The names of an object's data where copies of its blocks were appended and its pointers are renamed.
use Rattle.std.proofs.Common.{◌≡◌, ◌⊎◌, inl, inr, ℕ, zero, suc, ◌+◌, ◌*◌, ◌≤◌, ◌<◌, ◌==◌, ◌&&◌, ◌++◌, leb, cond, true, false, List, [], ◌∷◌, length, map, Option, Some, None, IsSome, is_some, unwrap_or, refl, sym, ap, subst, ◌∙◌, arith}
use Rattle.std.specs.List.{All, Contains}
use Rattle.std.proofs.lemmas.Bool.{cases_Bool, cases_lt, cond-true, cond-false, and_from, and_parts, eq-eqb, leb-true, ltb-false, false≢true}
use Rattle.std.proofs.lemmas.List.{get_or_default, get_or_past, length-append}
use Rattle.std.proofs.lemmas.List.Elements.{Contains-append_right}
use Rattle.std.proofs.lemmas.Option.{none-some, same_Some}
use Rattle.s4_types.specs.Pointer.{Place}
use Rattle.s4_types.specs.declared.limits.TheConstants.{PAYLOAD_BLOCKS, ROW_POINTERS}
use Rattle.lemmas.proofs.Contains.{contains_map}
use Rattle.block_log.specs.Log.{Log, Stored, of_kind, seen_as, is_data, NamesAreOfData}
use Rattle.block_log.specs.declared.kinds.BlockKind.TheVariants.{Data}
use Rattle.chain_rewriting.specs.Renaming.{RenamingFields, move_of, new_place, renamed, renamed_slot}
use Rattle.object_map.specs.declared.map.Row.{Row}
use Rattle.block_log.proofs.BlockKinds.{seen_is_some, seen_is_data}
use Rattle.row_changes.specs.Rewritten.{OnlyMetadataChanged}
use Rattle.time_read.specs.Rows.{IsRow}
use Rattle.chain_rewriting.proofs.Rules.{move_is}
use Rattle.version_store.specs.declared.copies.CopiedBlock.{CopiedBlock}
use Rattle.version_store.specs.Store.{DataIsNamed, IsLed, IsNamedBy, named_of, pointers_aside, pointers_named, pointers_of, times_led}
use Rattle.version_store.specs.Relocating.{AreCopies, IsCopied, blocks_ascend_from}
use Rattle.version_store.specs.private.Below.{OnePlace}
use Rattle.version_store.specs.private.Names.{TakesAway, places_copied}
use Rattle.version_store.specs.private.Recounting.{Recounts}
use Rattle.version_store.specs.private.Relocating.{Appending, NamesMove, stood_at}
use Rattle.version_store.proofs.Telling.{led_there}
use Rattle.version_store.proofs.Named.{contained_times, named_alike, named_none, named_some, none_led, others_data, recounts_all, taken_beside, taken_here, taken_stays, times_contained, times_few, times_joined}
use Rattle.version_store.proofs.Recounted.{all_led, data_is_named, told_led}
use Rattle.version_store.proofs.Gathering.{contained_map}
use Rattle.version_store.proofs.RelocatedBlocks.{Dropped, block_seen, copied_held, copied_is, copied_stood, from_copy, moved_are, stood_copied}
use Rattle.version_store.proofs.Counted.{held_data_is_named}

-- ---- copies are few

short_copies : (low : ℕ) (copies : List CopiedBlock) → low ≤ 16 → blocks_ascend_from low copies ≡ true → ((c : CopiedBlock) → Contains copies c → c.place.block ≤ 15) → length copies + low ≤ 16
short_copies low [] most ascend few = omega (arith, most)
short_copies low (c ∷ copies) most ascend few =
    let parts = and_parts (leb low c.place.block) (blocks_ascend_from (suc c.place.block) copies) ascend in
    let at : low ≤ c.place.block = leb-true low c.place.block parts.0 in
    let here = few c (0, omega arith, refl) in
    let rest = short_copies (suc c.place.block) copies (omega (arith, here)) parts.1 (λ d there. few d (Contains-append_right (c ∷ []) copies d there)) in
    omega (arith, at, rest)

-- ---- what was copied, and where

pub copied_contained : (copies : List CopiedBlock) (p : Place) → Contains (places_copied copies) (Some p) → IsCopied copies p
copied_contained copies p there =
    let (c, (among, is)) = contained_map (λ (c : CopiedBlock). Some c.place) copies (Some p) there in
    (c, (among, sym (same_Some p c.place is)))

pub contained_copied : (copies : List CopiedBlock) (p : Place) → IsCopied copies p → Contains (places_copied copies) (Some p)
contained_copied copies p (c, (among, is)) = subst (λ (q : Place). Contains (places_copied copies) (Some q)) is (contains_map (λ (c : CopiedBlock). Some c.place) copies c among)

-- What is known once copies were appended.
pub record Copied (before between : Log) (o : ℕ) (row : Row) (copies : List CopiedBlock) (r : RenamingFields) : Type 0 where
  pub one : OnePlace
  pub are : AreCopies before.held o copies
  pub appended : Appending o copies before between r [] (length copies)
  pub names : NamesAreOfData before
  pub stands : IsRow before.held o row
  pub led : All (IsLed before.held o) (pointers_of before.held o row)
  pub counted : IsNamedBy o before (pointers_named before.held o row)

module _ (before between : Log) (o : ℕ) (row : Row) (copies : List CopiedBlock) (r : RenamingFields) (is : Copied before between o row copies r) where
  -- as if what was copied were dropped at once
  dropped : Dropped before between between (record between { held = λ q. cond (stood_at q copies) None (between.held q) }) o copies r
  dropped = record { one = is.one; are = is.are; appended = is.appended; metadata = λ kind other h. refl; dropped = λ q. refl }

  pub stays : (p : Place) → IsSome (of_kind Data o before.held p) → IsSome (of_kind Data o between.held p)
  stays p some = ap (λ (there : Option Stored). is_some (seen_as Data o there)) (is.appended.stays p (seen_is_some Data o (before.held p) some)) ∙ some

  was_copied : (p : Place) → IsCopied copies p → IsSome (of_kind Data o before.held p)
  was_copied p copied = copied_held before between between (record between { held = λ q. cond (stood_at q copies) None (between.held q) }) o copies r dropped p copied

  -- ---- all pointers refer to data

  pub copied_led : All (IsLed between.held o) (places_copied copies)
  copied_led = told_led between.held o (places_copied copies) (λ p there. stays p (was_copied p (copied_contained copies p there)))

  move_there : (n : ℕ) (q : Place) → move_of r n ≡ Some q → IsSome (of_kind Data o between.held q)
  move_there n q moves =
      let at = is.appended.there n q moves in
      ap is_some (ap (seen_as Data o) at.there ∙ block_seen o at.copy.bytes)

  moves_there : (q : Place) → Contains r.moves (Some q) → IsSome (of_kind Data o between.held q)
  moves_there q (n, below, at) = move_there (suc n) q (get_or_default r.moves n None (Some q) below ∙ at)

  pub moves_led : All (IsLed between.held o) r.moves
  moves_led = told_led between.held o r.moves moves_there

  pub pointers_led : All (IsLed between.held o) (pointers_of before.held o row)
  pointers_led = told_led between.held o (pointers_of before.held o row) (λ p there. stays p (led_there before.held o (pointers_of before.held o row) p is.led there))

  slot_goes : (slot : Option Place) (q : Place) → Some q ≡ renamed_slot r slot → (p : Place) × ((slot ≡ Some p) × (q ≡ renamed r p))
  slot_goes None q is = absurd (none-some q (sym is))
  slot_goes (Some p) q is = (p, (refl, same_Some q (renamed r p) is))

  -- where a renamed pointer leads, from where it led
  from_slot : (q : Place) → Contains (map (renamed_slot r) (pointers_of before.held o row)) (Some q) → (p : Place) × (Contains (pointers_of before.held o row) (Some p) × (q ≡ renamed r p))
  from_slot q there =
      let (slot, (among, at)) = contained_map (renamed_slot r) (pointers_of before.held o row) (Some q) there in
      let (p, (slot_is, leads)) = slot_goes slot q at in
      (p, (subst (Contains (pointers_of before.held o row)) slot_is among, leads))

  renamed_by : (p : Place) (new : Option Place) → new_place r p ≡ new → renamed r p ≡ unwrap_or new p
  renamed_by p new at = ap (λ (x : Option Place). unwrap_or x p) at

  renamed_there : (p : Place) (new : Option Place) → new_place r p ≡ new → IsSome (of_kind Data o before.held p) → IsSome (of_kind Data o between.held (renamed r p))
  renamed_there p None at some = subst (λ (q : Place). IsSome (of_kind Data o between.held q)) (sym (renamed_by p None at)) (stays p some)
  renamed_there p (Some q) at some = subst (λ (x : Place). IsSome (of_kind Data o between.held x)) (sym (renamed_by p (Some q) at)) (move_there p.block q (move_is r p q at).1)

  pub renamed_led : All (IsLed between.held o) (map (renamed_slot r) (pointers_of before.held o row))
  renamed_led = told_led between.held o (map (renamed_slot r) (pointers_of before.held o row)) (λ q there.
      let (p, (among, leads)) = from_slot q there in
      subst (λ (x : Place). IsSome (of_kind Data o between.held x)) (sym leads) (renamed_there p (new_place r p) refl (led_there before.held o (pointers_of before.held o row) p is.led among)))

  pub all_still : All (IsLed between.held o) (pointers_named before.held o row)
  all_still = told_led between.held o (pointers_named before.held o row) (λ p there. stays p (led_there before.held o (pointers_named before.held o row) p (all_led before.held o row is.stands is.led) there))

  -- ---- names once copies were appended

  free_named : (p : Place) → is_some (of_kind Data o before.held p) ≡ false → times_led p (pointers_named before.held o row) ≡ 0
  free_named p none = sym (is.counted p) ∙ named_none o before p none

  pub appended_here : (p : Place) → named_of o between p ≡ times_led p r.moves + times_led p (pointers_named before.held o row)
  appended_here p = elim (cases_Bool (is_some (of_kind Data o before.held p))) [
    | inl was ↦
        let now = named_some o between p (stays p was) in
        let old = named_some o before p was in
        let counted = is.counted p in
        let named = is.appended.named p in
        omega (arith, now, old, counted, named)
    | inr not_before ↦
        let none = free_named p not_before in
        elim (cases_Bool (is_some (of_kind Data o between.held p))) [
          | inl some ↦
              let now = named_some o between p some in
              let named = is.appended.named p in
              let free : before.named p ≡ 0 = elim (cases_Bool (is_data (before.held p))) [
                | inl of_data ↦
                    let same = is.appended.stays p (data_some (before.held p) of_data) in
                    absurd (false≢true (sym not_before ∙ ap (λ (there : Option Stored). is_some (seen_as Data o there)) (sym same) ∙ some))
                | inr other ↦ let few = ltb-false 0 (before.named p) (is.names p ∙ other) in omega (arith, few)
              ] in
              omega (arith, none, now, named, free)
          | inr nothing ↦
              let now = named_none o between p nothing in
              let moves = none_led is.one o between.held r.moves p moves_led nothing in
              omega (arith, none, now, moves)
        ]
  ]
    where
      data_some : (there : Option Stored) → is_data there ≡ true → IsSome there
      data_some None of_data = of_data
      data_some (Some block) of_data = refl

  pub appended_beside : (q : ℕ) (p : Place) → (o == q) ≡ false → named_of q between p ≡ named_of q before p
  appended_beside q p beside =
      let same : of_kind Data q between.held p ≡ of_kind Data q before.held p = ap (λ (view : Place → Option (List ℕ)). view p) (is.appended.others Data q beside) in
      elim (cases_Bool (is_some (of_kind Data q between.held p))) [
        | inl some ↦
            let moves = none_led is.one o between.held r.moves p moves_led (others_data o q (between.held p) beside some) in
            let named = is.appended.named p in
            named_alike q before between p same (omega (arith, named, moves))
        | inr nothing ↦ named_none q between p nothing ∙ sym (named_none q before p (sym (ap is_some same) ∙ nothing))
      ]

  -- ---- names once they were counted anew

  -- a pointer that refers to a block of the object leads to one, once it is renamed
  goes_on : (p q : Place) → Contains (pointers_of before.held o row) (Some p) → renamed r p ≡ q → 0 < times_led q (map (renamed_slot r) (pointers_of before.held o row))
  goes_on p q among leads =
      contained_times q (map (renamed_slot r) (pointers_of before.held o row))
      (subst (λ (x : Place). Contains (map (renamed_slot r) (pointers_of before.held o row)) (Some x)) leads (contains_map (renamed_slot r) (pointers_of before.held o row) (Some p) among))

  named_before : DataIsNamed before.held o row
  named_before = data_is_named is.one before o row is.names is.stands is.counted

  old_named : (p : Place) (new : Option Place) → new_place r p ≡ new → IsSome (of_kind Data o before.held p) → 0 < times_led p (places_copied copies) + times_led p (map (renamed_slot r) (pointers_of before.held o row))
  old_named p None at some =
      let least = goes_on p p (named_before p some) (renamed_by p None at) in
      omega (arith, least)
  old_named p (Some q) at some =
      let copied = (moved_are before between between (record between { held = λ q. cond (stood_at q copies) None (between.held q) }) o copies r dropped p).0 (ap is_some at) in
      let least = contained_times p (places_copied copies) (contained_copied copies p copied) in
      omega (arith, least)

  -- each data block has a name, by a copy or by a renamed pointer
  pub all_named : (p : Place) → IsSome (of_kind Data o between.held p) → 0 < times_led p (places_copied copies) + times_led p (map (renamed_slot r) (pointers_of before.held o row))
  all_named p some = elim (cases_Bool (is_some (before.held p))) [
    | inl was ↦
        let same = is.appended.stays p was in
        old_named p (new_place r p) refl (ap (λ (there : Option Stored). is_some (seen_as Data o there)) (sym same) ∙ some)
    | inr none ↦
        let gone : before.held p ≡ None = is_none (before.held p) none in
        let new = is.appended.new p gone (seen_is_some Data o (between.held p) some) in
        let (q, goes) = from_copy before between between (record between { held = λ q. cond (stood_at q copies) None (between.held q) }) o copies r dropped p new in
        let old = (copied_is before between between (record between { held = λ q. cond (stood_at q copies) None (between.held q) }) o copies r dropped q p goes).0 in
        let least = goes_on q p (named_before q old) (renamed_by q (Some p) goes) in
        omega (arith, least)
  ]
    where
      is_none : (x : Option Stored) → is_some x ≡ false → x ≡ None
      is_none None h = refl
      is_none (Some block) h = absurd (false≢true (sym h))

  module _ (counted : Log) (counts : Recounts o between (places_copied copies ++ map (renamed_slot r) (pointers_of before.held o row)) (pointers_named before.held o row ++ r.moves) counted) where
    pub counted_here : (p : Place) → named_of o counted p ≡ times_led p (places_copied copies) + times_led p (map (renamed_slot r) (pointers_of before.held o row))
    counted_here p =
        let now = counts.here p in
        let given = times_joined p (places_copied copies) (map (renamed_slot r) (pointers_of before.held o row)) in
        let first = times_joined p (pointers_named before.held o row) r.moves in
        let was = appended_here p in
        omega (arith, now, given, first, was)

    pub counted_held : counted.held ≡ between.held
    counted_held = recounts_all o between counted (places_copied copies ++ map (renamed_slot r) (pointers_of before.held o row)) (pointers_named before.held o row ++ r.moves) counts (λ p some.
        let least = all_named p some in
        let given = times_joined p (places_copied copies) (map (renamed_slot r) (pointers_of before.held o row)) in
        let first = times_joined p (pointers_named before.held o row) r.moves in
        let was = appended_here p in
        omega (arith, least, given, first, was))

    -- ---- once the journal was written

    module _ (moved : Log) (metadata : OnlyMetadataChanged o counted.held moved.held) (named : moved.named ≡ counted.named) (rule : NamesAreOfData moved) where
      same_data : of_kind Data o moved.held ≡ of_kind Data o between.held
      same_data = metadata Data o refl ∙ ap (of_kind Data o) counted_held

      pub moved_metadata : OnlyMetadataChanged o between.held moved.held
      moved_metadata = subst (λ (view : Place → Option Stored). OnlyMetadataChanged o view moved.held) counted_held metadata

      moved_here : (p : Place) → named_of o moved p ≡ times_led p (places_copied copies) + times_led p (map (renamed_slot r) (pointers_of before.held o row))
      moved_here p = named_alike o counted moved p (ap (λ (view : Place → Option (List ℕ)). view p) (metadata Data o refl)) (ap (λ (n : Place → ℕ). n p) named) ∙ counted_here p

      pub moved_led : All (IsLed moved.held o) (places_copied copies)
      moved_led = told_led moved.held o (places_copied copies) (λ p there. subst (λ (view : Place → Option (List ℕ)). IsSome (view p)) (sym same_data) (stays p (was_copied p (copied_contained copies p there))))

      -- no renamed pointer refers to what was copied
      none_back : (p : Place) → IsCopied copies p → times_led p (map (renamed_slot r) (pointers_of before.held o row)) ≡ 0
      none_back p copied = elim (cases_lt 0 (times_led p (map (renamed_slot r) (pointers_of before.held o row)))) [
        | inl some ↦
            let (q, (among, leads)) = from_slot p (times_contained is.one p (map (renamed_slot r) (pointers_of before.held o row)) some) in
            absurd (not_back p q (new_place r q) refl leads copied)
        | inr few ↦ omega (arith, few)
      ]
        where
          not_back : (p q : Place) (new : Option Place) → new_place r q ≡ new → p ≡ renamed r q → IsCopied copies p → ⊥
          not_back p q None at leads copied =
              let same : p ≡ q = leads ∙ renamed_by q None at in
              let moves = (moved_are before between between (record between { held = λ q. cond (stood_at q copies) None (between.held q) }) o copies r dropped p).1 copied in
              false≢true (sym (ap is_some (ap (new_place r) same ∙ at)) ∙ moves)
          not_back p q (Some x) at leads copied =
              let same : p ≡ x = leads ∙ renamed_by q (Some x) at in
              let free = is.appended.fresh q.block x (move_is r q x at).1 in
              false≢true (sym (ap (λ (there : Option Stored). is_some (seen_as Data o there)) (ap before.held same ∙ free)) ∙ was_copied p copied)

      module _ (last : Log) (takes : TakesAway moved (places_copied copies) last) where
        -- what was copied is held no longer, and all else stays
        pub last_held : (q : Place) → last.held q ≡ cond (stood_at q copies) None (moved.held q)
        last_held q = elim (cases_Bool (stood_at q copies)) [
          | inl stood ↦
              let copied = stood_copied is.one q copies stood in
              let some : IsSome (of_kind Data o moved.held q) = subst (λ (view : Place → Option (List ℕ)). IsSome (view q)) (sym same_data) (stays q (was_copied q copied)) in
              let had = named_some o moved q some in
              let here = moved_here q in
              let none = none_back q copied in
              let now = takes.named q in
              let gone : last.named q ≡ 0 = omega (arith, had, here, none, now) in
              takes.held q
              ∙ cond-true (is_data (moved.held q) && last.named q == 0) None (moved.held q) (and_from (is_data (moved.held q)) (last.named q == 0) (seen_is_data o (moved.held q) some) (eq-eqb (last.named q) 0 gone))
              ∙ sym (cond-true (stood_at q copies) None (moved.held q) stood)
          | inr beside ↦
              taken_stays is.one o moved last (places_copied copies) rule moved_led takes q (λ of_data.
              let least = held_data_is_named moved rule q of_data in
              let none = not_copied q beside in
              let now = takes.named q in
              omega (arith, least, none, now))
              ∙ sym (cond-false (stood_at q copies) None (moved.held q) beside)
        ]
          where
            not_copied : (q : Place) → stood_at q copies ≡ false → times_led q (places_copied copies) ≡ 0
            not_copied q beside = elim (cases_lt 0 (times_led q (places_copied copies))) [
              | inl some ↦ absurd (false≢true (sym beside ∙ copied_stood q copies (copied_contained copies q (times_contained is.one q (places_copied copies) some))))
              | inr few ↦ omega (arith, few)
            ]

        pub names_move : NamesAreOfData last → NamesMove before o row r last
        names_move names = record {
          names = names;
          here = λ p.
              let now = taken_here is.one o moved last (places_copied copies) rule moved_led takes p in
              let had = moved_here p in
              omega (arith, now, had);
          beside = λ q p beside.
              taken_beside is.one o moved last (places_copied copies) rule moved_led takes q p beside
              ∙ named_alike q counted moved p (ap (λ (view : Place → Option (List ℕ)). view p) (metadata Data q refl)) (ap (λ (n : Place → ℕ). n p) named)
              ∙ counts.beside q p beside
              ∙ appended_beside q p beside;
        }

-- there is room for as many names more
pub renaming_room : (before between : Log) (o : ℕ) (row : Row) (copies : List CopiedBlock) (r : RenamingFields) → Copied before between o row copies r → ((p : Place) → before.named p ≤ ROW_POINTERS) → length (pointers_named before.held o row) ≤ ROW_POINTERS
    → (p : Place) → between.named p + (length copies + length (pointers_of before.held o row)) ≤ 2 * (ROW_POINTERS + PAYLOAD_BLOCKS)
renaming_room before between o row copies r is few short p =
    let was = few p in
    let named = is.appended.named p in
    let moves = times_few p r.moves in
    let size = is.appended.size in
    let both = length-append (pointers_of before.held o row) (pointers_aside before.held o row) in
    let copied = short_copies 1 copies (omega arith) is.are.ascending (λ c among. block_few c.place.block c (is.appended.each c among)) in
    omega (arith, was, named, moves, size, both, short, copied)
  where
    block_few : (n : ℕ) (c : CopiedBlock) → IsSome (move_of r n) ⊎ Contains [] c → n ≤ 15
    block_few n c given = elim given [
      | inl some ↦ within n some
      | inr left ↦ absurd (let (k, below, at) = left in omega (arith, below))
    ]
      where
        within : (n : ℕ) → IsSome (move_of r n) → n ≤ 15
        within zero some = omega arith
        within (suc n) some = elim (cases_lt n (length r.moves)) [
          | inl less ↦ let size = is.appended.size in omega (arith, less, size)
          | inr past ↦ absurd (false≢true (sym (ap is_some (get_or_past r.moves n None past)) ∙ some))
        ]
