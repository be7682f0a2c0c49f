-- How the blocks that stand change when a block is appended, becomes stale or is dropped.
use Rattle.std.proofs.Common.{◌≡◌, inl, inr, ℕ, ◌+◌, ◌≤◌, ◌<◌, true, false, List, [], ◌∷◌, Option, Some, None, is_some, sym, ap, ◌∙◌, subst, arith}
use Rattle.std.proofs.lemmas.Bool.{cases_Bool, false_from_ne_true}
use Rattle.s4_types.specs.Pointer.{Place}
use Rattle.block_log.specs.Log.{same_place}
use Rattle.block_log.proofs.Places.{one_place}
use Rattle.codec.specs.Fields.{◌>>=◌, bit}
use Rattle.codec.specs.Entry.{EntryFields}
use Rattle.codec.proofs.Fronts.{bit_most}
use Rattle.journal_chain.specs.Chain.{BlockView, Link, journal_of, places_of, times}
use Rattle.journal_chain.specs.Writing.{fields_of_block, Stands, Standing}
use Rattle.journal_chain.proofs.Places.{other_either_way, times-here, times-other, times-cons}

-- the views agree wherever one of these blocks is
abbrev pub AgreeOn : List Link → BlockView → BlockView → Type 0
AgreeOn links view later = (q : Place) → 0 < times q (places_of links) → later q ≡ view q

pub stands-agree : (o : ℕ) (view later : BlockView) (links : List Link) → AgreeOn links view later → Stands o view links → Stands o later links
stands-agree o view later [] agree s = tt
stands-agree o view later (newest ∷ older) agree s =
    let p = newest.place in
    let here : times p (p ∷ places_of older) ≡ 1 + times p (places_of older) = times-here p (places_of older) in
    let same : later p ≡ view p = agree p (omega arith) in (
      ap (λ b. b >>= journal_of o) same ∙ s.0,
      stands-agree o view later older (λ q more. agree q (let c : times q (p ∷ places_of older) ≡ bit (same_place q p) + times q (places_of older) = times-cons q p (places_of older) in omega arith)) s.1,
    )

-- one view is another with a block put at a place, or taken away
abbrev pub ChangedAt : BlockView → BlockView → Place → Option (List ℕ) → Type 0
ChangedAt view later p there = (later p ≡ there) × ((q : Place) → same_place p q ≡ false → later q ≡ view q)

-- the head becomes stale
pub head_stale : (o : ℕ) (view : BlockView) (newest : Link) (older : List Link) → Standing o view (newest ∷ older) [] → Standing o view older (newest.place ∷ [])
head_stale o view newest older s = record {
  stands = s.stands.1;
  once = λ p.
      let h = s.once p in
      let a : times p (newest.place ∷ places_of older) ≡ bit (same_place p newest.place) + times p (places_of older) = times-cons p newest.place (places_of older) in
      let b : times p (newest.place ∷ []) ≡ bit (same_place p newest.place) + times p [] = times-cons p newest.place [] in
      omega arith;
}

-- a block is put in front
pub block_put : (o : ℕ) (view later : BlockView) (links : List Link) (stale : List Place) (p : Place) (bytes : List ℕ) (entries : List EntryFields)
    → Standing o view links stale → view p ≡ None → ChangedAt view later p (Some bytes)
    → journal_of o bytes ≡ Some (fields_of_block o (record { place = p; entries = entries }) links)
    → Standing o later (record { place = p; entries = entries } ∷ links) stale
block_put o view later links stale p bytes entries s free changed spells =
    let none : bit (is_some (view p)) ≡ 0 = ap (λ b. bit (is_some b)) free in
    let one : bit (is_some (later p)) ≡ 1 = ap (λ b. bit (is_some b)) changed.0 in
    let at_p = s.once p in
    record {
      stands = (
        ap (λ b. b >>= journal_of o) changed.0 ∙ spells,
        stands-agree o view later links
            (λ q more. changed.1 q (false_from_ne_true (same_place p q) (λ (e : same_place p q ≡ true).
            let again : 0 < times p (places_of links) = subst (λ r. 0 < times r (places_of links)) (sym (one_place p q e)) more in omega arith)))
            s.stands,
      );
      once = λ q. elim (cases_Bool (same_place p q)) [
        | inl e ↦ subst (λ r. times r (p ∷ places_of links) + times r stale ≡ bit (is_some (later r))) (one_place p q e)
            (let c : times p (p ∷ places_of links) ≡ 1 + times p (places_of links) = times-here p (places_of links) in omega arith)
        | inr ne ↦ (let h = s.once q in
            let c : times q (p ∷ places_of links) ≡ times q (places_of links) = times-other q p (places_of links) (other_either_way p q ne) in
            let same : bit (is_some (later q)) ≡ bit (is_some (view q)) = ap (λ b. bit (is_some b)) (changed.1 q ne) in
            omega arith)
      ];
    }

-- the first of the stale blocks is dropped
pub stale_dropped : (o : ℕ) (view later : BlockView) (links : List Link) (stale : List Place) (p : Place)
    → Standing o view links (p ∷ stale) → ChangedAt view later p None → Standing o later links stale
stale_dropped o view later links stale p s changed =
    let none : bit (is_some (later p)) ≡ 0 = ap (λ b. bit (is_some b)) changed.0 in
    let here : times p (p ∷ stale) ≡ 1 + times p stale = times-here p stale in
    let at_p = s.once p in
    let most : bit (is_some (view p)) ≤ 1 = bit_most (is_some (view p)) in
    record {
      stands = stands-agree o view later links
          (λ q more. changed.1 q (false_from_ne_true (same_place p q) (λ (e : same_place p q ≡ true).
          let again : 0 < times p (places_of links) = subst (λ r. 0 < times r (places_of links)) (sym (one_place p q e)) more in omega arith)))
          s.stands;
      once = λ q. elim (cases_Bool (same_place p q)) [
        | inl e ↦ subst (λ r. times r (places_of links) + times r stale ≡ bit (is_some (later r))) (one_place p q e) (omega arith)
        | inr ne ↦ (let h = s.once q in
            let c : times q (p ∷ stale) ≡ times q stale = times-other q p stale (other_either_way p q ne) in
            let same : bit (is_some (later q)) ≡ bit (is_some (view q)) = ap (λ b. bit (is_some b)) (changed.1 q ne) in
            omega arith)
      ];
    }
