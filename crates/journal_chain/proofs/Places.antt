-- One place or another, and how often a place is among places.
use Rattle.std.proofs.Common.{◌≡◌, ◌+◌, true, false, List, [], ◌∷◌, refl, ap, arith}
use Rattle.std.proofs.lemmas.Bool.{both_ways, false_from_ne_true}
use Rattle.s4_types.specs.Pointer.{Place}
use Rattle.block_log.specs.Log.{same_place}
use Rattle.block_log.proofs.Places.{same_place_itself, same_place_back}
use Rattle.codec.specs.Fields.{bit}
use Rattle.journal_chain.specs.Chain.{times}

pub other_either_way : (p q : Place) → same_place p q ≡ false → same_place q p ≡ false
other_either_way p q h = false_from_ne_true (same_place q p) (λ (e : same_place q p ≡ true). both_ways (same_place p q) h (same_place_back q p e))

pub times-here : (p : Place) (places : List Place) → times p (p ∷ places) ≡ 1 + times p places
unfolding times
times-here p places = ap (λ b. bit b + times p places) (same_place_itself p)

pub times-other : (p q : Place) (places : List Place) → same_place p q ≡ false → times p (q ∷ places) ≡ times p places
unfolding times
times-other p q places h =
    let e : bit (same_place p q) ≡ 0 = ap bit h in
    omega arith

pub times-none : (p : Place) → times p [] ≡ 0
unfolding times
times-none p = refl

pub times-cons : (p q : Place) (places : List Place) → times p (q ∷ places) ≡ bit (same_place p q) + times p places
unfolding times
times-cons p q places = refl
