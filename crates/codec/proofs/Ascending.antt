-- Testing triples one after the other, as a loop does.
use Rattle.std.proofs.Common.{◌≡◌, ℕ, suc, ◌+◌, ◌≤◌, ◌<◌, true, false, ltb, leb, ◌&&◌, List, length, get_or, drop, refl, add-one, drop-cons}
use Rattle.std.specs.Prelude.{not}
use Rattle.std.proofs.lemmas.List.{drop_all}
use Rattle.s4_types.specs.declared.limits.TheConstants.{OBJECT_BLOCKS}
use Rattle.codec.specs.Entry.{ascend_from, same_slot}
use Rattle.codec.specs.declared.entries.Triple.{Triple}

module _ (low i : ℕ) (triples : List Triple) (t : Triple) where
  pub ascend_on : i < length triples → t ≡ get_or triples i t → (leb low t.index && (ltb t.index OBJECT_BLOCKS && not (same_slot t.before t.after))) ≡ true → ascend_from low (drop i triples) ≡ ascend_from (t.index + 1) (drop (i + 1) triples)
  unfolding ascend_from
  ascend_on lt is may = let next : i + 1 ≡ suc i = add-one i in rw (drop-cons triples i t lt, ← is, may, next) refl

  pub ascend_bad : i < length triples → t ≡ get_or triples i t → (leb low t.index && (ltb t.index OBJECT_BLOCKS && not (same_slot t.before t.after))) ≡ false → ascend_from low (drop i triples) ≡ false
  unfolding ascend_from
  ascend_bad lt is may = rw (drop-cons triples i t lt, ← is, may) refl

pub ascend_end : (low i : ℕ) (triples : List Triple) → length triples ≤ i → ascend_from low (drop i triples) ≡ true
unfolding ascend_from
ascend_end low i triples le = rw (drop_all i triples le) refl
