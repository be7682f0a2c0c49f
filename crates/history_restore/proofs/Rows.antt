-- The objects that have a row.
use Rattle.std.proofs.Common.{◌≡◌, ◌+◌, ◌<◌, ◌≤◌, ℕ, zero, suc, List, [], ◌∷◌, length, drop, get_or, sym, subst, arith}
use Rattle.std.proofs.lemmas.List.{drop_all}
use Rattle.history_restore.specs.declared.aims.Aim.{Aim}
use Rattle.history_restore.specs.Aims.{targets_of}
use Rattle.history_restore.specs.Rows.{AscendBelow}

-- ---- numbers that ascend, one by one

pub ascend_step : (low high i o : ℕ) (d : Aim) (aims : List Aim) → i < length aims → o ≡ (get_or aims i d).target → AscendBelow low high (targets_of (drop i aims)) → (low < o) × (o < high) × AscendBelow o high (targets_of (drop (i + 1) aims))
ascend_step low high zero o d [] lt is ascend = absurd (omega arith)
ascend_step low high (suc i) o d [] lt is ascend = absurd (omega arith)
ascend_step low high zero o d (x ∷ aims) lt is ascend = subst (λ (y : ℕ). (low < y) × (y < high) × AscendBelow y high (targets_of aims)) (sym is) ascend
ascend_step low high (suc i) o d (x ∷ aims) lt is ascend =
    let next : suc (i + 1) ≡ suc i + 1 = omega arith in
    subst (λ (n : ℕ). (low < o) × (o < high) × AscendBelow o high (targets_of (drop n (x ∷ aims)))) next (ascend_step low high i o d aims (omega arith) is ascend)

ascend_back : (low high i o : ℕ) (d : Aim) (aims : List Aim) → i < length aims → o ≡ (get_or aims i d).target → low < o → o < high → AscendBelow o high (targets_of (drop (i + 1) aims)) → AscendBelow low high (targets_of (drop i aims))
ascend_back low high zero o d [] lt is above below ascend = absurd (omega arith)
ascend_back low high (suc i) o d [] lt is above below ascend = absurd (omega arith)
ascend_back low high zero o d (x ∷ aims) lt is above below ascend = subst (λ (y : ℕ). (low < y) × (y < high) × AscendBelow y high (targets_of aims)) is (above, below, ascend)
ascend_back low high (suc i) o d (x ∷ aims) lt is above below ascend =
    let next : suc i + 1 ≡ suc (i + 1) = omega arith in
    ascend_back low high i o d aims (omega arith) is above below (subst (λ (n : ℕ). AscendBelow o high (targets_of (drop n (x ∷ aims)))) next ascend)

-- The numbers ascend if those that are left do from the last one on, and only then.
pub record AscendOn (high last : ℕ) (aims left : List Aim) : Type 0 where
  pub whole : AscendBelow last high (targets_of left) → AscendBelow 0 high (targets_of aims)
  pub rest : AscendBelow 0 high (targets_of aims) → AscendBelow last high (targets_of left)

pub ascend_on : (high last i o : ℕ) (d : Aim) (aims : List Aim) → i < length aims → o ≡ (get_or aims i d).target → (last < o) × (o < high) → AscendOn high last aims (drop i aims) → AscendOn high o aims (drop (i + 1) aims)
ascend_on high last i o d aims lt is between before = record {
  whole = λ rest. before.whole (ascend_back last high i o d aims lt is between.0 between.1 rest);
  rest = λ whole. (ascend_step last high i o d aims lt is (before.rest whole)).2;
}

pub ascend_ends : (high last i o : ℕ) (d : Aim) (aims : List Aim) → i < length aims → o ≡ (get_or aims i d).target → ((last < o) × (o < high) → ⊥) → AscendOn high last aims (drop i aims) → AscendBelow 0 high (targets_of aims) → ⊥
ascend_ends high last i o d aims lt is apart before whole = let here = ascend_step last high i o d aims lt is (before.rest whole) in apart (here.0, here.1)

pub ascend_whole : (high last i : ℕ) (aims : List Aim) → length aims ≤ i → AscendOn high last aims (drop i aims) → AscendBelow 0 high (targets_of aims)
ascend_whole high last i aims over before = before.whole (subst (λ (l : List Aim). AscendBelow last high (targets_of l)) (sym (drop_all i aims over)) tt)
