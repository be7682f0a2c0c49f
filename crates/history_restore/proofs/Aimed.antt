-- The numbers under which objects are restored.
use Rattle.std.proofs.Common.{◌≡◌, ◌∙◌, ◌+◌, ◌<◌, ◌≤◌, ℕ, Bool, true, false, cond, zero, suc, List, [], ◌∷◌, length, drop, get_or, refl, ap, subst, arith}
use Rattle.std.proofs.lemmas.Bool.{ne_eqb, eq-eqb}
use Rattle.std.proofs.lemmas.List.{drop_all}
use Rattle.s4_model.specs.State.{State}
use Rattle.history_restore.specs.declared.aims.StandIn.{StandIn}
use Rattle.history_restore.specs.Aims.{counting, counts, object_for}

-- ---- one by one

-- the object of a number is that by the stand-ins that are left
pub object_next : (stand_ins : List StandIn) (i : ℕ) (d : StandIn) (n : ℕ) → i < length stand_ins → ((get_or stand_ins i d).number ≡ n → ⊥) → object_for (drop i stand_ins) n ≡ object_for (drop (i + 1) stand_ins) n
object_next [] i d n lt apart = absurd (omega arith)
object_next (l ∷ stand_ins) zero d n lt apart = ap (λ (b : Bool). cond b l.object (object_for stand_ins n)) (ne_eqb l.number n apart)
object_next (l ∷ stand_ins) (suc i) d n lt apart =
    let next : suc (i + 1) ≡ suc i + 1 = omega arith in
    subst (λ (k : ℕ). object_for (drop i stand_ins) n ≡ object_for (drop k (l ∷ stand_ins)) n) next (object_next stand_ins i d n (omega arith) apart)

pub object_here : (stand_ins : List StandIn) (i : ℕ) (d : StandIn) (n : ℕ) → i < length stand_ins → (get_or stand_ins i d).number ≡ n → object_for (drop i stand_ins) n ≡ (get_or stand_ins i d).object
object_here [] i d n lt is = absurd (omega arith)
object_here (l ∷ stand_ins) zero d n lt is = ap (λ (b : Bool). cond b l.object (object_for stand_ins n)) (eq-eqb l.number n is)
object_here (l ∷ stand_ins) (suc i) d n lt is = object_here stand_ins i d n (omega arith) is

pub object_own : (stand_ins : List StandIn) (i n : ℕ) → length stand_ins ≤ i → object_for (drop i stand_ins) n ≡ n
object_own stand_ins i n over = ap (λ (l : List StandIn). object_for l n) (drop_all i stand_ins over)

pub counted_own : (s : State) (at : ℕ) (stand_ins : List StandIn) (i n : ℕ) → length stand_ins ≤ i → object_for (counting s at (drop i stand_ins)) n ≡ n
counted_own s at stand_ins i n over = ap (λ (l : List StandIn). object_for (counting s at l) n) (drop_all i stand_ins over)

-- the same by those that count
counting_either : (b : Bool) (l : StandIn) (rest : List StandIn) (n : ℕ) → (l.number ≡ n → b ≡ true → ⊥) → object_for (cond b (l ∷ rest) rest) n ≡ object_for rest n
counting_either true l rest n apart = ap (λ (b : Bool). cond b l.object (object_for rest n)) (ne_eqb l.number n (λ same. apart same refl))
counting_either false l rest n apart = refl

pub counted_next : (s : State) (at : ℕ) (stand_ins : List StandIn) (i : ℕ) (d : StandIn) (n : ℕ) → i < length stand_ins → ((get_or stand_ins i d).number ≡ n → counts s at (get_or stand_ins i d) ≡ true → ⊥)
    → object_for (counting s at (drop i stand_ins)) n ≡ object_for (counting s at (drop (i + 1) stand_ins)) n
counted_next s at [] i d n lt apart = absurd (omega arith)
counted_next s at (l ∷ stand_ins) zero d n lt apart = counting_either (counts s at l) l (counting s at stand_ins) n apart
counted_next s at (l ∷ stand_ins) (suc i) d n lt apart =
    let next : suc (i + 1) ≡ suc i + 1 = omega arith in
    subst (λ (k : ℕ). object_for (counting s at (drop i stand_ins)) n ≡ object_for (counting s at (drop k (l ∷ stand_ins))) n) next (counted_next s at stand_ins i d n (omega arith) apart)

pub counted_here : (s : State) (at : ℕ) (stand_ins : List StandIn) (i : ℕ) (d : StandIn) (n : ℕ) → i < length stand_ins → (get_or stand_ins i d).number ≡ n → counts s at (get_or stand_ins i d) ≡ true
    → object_for (counting s at (drop i stand_ins)) n ≡ (get_or stand_ins i d).object
counted_here s at [] i d n lt is counted = absurd (omega arith)
counted_here s at (l ∷ stand_ins) zero d n lt is counted =
    ap (λ (b : Bool). object_for (cond b (l ∷ counting s at stand_ins) (counting s at stand_ins)) n) counted
    ∙ ap (λ (b : Bool). cond b l.object (object_for (counting s at stand_ins) n)) (eq-eqb l.number n is)
counted_here s at (l ∷ stand_ins) (suc i) d n lt is counted = counted_here s at stand_ins i d n (omega arith) is counted
