-- Which blocks an entry leaves as they are.
use Rattle.std.proofs.Common.{◌≡◌, ◌≢◌, ◌∙◌, ◌+◌, ◌<◌, ◌≤◌, ◌==◌, ◌&&◌, ℕ, true, not, List, [], ◌∷◌, Option, nat_le, nat_lt, inl, inr, refl, sym, ap, arith}
use Rattle.std.proofs.lemmas.Bool.{leb-true, and_parts, cond-false, ne_eqb}
use Rattle.s4_types.specs.Pointer.{Place}
use Rattle.s4_types.specs.declared.limits.TheConstants.{OBJECT_BLOCKS}
use Rattle.codec.specs.Checkpoint.{pointer_at}
use Rattle.codec.specs.declared.entries.Status.{Status}
use Rattle.codec.specs.declared.entries.Triple.{Triple}
use Rattle.codec.specs.Entry.{ascend_from, same_slot}
use Rattle.undo_redo.specs.Linked.{pointer_after}
use Rattle.time_read.proofs.Undone.{triples_ascend}
use Rattle.history_view.specs.Changes.{last_index, blocks_of, IsOutside, AllElseStays, SizesAreTold}

-- ascending indices begin with one that isn't below the given one, and go on after it
ascends_on : (low : ℕ) (t : Triple) (triples : List Triple) → ascend_from low (t ∷ triples) ≡ true → (low ≤ t.index) × (ascend_from (t.index + 1) triples ≡ true)
unfolding ascend_from
ascends_on low t triples is =
    let both = and_parts (nat_le low t.index && (nat_lt t.index OBJECT_BLOCKS && not (same_slot t.before t.after))) (ascend_from (t.index + 1) triples) is in
    (leb-true low t.index (and_parts (nat_le low t.index) (nat_lt t.index OBJECT_BLOCKS && not (same_slot t.before t.after)) both.0).0, both.1)

-- a triple of another index leaves a pointer
left_by : (t : Triple) (triples : List Triple) (n : ℕ) (p : Option Place) → t.index ≢ n → pointer_after triples n p ≡ p → pointer_after (t ∷ triples) n p ≡ p
left_by t triples n p apart rest = ap (pointer_after triples n) (cond-false (t.index == n) t.after p (ne_eqb t.index n apart)) ∙ rest

-- pointers below the first index stay
below_stays : (low : ℕ) (triples : List Triple) (n : ℕ) (p : Option Place) → ascend_from low triples ≡ true → n < low → pointer_after triples n p ≡ p
below_stays low [] n p ascends below = refl
below_stays low (t ∷ triples) n p ascends below =
    let on = ascends_on low t triples ascends in
    left_by t triples n p (λ same. absurd (omega (arith, same, on.0))) (below_stays (t.index + 1) triples n p on.1 (omega (arith, on.0)))

-- the last index isn't below the first
last_is_behind : (first : ℕ) (triples : List Triple) → ascend_from (first + 1) triples ≡ true → first ≤ last_index first triples
last_is_behind first [] ascends = omega arith
last_is_behind first (t ∷ triples) ascends =
    let on = ascends_on (first + 1) t triples ascends in omega (arith, on.0, last_is_behind t.index triples on.1)

-- pointers past the last index stay
beyond_stays : (low given : ℕ) (triples : List Triple) (n : ℕ) (p : Option Place) → ascend_from low triples ≡ true → last_index given triples < n → pointer_after triples n p ≡ p
beyond_stays low given [] n p ascends beyond = refl
beyond_stays low given (t ∷ triples) n p ascends beyond =
    let on = ascends_on low t triples ascends in
    left_by t triples n p (λ same. absurd (omega (arith, same, beyond, last_is_behind t.index triples on.1))) (beyond_stays (t.index + 1) t.index triples n p on.1 beyond)

-- pointers of no block that is told stay
outside_stays : (triples : List Triple) (n : ℕ) (p : Option Place) → ascend_from 0 triples ≡ true → IsOutside n (blocks_of triples) → pointer_after triples n p ≡ p
outside_stays [] n p ascends outside = refl
outside_stays (t ∷ triples) n p ascends (inl below) =
    let on = ascends_on 0 t triples ascends in left_by t triples n p (λ same. absurd (omega (arith, same, below))) (below_stays (t.index + 1) triples n p on.1 (omega (arith, below)))
outside_stays (t ∷ triples) n p ascends (inr beyond) = beyond_stays 0 0 (t ∷ triples) n p ascends beyond

pub all_else_stays : AllElseStays
all_else_stays i j e linked rules n below outside = linked.forth n below ∙ outside_stays e.triples n (pointer_at i n) (triples_ascend e rules) outside

pub sizes_are_told : SizesAreTold
sizes_are_told i j e linked = (sym (ap (λ (s : Status). s.size) linked.status_before), sym (ap (λ (s : Status). s.size) linked.status_after))
