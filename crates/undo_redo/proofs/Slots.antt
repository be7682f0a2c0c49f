-- Slots and attributes that are the same, and the pair of two attributes.
use Rattle.std.proofs.Common.{◌≡◌, ℕ, ◌==◌, ◌&&◌, Bool, true, false, cond, List, Option, Some, None, refl, ap, subst}
use Rattle.std.specs.Prelude.{IfSome, is_none}
use Rattle.std.specs.Cmp.Lexicographic.{pointwise}
use Rattle.std.proofs.lemmas.Bool.{and_parts, and_from, eqb-true, eq-eqb, not_from_false, both_ways}
use lib.Pointwise.{bytes_decides}
use Rattle.s4_types.specs.Pointer.{Place}
use Rattle.block_log.proofs.Places.{place_from_parts}
use Rattle.codec.specs.declared.entries.Pair.{Pair}
use Rattle.codec.specs.Entry.{same_slot, differs}
use Rattle.undo_redo.specs.Redone.{attribute_after}
use Rattle.undo_redo.specs.Between.{pair_between}

pub one_slot : (p q : Option Place) → same_slot p q ≡ true → p ≡ q
one_slot None None h = refl
one_slot None (Some q) h = absurd (both_ways false refl h)
one_slot (Some p) None h = absurd (both_ways false refl h)
one_slot (Some p) (Some q) h =
    let a = and_parts (p.frame == q.frame) (p.block == q.block && p.generation == q.generation) h in
    let b = and_parts (p.block == q.block) (p.generation == q.generation) a.1 in
    ap (λ (x : Place). Some x) (place_from_parts p q (eqb-true p.frame q.frame a.0) (eqb-true p.block q.block b.0) (eqb-true p.generation q.generation b.1))

pub same_slot_itself : (p : Option Place) → same_slot p p ≡ true
same_slot_itself None = refl
same_slot_itself (Some p) = and_from (p.frame == p.frame) (p.block == p.block && p.generation == p.generation) (eq-eqb p.frame p.frame refl) (and_from (p.block == p.block) (p.generation == p.generation) (eq-eqb p.block p.block refl) (eq-eqb p.generation p.generation refl))

pub same_slot_same : (p q : Option Place) → p ≡ q → same_slot p q ≡ true
same_slot_same p q e = subst (λ (x : Option Place). same_slot p x ≡ true) e (same_slot_itself p)

-- ---- the pair

abbrev pair_if : Bool → List ℕ → List ℕ → Option Pair
pair_if same a b = cond same None (Some (record { before = a; after = b }))

pair_if_first : (same : Bool) (a b : List ℕ) → IfSome (pair_if same a b) (λ p. a ≡ p.before)
pair_if_first true a b = tt
pair_if_first false a b = refl

pub pair_first : (a b : List ℕ) → IfSome (pair_between a b) (λ p. a ≡ p.before)
pair_first a b = pair_if_first (pointwise ◌==◌ a b) a b

pair_if_after : (same : Bool) (a b : List ℕ) → (same ≡ true → a ≡ b) → attribute_after (pair_if same a b) a ≡ b
pair_if_after true a b h = h refl
pair_if_after false a b h = refl

pub pair_after : (a b : List ℕ) → attribute_after (pair_between a b) a ≡ b
pair_after a b = pair_if_after (pointwise ◌==◌ a b) a b (bytes_decides a b).0

pair_if_differs : (same : Bool) (a b : List ℕ) → pointwise ◌==◌ a b ≡ same → differs (pair_if same a b) ≡ true
pair_if_differs true a b h = refl
pair_if_differs false a b h = not_from_false (pointwise ◌==◌ a b) h

pub pair_differs : (a b : List ℕ) → differs (pair_between a b) ≡ true
pair_differs a b = pair_if_differs (pointwise ◌==◌ a b) a b refl

pub pair_none : (a b : List ℕ) → a ≡ b → pair_between a b ≡ None
pair_none a b e = ap (λ same. pair_if same a b) ((bytes_decides a b).1 e)

pair_if_none : (same : Bool) (a b : List ℕ) → is_none (pair_if same a b) ≡ true → same ≡ true
pair_if_none true a b h = refl
pair_if_none false a b h = h

pub none_pair : (a b : List ℕ) → is_none (pair_between a b) ≡ true → a ≡ b
none_pair a b h = (bytes_decides a b).0 (pair_if_none (pointwise ◌==◌ a b) a b h)
