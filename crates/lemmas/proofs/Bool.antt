-- Lemmas about tests.
use Rattle.std.proofs.Common.{◌≡◌, Bool, true, false, ◌&&◌, ◌||◌, refl}

pub or_false : (a : Bool) → (a || false) ≡ a
or_false true = refl
or_false false = refl

pub and_false : (a : Bool) → (a && false) ≡ false
and_false true = refl
and_false false = refl

pub and_true : (a b : Bool) → b ≡ true → (a && b) ≡ a
and_true true b is = is
and_true false b is = refl

pub or_assoc : (a b c : Bool) → ((a || b) || c) ≡ (a || (b || c))
or_assoc true b c = refl
or_assoc false b c = refl

-- a disjunction under a condition, beside another one, part by part
pub or_by_parts : (a b w x y z : Bool) → x ≡ (y || z) → (((a || b) && w) || x) ≡ (((a && w) || y) || ((b && w) || z))
or_by_parts true true true x y z e = refl
or_by_parts true true false x y z e = e
or_by_parts true false true x y z e = refl
or_by_parts true false false x y z e = e
or_by_parts false true true x true z e = refl
or_by_parts false true true x false z e = refl
or_by_parts false true false x y z e = e
or_by_parts false false true x y z e = e
or_by_parts false false false x y z e = e
