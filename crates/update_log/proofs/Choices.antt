-- What a test says.
use Rattle.std.proofs.Common.{◌≡◌, Bool, true, false, sym, subst}
use Rattle.std.specs.Bool.{MatchBool}

apart : false ≡ true → ⊥
apart e = subst (λ (b : Bool). MatchBool b ⊥ (Unit {0})) e tt

pub if_true : (b : Bool) (P Q : Type 0) → MatchBool b P Q → b ≡ true → P
if_true true P Q h e = h
if_true false P Q h e = absurd (apart e)

pub if_false : (b : Bool) (P Q : Type 0) → MatchBool b P Q → b ≡ false → Q
if_false false P Q h e = h
if_false true P Q h e = absurd (apart (sym e))
