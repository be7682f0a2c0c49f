-- A value that a map has, and what follows of it.
use Rattle.std.proofs.Common.{Option, Some, None, IfSome}

-- what follows of a value, where one is found
pub if_found : {X : Type 0} (P Q : X → Type 0) (found : Option X) → ((x : X) → P x → Q x) → IfSome found P → IfSome found Q
if_found P Q None f is = is
if_found P Q (Some x) f is = f x is
