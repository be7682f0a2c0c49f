-- What follows from what a call answers.
use Rattle.std.proofs.Common.{Result, Ok, Err, IfOk}

-- what follows from two facts of the value
pub both_ok : {A E : Type 0} (P Q R : A → Type 0) (result : Result A E) → ((value : A) → P value → Q value → R value) → IfOk result P → IfOk result Q → IfOk result R
both_ok P Q R (Ok value) f one other = f value one other
both_ok P Q R (Err error) f one other = tt
