-- Lemmas about results.
use Rattle.std.proofs.Common.{Result, Ok, Err, OnErr}

-- what holds anyway holds where there is an error
pub OnErr_from : {A E P : Type 0} (r : Result A E) → P → OnErr r P
OnErr_from (Ok x) p = tt
OnErr_from (Err e) p = p
