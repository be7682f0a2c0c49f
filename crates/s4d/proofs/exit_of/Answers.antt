use Rattle.std.proofs.Common.{rules, ◌≡◌, None, inl, inr, refl}
use Rattle.std.specs.Process.{exit_status}
use Rattle.s4d.specs.declared.faults.Undone.TheVariants as undone
use Rattle.s4d.proofs.exit_of.Goals as goal

-- memory was short for the thread of the run
pub returns-in-Err-clause-undone : goal.returns-in-Err-clause-undone
returns-in-Err-clause-undone g c = λ failed.
    let one : exit_status c.from-in-Err.result ≡ 1 = search rules in
    (None, None, 0, record { why = undone.NoMemory; is = one; says = inr (inl refl) })
