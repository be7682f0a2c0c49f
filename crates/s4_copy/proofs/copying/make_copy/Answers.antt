use Rattle.std.proofs.Common.{◌≡◌, ◌∙◌, List, ℕ, sym, ap, subst}
use Rattle.std.proofs.lemmas.Result.{err_from_is_err_and}
use Rattle.s4_copy.specs.Copying.{IsMade}
use Rattle.s4_copy.specs.Failures.{SaysUnmade}
use Rattle.s4_copy.proofs.Failing.{unprinted_memory, unprinted_unmade, unprinted_unsplit, unprinted_unwritten}
use Rattle.s4_copy.proofs.copying.make_copy.Goals as goal

pub returns-in_err-bytes-clause-refused : goal.returns-in_err-bytes-clause-refused
returns-in_err-bytes-clause-refused g c =
    let p = err_from_is_err_and c.from_residual.result c.from_residual.ensures.1 in
    rw p.1 (unprinted_unsplit _ c.args.asked.now _ _ c.in_err-bytes.field-0.0 p.0 p.2 c.in_err-bytes.ensures.fault)

pub returns-in_err-made-clause-refused : goal.returns-in_err-made-clause-refused
returns-in_err-made-clause-refused g c =
    let p = err_from_is_err_and c.from_residual-in_err-made.result c.from_residual-in_err-made.ensures.1 in
    let asked = c.args.asked.now in
    let failure = c.in_err-made.field-0.0 in
    rw (p.1, p.2) (unprinted_unmade _ asked c.in_ok-bytes.bytes.items _ _ failure c.in_ok-bytes.ensures.bytes
    (subst (λ (bytes : List ℕ). SaysUnmade asked bytes failure) c.as_slice.ensures.value c.in_err-made.ensures.refused))

pub returns-in_err-text-clause-refused : goal.returns-in_err-text-clause-refused
returns-in_err-text-clause-refused g c =
    let p = err_from_is_err_and c.from_residual-in_err-text.result c.from_residual-in_err-text.ensures.1 in
    rw p.1 (unprinted_memory _ c.args.asked.now _ _ p.0 p.2)

pub returns-in_err-write_out-clause-refused : goal.returns-in_err-write_out-clause-refused
returns-in_err-write_out-clause-refused g c =
    let p = err_from_is_err_and c.from_residual-in_err-write_out.result c.from_residual-in_err-write_out.ensures.1 in
    rw p.1 (unprinted_unwritten _ c.args.asked.now _ _ _ c.in_err-write_out.field-0.0 p.0 p.2 c.drive_opened.ensures.failures c.in_err-write_out.ensures.fault)
