use Rattle.std.specs.Prelude.{is_ok}
use Rattle.log_files.proofs.Calling.{calls_cut}
use Rattle.log_files.proofs.Steps.{cut_now, ok_then}
use Rattle.log_files.proofs.Writing.{cuts, has_cut}
use Rattle.log_files.proofs.taking.cut_at.Goals as goal

pub returns-clause-cuts : goal.returns-clause-cuts
returns-clause-cuts g c = λ writes.
    rw (c.in-Some.is, cut_now _ _ _ writes _ _ c.set_len.ensures) (cuts c.args.len (is_ok c.set_len.result) _)

pub returns-clause-cut : goal.returns-clause-cut
returns-clause-cut g c = ok_then c.set_len.result _ (λ ok writes.
    let noted = rw ok at c.set_len.ensures in
    rw (c.in-Some.is, cut_now _ _ _ writes _ _ noted) (has_cut c.args.len _))

pub returns-clause-calls : goal.returns-clause-calls
returns-clause-calls g c = rw c.in-Some.is (calls_cut _ _ _ _ _ c.set_len.ensures)
