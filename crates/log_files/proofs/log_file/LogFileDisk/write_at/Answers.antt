use Rattle.std.proofs.Common.{refl}
use Rattle.log_files.proofs.Steps.{ok_map}
use Rattle.log_files.proofs.Writing.{holds_all, torn_left}
use Rattle.log_files.proofs.log_file.LogFileDisk.write_at.Goals as goal

pub returns-clause-written : goal.returns-clause-written
returns-clause-written g c = rw c.count.ensures.same (ok_map c.write_all-outcome.result _ _ (λ so some. holds_all _ _ _ _ _ refl so some) c.write_all-outcome.ensures.written)

pub returns-clause-crash : goal.returns-clause-crash
returns-clause-crash g c = torn_left c.args.at c.args.bytes.now _ _ c.write_all-outcome.ensures.overlays
