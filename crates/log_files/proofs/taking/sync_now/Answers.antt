use Rattle.std.specs.Prelude.{is_ok}
use Rattle.log_files.proofs.Calling.{calls_sync}
use Rattle.log_files.proofs.Steps.{ok_then, synced_now}
use Rattle.log_files.proofs.Writing.{keeps, lasts}
use Rattle.log_files.proofs.taking.sync_now.Goals as goal

pub returns-clause-keeps : goal.returns-clause-keeps
returns-clause-keeps g c = λ writes sound.
    let so = rw (c.in-Some.is, c.if-is_torn.false) at sound in
    rw (c.in-Some.is, synced_now _ _ writes _ _ c.sync.ensures) (keeps (is_ok c.sync.result) _ so)

pub returns-clause-lasts : goal.returns-clause-lasts
returns-clause-lasts g c = ok_then c.sync.result _ (λ ok writes sound.
    let so = rw (c.in-Some.is, c.if-is_torn.false) at sound in
    let noted = rw ok at c.sync.ensures in
    rw (c.in-Some.is, c.if-is_torn.false, synced_now _ _ writes _ _ noted) (lasts _ so))

pub returns-clause-calls : goal.returns-clause-calls
returns-clause-calls g c = rw c.in-Some.is (calls_sync _ _ _ _ c.sync.ensures)
