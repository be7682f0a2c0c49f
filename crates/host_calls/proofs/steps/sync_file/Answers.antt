use Rattle.std.proofs.Common.{true}
use Rattle.host_calls.proofs.Effects.{replayed, sync_keeps}
use Rattle.host_calls.proofs.steps.sync_file.Goals as goal

pub returns-clause-kept : goal.returns-clause-kept
returns-clause-kept g c = λ path bytes has. rw (replayed _ _ _ c.in_ok-sync.ensures) (sync_keeps _ true _ path bytes has)
