use Rattle.std.proofs.Common.{◌∙◌, ap}
use Rattle.host_calls.specs.declared.host.HostCalls.{HostCalls}
use Rattle.kept_files.proofs.Steps.{none_failed}
use Rattle.kept_files.proofs.folder.FileFolder+HostCalls.of_host.Goals as goal

pub returns-clause-sound : goal.returns-clause-sound
returns-clause-sound c = none_failed _ (ap (λ (calls : HostCalls). calls.log.events) c.new-2.ensures.calls ∙ c.new.ensures)
