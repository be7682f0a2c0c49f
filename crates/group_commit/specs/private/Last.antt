-- What is waited for at the end of a service.
use Rattle.std.specs.Prelude.{Bool, is_some}
use Rattle.group_commit.specs.private.Ending.{may_end}
use Rattle.group_commit.specs.declared.progress.Progress.{Progress}

-- by the struct, it may end
abbrev pub may_end_by : {T S : Type 0} → Progress T S → Bool
may_end_by p = may_end p.has_failed (is_some p.stopped_by) p.is_flushing p.due p.sending
