use Rattle.std.proofs.Common.{ℕ, ◌<◌, get_or}
use Rattle.s4d.proofs.session_files.is_one_written.Given as goal

-- none of the outputs so far is this one
abbrev pub invariant-loop-session : goal.invariant-loop-session
invariant-loop-session g l = (i : ℕ) (d : _) → i < l.session-index → g.F.Files.apart (get_or l.sessions i d).output.now l.output
