use Rattle.std.proofs.Common.{ℕ, ◌<◌, get_or}
use Rattle.s4d.proofs.session_files.is_one_read.Given as goal

-- none of the inputs so far is the output
abbrev pub invariant-loop-session : goal.invariant-loop-session
invariant-loop-session g l = (i : ℕ) (d : _) → i < l.session-index → g.F.Files.apart (get_or l.sessions i d).input.now l.output
