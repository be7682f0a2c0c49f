use Rattle.std.proofs.Common.{take}
use Rattle.std.specs.List.{AllZip}
use Rattle.clap.specs.Walk.{texts}
use Rattle.s4d_command.specs.CommandLine.{SpellsSession}
use Rattle.s4d_command.proofs.sessions.sessions_in.Given as goal

-- the words so far, and their sessions
abbrev pub invariant-loop-word : goal.invariant-loop-word
invariant-loop-word l = AllZip SpellsSession (texts (take l.word-index l.words)) l.sessions.items
