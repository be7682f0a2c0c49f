use Rattle.std.proofs.Common.{◌≡◌, take}
use Rattle.clap.specs.Walk.{texts}
use Rattle.s4_command.specs.CommandLine.{AreNumbers}
use Rattle.s4_command.proofs.reading.numbers_of.Given as goal

-- the words so far, and their numbers; no fault was noted meanwhile
abbrev pub invariant-loop-word : goal.invariant-loop-word
invariant-loop-word l = AreNumbers (texts (take l.word-index l.words)) l.numbers.items × (l.noted ≡ l.initial.noted)
