use Rattle.std.proofs.Common.{take}
use Rattle.std.specs.List.{AllZip}
use Rattle.clap.specs.Walk.{texts}
use Rattle.s4serve_command.specs.CommandLine.{AreApart, IsDoor, folders_of}
use Rattle.s4serve_command.proofs.doors.doors_of.Given as goal

-- the doors of the words so far, whose folders are apart
abbrev pub invariant-loop-word : goal.invariant-loop-word
invariant-loop-word l = record {
  each : AllZip IsDoor (texts (take l.word-index l.words)) l.doors.items;
  apart : AreApart (folders_of l.doors.items);
}
