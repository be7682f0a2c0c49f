use Rattle.std.proofs.Common.{◌≡◌, ◌++◌, take, string_bytes}
use Rattle.std.specs.List.{flat_map}
use Rattle.history_report.specs.Page.{page_text}
use Rattle.history_report.specs.Timeline.{run_mark}
use Rattle.history_report.proofs.marks.push_runs.Given as goal

-- the runs so far have their marks
abbrev pub invariant-loop-run : goal.invariant-loop-run
invariant-loop-run l = string_bytes l.text ≡ string_bytes l.initial.text ++ page_text (flat_map (run_mark l.scale l.object) (take l.run-index l.runs))
