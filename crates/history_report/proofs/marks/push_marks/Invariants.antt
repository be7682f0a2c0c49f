use Rattle.std.proofs.Common.{◌≡◌, ◌++◌, take, string_bytes}
use Rattle.std.specs.List.{flat_map}
use Rattle.history_report.specs.Page.{page_text}
use Rattle.history_report.specs.Timeline.{change_marks}
use Rattle.history_report.proofs.marks.push_marks.Given as goal

-- the changes so far have their marks
abbrev pub invariant-loop-change : goal.invariant-loop-change
invariant-loop-change l = string_bytes l.text ≡ string_bytes l.initial.text ++ page_text (flat_map (change_marks l.scale l.object) (take l.change-index l.changes))
