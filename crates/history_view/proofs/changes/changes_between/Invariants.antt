use Rattle.std.proofs.Common.{◌≡◌, map, filter, take}
use Rattle.drive.specs.Fields.{state_in}
use Rattle.history_view.specs.Changes.{change_of, is_asked}
use Rattle.history_view.proofs.changes.changes_between.Given as goal

-- the changes of the entries so far
abbrev pub invariant-loop-entry : goal.invariant-loop-entry
invariant-loop-entry g l = l.changes.items ≡ map change_of (filter (is_asked (state_in l.drive) l.object l.since l.until) (take l.entry-index l.entry-items))
