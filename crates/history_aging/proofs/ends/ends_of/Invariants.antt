use Rattle.std.proofs.Common.{◌≡◌, map, filter, take}
use Rattle.codec.specs.Entry.{EntryFields}
use Rattle.drive.specs.Fields.{state_in}
use Rattle.history_aging.specs.Ends.{ends_readable}
use Rattle.history_aging.proofs.ends.ends_of.Given as goal

-- the moments of the entries so far
abbrev pub invariant-loop-entry : goal.invariant-loop-entry
invariant-loop-entry g l = l.ends.items ≡ map (λ (e : EntryFields). e.moment) (filter (ends_readable (state_in l.drive) l.object) (take l.entry-index l.entry-items))
