use Rattle.std.proofs.Common.{◌≡◌, filter, map, take}
use Rattle.std.specs.Prelude.{nat_lt}
use Rattle.codec.specs.Entry.{EntryFields}
use Rattle.history_restore.proofs.room.begun_after.Given as goal

-- the moments after the given one of the entries so far
abbrev pub invariant-loop-entry : goal.invariant-loop-entry
invariant-loop-entry l = l.begun.items ≡ filter (nat_lt l.at) (map (λ (e : EntryFields). e.moment) (take l.entry-index l.entries))
