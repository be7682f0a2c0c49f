-- As far as the loop has come, the two lists have the same items.
use Rattle.std.proofs.Common.{◌≡◌, take}
use Rattle.history_cleaner.proofs.entries.are_same.Given as goal

abbrev pub invariant-loop-i : goal.invariant-loop-i
invariant-loop-i l = take l.i l.entries ≡ take l.i l.others
