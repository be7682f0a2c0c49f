use Rattle.std.proofs.Common.{◌≡◌, ◌++◌}
use Rattle.chain_rewriting.proofs.cleaning.append.Given as goal

abbrev pub invariant-loop-entry : goal.invariant-loop-entry
invariant-loop-entry l = l.entries.items ++ l.entry-iterator ≡ l.fn.entries.items ++ l.fn.more
