use Rattle.std.proofs.Common.{◌≡◌, take}
use Rattle.chain_rewriting.specs.Renaming.{renamed_entries}
use Rattle.chain_rewriting.proofs.renaming.Renaming.rename_entries.Given as goal

abbrev pub invariant-loop-entry : goal.invariant-loop-entry
invariant-loop-entry l = l.renamed.items ≡ renamed_entries l.self (take l.entry-index l.entries)
