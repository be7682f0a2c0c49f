use Rattle.std.proofs.Common.{arith}
use Rattle.codec.specs.Patching.{decoded}
use Rattle.codec.proofs.JournalEntries.{rules_fit}
use Rattle.codec.proofs.journal_bytes.JournalBytes.entry_bytes.Goals as goal

pub returns-clause-most : goal.returns-clause-most
returns-clause-most c = let j = decoded c.self.inside.block in omega (arith, c.told_in.ensures j c.self.invariant, rules_fit j c.self.invariant.0.0)
