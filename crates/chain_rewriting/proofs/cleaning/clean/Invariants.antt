use Rattle.std.proofs.Common.{drop}
use Rattle.chain_rewriting.proofs.Leading.{Walks}
use Rattle.chain_rewriting.proofs.cleaning.clean.Given as goal

abbrev pub invariant-loop-entry : goal.invariant-loop-entry
invariant-loop-entry g l = Walks (g.S.Sees.sees l.seen) l.fn.clock l.fn.first l.entries l.kept l.live l.inode l.from (drop l.entry-index l.entries)
