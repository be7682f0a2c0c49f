use Rattle.journal_chain.proofs.Afresh.{drop_some}
use Rattle.journal_chain.proofs.rewriting.drop_one.Goals as goal

pub returns-in-Some-clause-finished : goal.returns-in-Some-clause-finished
returns-in-Some-clause-finished g c = λ o stale head entries f.
    (drop_some (g.B.Blocks.log c.args.table.now) (g.B.Blocks.log c.drop_block.new.self) c.in-Some.place c.args.place o stale head entries c.in-Some.is c.drop_block.ensures f).0

pub returns-in-Some-clause-others : goal.returns-in-Some-clause-others
returns-in-Some-clause-others g c = λ o stale head entries f.
    (drop_some (g.B.Blocks.log c.args.table.now) (g.B.Blocks.log c.drop_block.new.self) c.in-Some.place c.args.place o stale head entries c.in-Some.is c.drop_block.ensures f).1.0

pub returns-in-Some-clause-named : goal.returns-in-Some-clause-named
returns-in-Some-clause-named g c = λ o stale head entries f.
    (drop_some (g.B.Blocks.log c.args.table.now) (g.B.Blocks.log c.drop_block.new.self) c.in-Some.place c.args.place o stale head entries c.in-Some.is c.drop_block.ensures f).1.1
