use Rattle.std.proofs.Common.{◌≡◌, None, rules, sym, subst}
use Rattle.block_log.specs.Log.{dropped}
use Rattle.block_log.specs.Taken.{TakesPlaces}
use Rattle.journal_chain.proofs.Chains.{put_changes_only}
use Rattle.journal_chain.proofs.Calls.{finish_some, finish_none}
use Rattle.journal_chain.proofs.writing.finish.Goals as goal

pub returns-in-Some-clause-finished : goal.returns-in-Some-clause-finished
returns-in-Some-clause-finished g c = λ entries u.
    (finish_some (g.B.Blocks.log c.args.table.now) (g.B.Blocks.log c.write-head.new.table) (g.B.Blocks.log c.drop_block.new.self) c.write-head.result c.in-Some.old c.args.stale c.args.block.now entries
    c.in-Some.is c.write-head.ensures c.drop_block.ensures u).0

pub returns-in-Some-clause-others : goal.returns-in-Some-clause-others
returns-in-Some-clause-others g c = λ entries u.
    (finish_some (g.B.Blocks.log c.args.table.now) (g.B.Blocks.log c.write-head.new.table) (g.B.Blocks.log c.drop_block.new.self) c.write-head.result c.in-Some.old c.args.stale c.args.block.now entries
    c.in-Some.is c.write-head.ensures c.drop_block.ensures u).1.0

pub returns-in-Some-clause-named : goal.returns-in-Some-clause-named
returns-in-Some-clause-named g c = λ entries u.
    (finish_some (g.B.Blocks.log c.args.table.now) (g.B.Blocks.log c.write-head.new.table) (g.B.Blocks.log c.drop_block.new.self) c.write-head.result c.in-Some.old c.args.stale c.args.block.now entries
    c.in-Some.is c.write-head.ensures c.drop_block.ensures u).1.1

pub returns-in-Some-clause-takes : goal.returns-in-Some-clause-takes
returns-in-Some-clause-takes g c =
    let first = g.B.Blocks.log c.args.table.now in
    let between = g.B.Blocks.log c.write-head.new.table in
    subst (TakesPlaces 1 first) (sym c.drop_block.ensures)
    (g.met.B.Blocks.places_taken_add_up 1 0 first between (dropped between c.in-Some.old) c.write-head.ensures.takes (g.met.B.Blocks.a_drop_takes_no_place between c.in-Some.old))

pub returns-in_default-clause-finished : goal.returns-in_default-clause-finished
returns-in_default-clause-finished g c = λ entries u.
    let none : c.args.stale ≡ None = search rules in
    finish_none (g.B.Blocks.log c.args.table.now) (g.B.Blocks.log c.write-head.new.table) c.write-head.result c.args.stale c.args.block.now entries none c.write-head.ensures u

pub returns-in_default-clause-others : goal.returns-in_default-clause-others
returns-in_default-clause-others g c = λ entries u.
    put_changes_only (g.B.Blocks.log c.args.table.now) (g.B.Blocks.log c.write-head.new.table) c.write-head.result c.args.block.now c.write-head.ensures
