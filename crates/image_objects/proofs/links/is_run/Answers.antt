use Rattle.std.proofs.Common.{◌+◌, take, sym, ◌∙◌}
use Rattle.undo_redo.specs.Linked.{Linked}
use Rattle.undo_redo.specs.Runs.{Run}
use Rattle.image_objects.proofs.Running.{run_more, run_whole, stands_there}
use Rattle.image_objects.proofs.links.is_run.Goals as goal

pub loop-entry-preserved : goal.loop-entry-preserved
loop-entry-preserved c =
    let i = c.loop-entry.entry-index in
    let first = c.args.first.now in
    let entries = c.args.entries.now in
    let link : Linked c.loop-entry.inode c.entry-item.result c.redo.new.inode = c.redo.ensures.link (c.stands_before.ensures.stands c.if-not-stands_before.false) in
    let run : Run first (take (i + 1) entries) c.redo.new.inode = run_more c.entries_determine_a_run.ensures.join first c.loop-entry.inode c.redo.new.inode entries i c.entry-item.result c.loop-entry-test.true c.entry-item.is c.loop-entry.invariant.run link in
    record {
      run = run;
      is = c.entries_determine_a_run.ensures.end first c.redo.new.inode (take (i + 1) entries) run;
      count = link.count_after;
    }

pub returns-then-not-stands_before-clause-only : goal.returns-then-not-stands_before-clause-only
returns-then-not-stands_before-clause-only c = λ last r.
    sym c.if-not-stands_before.true
    ∙ c.stands_before.ensures.only (stands_there c.entries_determine_a_run.ensures.part c.a_link_is_an_entry_redone_or_undone.ensures.forth c.args.first.now last c.loop-entry.inode c.args.entries.now c.loop-entry.entry-index c.entry-item.result c.loop-entry-test.true c.entry-item.is c.loop-entry.invariant.is r)

pub returns-clause-run : goal.returns-clause-run
returns-clause-run c = λ good. run_whole c.args.first.now c.loop-entry.inode c.args.entries.now c.loop-entry.entry-index c.loop-entry-test.false c.loop-entry.invariant.run c.loop-entry.invariant.is
