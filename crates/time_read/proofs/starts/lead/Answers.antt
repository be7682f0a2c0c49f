use Rattle.std.proofs.Common.{sym, subst, arith}
use Rattle.codec.specs.declared.inodes.Inode.{Inode}
use Rattle.undo_redo.specs.Runs.{Run}
use Rattle.time_read.specs.Orderly.{inode_behind}
use Rattle.time_read.proofs.Leading.{between, run_between}
use Rattle.time_read.proofs.starts.lead.Goals as goal

pub returns-else-from-to : goal.returns-else-from-to
returns-else-from-to c = λ first last run was.
    let past = c.if-from-to.false in
    c.undo_all.ensures.only (inode_behind first c.args.entries.now c.args.to)
    (subst (λ (i : Inode). Run (inode_behind first c.args.entries.now c.args.to) (between c.args.entries.now c.args.to c.args.from) i) (sym was)
    (run_between c.entries_determine_a_run.ensures.part c.entries_determine_a_run.ensures.joined c.args.entries.now c.args.to c.args.from first last (omega (arith, past)) run))
