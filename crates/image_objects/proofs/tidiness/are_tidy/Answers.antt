use Rattle.std.proofs.Common.{ℕ, ◌+◌, ◌<◌, length, sym, ap, ◌∙◌, subst}
use Rattle.codec.specs.declared.inodes.Inode.{Inode}
use Rattle.inode.specs.Contents.{contents_of}
use Rattle.inode.specs.Tidiness.{Tidy}
use Rattle.undo_redo.proofs.ComposeLaws.{redone_count}
use Rattle.image_objects.proofs.Moments.{begun, judged_more, next_holds, last_holds, all_hold, Judged}
use Rattle.image_objects.proofs.tidiness.are_tidy.Goals as goal

pub loop-entry-init : goal.loop-entry-init
loop-entry-init g c = record {
  judged = begun (Tidy (contents_of (g.U.UsedBlocks.used c.args.used.now))) c.args.first.now c.args.entries.now c.new-since.result c.new-since.ensures;
  count = c.requires.count;
}

pub returns-then-not-stands_tidily-clause-only : goal.returns-then-not-stands_tidily-clause-only
returns-then-not-stands_tidily-clause-only g c = λ h.
    let l = c.loop-entry in
    let P = Tidy (contents_of (g.U.UsedBlocks.used c.args.used.now)) in
    sym c.if-not-stands_tidily.true
    ∙ c.stands_tidily.ensures.only (λ before.
    next_holds P c.args.first.now c.args.entries.now l.entry-index l.since l.inode c.entry-item.result c.loop-entry-test.true c.entry-item.is (c.groups_part_at_a_moment.ensures.ascend c.args.entries.now c.requires.groups) l.invariant.judged h
    (subst (λ (n : ℕ). l.since < n) c.moment.ensures before))

pub loop-entry-preserved : goal.loop-entry-preserved
loop-entry-preserved g c =
    let l = c.loop-entry in
    let P = Tidy (contents_of (g.U.UsedBlocks.used c.args.used.now)) in
    record {
      judged = subst (λ (n : ℕ). Judged P c.args.first.now c.args.entries.now (l.entry-index + 1) n c.redo.new.inode) (sym c.moment-since.ensures)
          (judged_more P c.args.first.now c.args.entries.now l.entry-index l.since l.inode c.redo.new.inode c.entry-item.result c.loop-entry-test.true c.entry-item.is c.redo.ensures.exact l.invariant.judged
          (λ before. c.stands_tidily.ensures.is c.if-not-stands_tidily.false (subst (λ (n : ℕ). l.since < n) (sym c.moment.ensures) before)));
      count = ap (λ (i : Inode). length i.pointers) c.redo.ensures.exact ∙ redone_count c.entry-item.result l.inode ∙ l.invariant.count;
    }

pub returns-clause-is : goal.returns-clause-is
returns-clause-is g c = λ good.
    let l = c.loop-entry in
    all_hold (Tidy (contents_of (g.U.UsedBlocks.used c.args.used.now))) c.args.first.now c.args.entries.now l.entry-index l.since l.inode c.loop-entry-test.false (c.groups_part_at_a_moment.ensures.ascend c.args.entries.now c.requires.groups)
    l.invariant.judged (c.is_tidy.ensures.is good)

pub returns-clause-only : goal.returns-clause-only
returns-clause-only g c = λ h.
    let l = c.loop-entry in
    c.is_tidy.ensures.only (last_holds (Tidy (contents_of (g.U.UsedBlocks.used c.args.used.now))) c.args.first.now c.args.entries.now l.entry-index l.since l.inode c.loop-entry-test.false
    (c.groups_part_at_a_moment.ensures.ascend c.args.entries.now c.requires.groups) l.invariant.judged h)
