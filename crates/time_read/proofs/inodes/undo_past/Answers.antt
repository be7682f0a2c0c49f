use Rattle.std.proofs.Common.{◌≡◌, true, List, [], ◌∷◌, ap, sym, subst, ◌∙◌}
use Rattle.codec.specs.declared.inodes.Inode.{Inode}
use Rattle.codec.specs.Entry.{EntryFields}
use Rattle.undo_redo.specs.Runs.{Run, inode_after}
use Rattle.undo_redo.specs.Groups.{grouped}
use Rattle.journal_chain.specs.Back.{left}
use Rattle.time_read.proofs.inodes.undo_past.Goals as goal

pub loop-entry-preserved : goal.loop-entry-preserved
loop-entry-preserved g c =
    let rest : List EntryFields = left (g.B.Blocks.log c.next_past.new.table).held c.next_past.new.back in
    let at = c.args.at in
    let e = c.in-Some.entry in
    let gives = c.in-Some.ensures.gives in
    record {
      there = c.next_past.ensures.there;
      groups = c.groups_part_at_a_moment.ensures.front rest (e ∷ []) (subst (λ (es : List EntryFields). grouped es ≡ true) gives.0 c.loop-entry.invariant.groups);
      run = λ first r.
          (let was = c.loop-entry.invariant.run first r in
          let undone = c.groups_part_at_a_moment.ensures.undone first c.loop-entry.inode rest e at gives.1 (subst (λ (es : List EntryFields). Run first es c.loop-entry.inode) gives.0 was.0) in (
            subst (λ (j : Inode). Run first rest j) (sym c.undo.ensures.exact) undone.0,
            was.1 ∙ ap (λ (es : List EntryFields). inode_after first es at) gives.0 ∙ undone.1,
          ));
      same = c.next_past.ensures.same ∙ c.loop-entry.invariant.same;
    }
