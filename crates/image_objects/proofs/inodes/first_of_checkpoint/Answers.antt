use Rattle.std.proofs.Common.{◌≡◌, Some, sym, ap, ◌∙◌}
use Rattle.codec.specs.declared.inodes.Inode.{Inode}
use Rattle.checkpoint.specs.Held.{checkpoint_held}
use Rattle.undo_redo.specs.Runs.{undone_all, entries_by}
use Rattle.image_objects.proofs.Beginning.{first_with}
use Rattle.image_objects.proofs.inodes.first_of_checkpoint.Goals as goal

pub returns-clause-first : goal.returns-clause-first
returns-clause-first g c =
    let used = g.U.UsedBlocks.used c.args.used.now in
    let here : checkpoint_held used c.args.row.now.object c.args.place ≡ Some c.in-Some.checkpoint = sym c.read_checkpoint.ensures.exact ∙ c.in-Some.is in
    first_with used c.args.row.now c.args.entries.now c.args.place c.in-Some.checkpoint c.in-Some-inode_before.first c.requires here
    (c.in-Some-inode_before.ensures.first ∙ ap (λ (i : Inode). undone_all (entries_by c.args.row.now.checkpoint_moment c.args.entries.now) i) c.inode.ensures.inode)
