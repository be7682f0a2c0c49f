use Rattle.std.proofs.Common.{length, ap, ◌∙◌}
use Rattle.codec.specs.declared.inodes.Inode.{Inode}
use Rattle.undo_redo.specs.Runs.{entries_by}
use Rattle.undo_redo.proofs.ComposeLaws.{undone_count}
use Rattle.image_objects.proofs.Undoing.{count_all_redone}
use Rattle.image_objects.proofs.inodes.inode_before.Goals as goal

pub is_same_inode-requires-clause-one : goal.is_same_inode-requires-clause-one
is_same_inode-requires-clause-one c =
    let by = entries_by c.args.at c.args.entries.now in
    ap (λ (i : Inode). length i.pointers) c.redo_by.ensures ∙ count_all_redone by c.undo_by.new.inode
    ∙ ap (λ (i : Inode). length i.pointers) c.undo_by.ensures ∙ undone_count by c.args.checkpoint.now ∙ c.requires

pub returns-clause-count : goal.returns-clause-count
returns-clause-count c =
    ap (λ (i : Inode). length i.pointers) c.undo_by.ensures ∙ undone_count (entries_by c.args.at c.args.entries.now) c.args.checkpoint.now ∙ c.requires
