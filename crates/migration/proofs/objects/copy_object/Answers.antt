use Rattle.std.proofs.Common.{rules, ◌≡◌, List, Option, subst, sym}
use Rattle.codec.specs.Entry.{EntryFields}
use Rattle.codec.specs.declared.inodes.Inode.{Inode}
use Rattle.image_objects.specs.Versions.{entries_used_by}
use Rattle.image_objects.specs.Writing.{inode_kept_in}
use Rattle.migration.specs.Copied.{CanCopy}
use Rattle.migration.proofs.CanCopy.{can_copy}
use Rattle.migration.proofs.objects.copy_object.Goals as goal

pub copy_row-requires-clause-can : goal.copy_row-requires-clause-can
copy_row-requires-clause-can g c =
    let used = g.U.UsedBlocks.used c.args.used.now in
    let row = c.args.row.now in
    let found : c.as_mut_slice-entries.result.now ≡ entries_used_by c.args.version used row = search rules in
    let can : CanCopy used row (inode_kept_in used row) (entries_used_by c.args.version used row) = can_copy c.args.version c.an_object_of_a_version_can_be_written.ensures used row c.args.clock c.requires.stands in
    subst (λ (k : Option Inode). CanCopy used row k c.as_mut_slice-entries.result.now) (sym c.inode_kept-kept.ensures)
    (subst (λ (es : List EntryFields). CanCopy used row (inode_kept_in used row) es) (sym found) can)
