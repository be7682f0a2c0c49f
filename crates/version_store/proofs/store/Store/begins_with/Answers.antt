use Rattle.std.proofs.Common.{◌≡◌, Option, None, sym, ap, subst, ◌∙◌}
use Rattle.std.specs.Prelude.{option_copied, option_map}
use Rattle.codec.specs.declared.inodes.Inode.{Inode}
use Rattle.undo_redo.specs.Runs.{blank}
use Rattle.object_map.specs.declared.map.Row.{Row}
use Rattle.object_map.specs.declared.map.Kept.{Kept}
use Rattle.time_read.specs.declared.presents.Present.{Present}
use Rattle.object_map.specs.Rows.{row_of, fresh_row}
use Rattle.version_store.specs.Store.{StoreOf, StoreFields, fields_of}
use Rattle.version_store.specs.Costs.{row_or_fresh, subject_row, subject_inode}
use Rattle.version_store.proofs.Beside.{inode_kept}
use Rattle.version_store.proofs.store.Store.begins_with.Goals as goal

pub returns-clause-row : goal.returns-clause-row
returns-clause-row g c =
    let o = c.args.object in
    let m = c.args.moment in
    let row : Row = c.in-Some.kept.now.row in
    let s : StoreFields = record { rows = c.self.inside.objects.rows; log = g.B.Blocks.log c.self.inside.table; latest = c.self.inside.latest } in
    let there : row ≡ subject_row s o m = ap (row_or_fresh m) c.in-Some.ensures.row in
    subst (λ (v : StoreOf _). row ≡ subject_row (fields_of g.B.Blocks.log v) o m) c.self.view_is there

pub returns-clause-inode : goal.returns-clause-inode
returns-clause-inode g c =
    let o = c.args.object in
    let m = c.args.moment in
    let inode : Inode = c.in-Some.kept.now.value.inode in
    let s : StoreFields = record { rows = c.self.inside.objects.rows; log = g.B.Blocks.log c.self.inside.table; latest = c.self.inside.latest } in
    let begins : inode ≡ subject_inode s o m =
    sym ((c.changes_begin_with_the_present.ensures s o m).0 inode (sym (inode_kept c.self.inside.objects.values c.self.inside.cache.pairs s o c.in-Some.kept.now.value c.in-Some.ensures.value c.self.invariant))) in
    subst (λ (v : StoreOf _). inode ≡ subject_inode (fields_of g.B.Blocks.log v) o m) c.self.view_is begins

pub returns-in_default-clause-none : goal.returns-in_default-clause-none
returns-in_default-clause-none g c =
    let o = c.args.object in
    let m = c.args.moment in
    let s : StoreFields = record { rows = c.self.inside.objects.rows; log = g.B.Blocks.log c.self.inside.table; latest = c.self.inside.latest } in
    let none : row_of s.rows o ≡ None = sym c.get.ensures.row ∙ ap (λ (k : Option (Kept Present)). option_map (λ x. x.row) k) (ap option_copied c.in_default.is) in
    let there : fresh_row m ≡ subject_row s o m = sym (ap (row_or_fresh m) none) in
    let begins : blank m ≡ subject_inode s o m = sym ((c.changes_begin_with_the_present.ensures s o m).1 none) in
    (subst (λ (v : StoreOf _). fresh_row m ≡ subject_row (fields_of g.B.Blocks.log v) o m) c.self.view_is there, subst (λ (v : StoreOf _). blank m ≡ subject_inode (fields_of g.B.Blocks.log v) o m) c.self.view_is begins)
