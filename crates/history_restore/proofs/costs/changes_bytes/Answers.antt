use Rattle.std.proofs.Common.{◌≡◌, ◌∙◌, ap, arith}
use Rattle.history_view.specs.Contents.{attribute_of, content_of as bytes_of}
use Rattle.history_restore.specs.Joining.{entry_bytes}
use Rattle.history_restore.specs.Plans.{attribute_changes}
use Rattle.history_restore.proofs.Costing.{changes_take}
use Rattle.history_restore.proofs.costs.changes_bytes.Goals as goal

pub returns : goal.returns
returns c = λ o.
    let before = c.args.before.now in
    let changes = c.args.changes.now in
    let i = c.args.inode.now in
    let named : c.attribute_bytes-attribute.result ≡ entry_bytes (attribute_changes o (attribute_of before) changes.attribute) i =
    c.attribute_bytes-attribute.ensures o ∙ ap (λ bytes. entry_bytes (attribute_changes o bytes changes.attribute) i) c.attribute_of.ensures in
    omega (arith, changes_take o (bytes_of before) (attribute_of before) changes.cut changes.attribute c.args.runs.now i c.requires, c.cut_bytes.ensures o, named, c.run_bytes.ensures, c.saturating_add-others.ensures, c.saturating_add.ensures)
