use Rattle.std.proofs.Common.{◌++◌, List, Option, ap, ◌∙◌}
use Rattle.s4_types.specs.Pointer.{Place}
use Rattle.codec.specs.Entry.{EntryFields}
use Rattle.time_read.specs.Rows.{checkpoint_of}
use Rattle.version_store.specs.Store.{pointers_kept, sides_told}
use Rattle.version_store.proofs.data_blocks.pointers_by.Goals as goal

pub returns-clause-pointers : goal.returns-clause-pointers
returns-clause-pointers g c =
    let log = g.B.Blocks.log in
    let o = c.args.object in
    let row = c.args.row.now in
    c.in_ok-add_told.ensures.added
    ∙ ap (λ (front : List (Option Place)). front ++ sides_told c.args.entries.now) c.in_ok-pointers.ensures.kept
    ∙ ap (λ (entries : List EntryFields). pointers_kept (checkpoint_of (log c.args.table.now).held o row) ++ sides_told entries) c.requires.entries
