use Rattle.std.proofs.Common.{List, OnOk, IfSome, subst}
use Rattle.object_map.specs.Rows.{row_of}
use Rattle.version_store.specs.declared.copies.CopiedBlock.{CopiedBlock}
use Rattle.drive.specs.Fields.{DriveFields}
use Rattle.segment_copier.specs.Commits.{IsMovedBy}
use Rattle.segment_copier.proofs.Placed.{AreAll, still_copies, moved_by, left_by, room_by, refused_by}
use Rattle.segment_copier.proofs.commits.put.Goals as goal

pub relocate-requires-clause-copies : goal.relocate-requires-clause-copies
relocate-requires-clause-copies g c =
    let d : DriveFields = c.args.drive.now in
    let there : AreAll d.store.table c.args.frame c.args.object c.args.copies.now = record { sealed = c.requires.sealed; all = c.requires.copies } in
    still_copies c.what_is_listed_is_held.ensures d.store.table c.args.frame c.args.object c.args.copies.now there

pub returns-clause-moved : goal.returns-clause-moved
returns-clause-moved g c =
    let d : DriveFields = c.args.drive.now in
    let there : AreAll d.store.table c.args.frame c.args.object c.args.copies.now = record { sealed = c.requires.sealed; all = c.requires.copies } in
    subst (λ (l : List CopiedBlock). OnOk c.relocate.result (IfSome (row_of d.store.rows c.args.object) (λ row. IsMovedBy d c.args.frame c.args.object l row c.relocate.new.self))) c.requires.copies
    (moved_by d c.relocate.new.self c.args.frame c.args.object c.args.copies.now (row_of d.store.rows c.args.object) c.relocate.result there
    (still_copies c.what_is_listed_is_held.ensures d.store.table c.args.frame c.args.object c.args.copies.now there) c.relocate.ensures.relocated c.relocate.ensures.answer)

pub returns-clause-left : goal.returns-clause-left
returns-clause-left g c =
    let d : DriveFields = c.args.drive.now in
    left_by c.places_ahead_are_in_no_sealed_frame.ensures d c.relocate.new.self c.args.frame c.args.object c.args.copies.now (row_of d.store.rows c.args.object) c.relocate.result c.requires.some c.listings.ensures
    (record { sealed = c.requires.sealed; all = c.requires.copies }) c.relocate.ensures.relocated

pub returns-clause-room : goal.returns-clause-room
returns-clause-room g c =
    let d : DriveFields = c.args.drive.now in
    room_by d c.args.frame c.args.object c.args.copies.now (row_of d.store.rows c.args.object) c.relocate.result (record { sealed = c.requires.sealed; all = c.requires.copies }) c.relocate.ensures.answer

pub returns-clause-refusal : goal.returns-clause-refusal
returns-clause-refusal g c =
    let d : DriveFields = c.args.drive.now in
    refused_by d c.args.object c.args.copies.now (row_of d.store.rows c.args.object) c.relocate.result c.requires.some c.relocate.ensures.answer
