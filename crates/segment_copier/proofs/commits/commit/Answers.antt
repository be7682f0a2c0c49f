use Rattle.std.proofs.Common.{◌≡◌, ◌<◌, Err, length, IfSome, subst, ◌∙◌}
use Rattle.s4_types.specs.declared.refusals.Refusal.TheVariants.{NoRoom}
use Rattle.object_map.specs.Rows.{row_of}
use Rattle.drive.specs.Fields.{DriveFields, store_of}
use Rattle.segment_copier.specs.Commits.{blocks_moved}
use Rattle.segment_copier.specs.Moves.{CopiedMove}
use Rattle.segment_copier.proofs.commits.commit.Goals as goal

pub returns-clause-room : goal.returns-clause-room
returns-clause-room g c =
    let InDrive : DriveFields → Type 0 = λ d. c.put.result ≡ Err NoRoom → IfSome (row_of d.store.rows c.moved.inside.object) (λ row. length (store_of d).log.ahead < blocks_moved d c.moved.inside.frame c.moved.inside.object row) in
    let OfMove : CopiedMove → Type 0 = λ m. c.put.result ≡ Err NoRoom → IfSome (row_of c.args.drive.now.store.rows m.what.object) (λ row. length (store_of c.args.drive.now).log.ahead < blocks_moved c.args.drive.now m.what.frame m.what.object row) in
    subst OfMove c.moved.view_is (subst InDrive (c.copies_now.ensures.same ∙ c.is_sealed_now.ensures.same) c.put.ensures.room)
