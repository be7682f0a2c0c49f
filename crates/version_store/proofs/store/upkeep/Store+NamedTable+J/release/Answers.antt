use Rattle.std.proofs.Common.{◌≡◌, refl, sym, subst, ◌∙◌}
use Rattle.segment_table.specs.Changes.{ReleasesFrame}
use Rattle.segment_table.specs.Table.{Table}
use Rattle.segment_table.specs.Room.{log_of}
use Rattle.version_store.specs.Store.{StoreOf, StoreFields, IsStore, fields_of}
use Rattle.version_store.specs.Upkeep.{KeepsObjects}
use Rattle.version_store.proofs.InPlace.{along}
use Rattle.version_store.proofs.Sealing.{over, store_over, no_fewer_spent, keeps_objects}
use Rattle.version_store.proofs.store.upkeep.Store+NamedTable+J.release.Goals as goal

pub returns-clause-store : goal.returns-clause-store
returns-clause-store g c =
    let old : StoreOf Table = record { rows = c.self-inside.inside.0.1.0.rows; table = c.self-inside.inside.0.1.1.0.table; latest = c.self-inside.inside.0.1.1.1.0 } in
    let is : old ≡ c.args.self.now = along {B = StoreOf Table} c.self-inside.view_is (λ i. record { rows = i.objects.rows; table = i.table; latest = i.latest }) ∙ c.self.view_is in
    let s : StoreFields = fields_of log_of old in
    let store : IsStore s = subst (λ (v : StoreOf Table). IsStore (fields_of log_of v)) (sym is) c.requires in
    let later = c.release-answer.new.self in
    store_over s (log_of later) c.release-answer.ensures.held c.release-answer.ensures.named (no_fewer_spent c.release-answer.result s.log (log_of later) c.release-answer.ensures.spent c.release-answer.ensures.log) c.frame_rules.ensures.bounded store

pub returns-clause-objects : goal.returns-clause-objects
returns-clause-objects g c =
    let old : StoreOf Table = record { rows = c.self-inside.inside.0.1.0.rows; table = c.self-inside.inside.0.1.1.0.table; latest = c.self-inside.inside.0.1.1.1.0 } in
    let is : old ≡ c.args.self.now = along {B = StoreOf Table} c.self-inside.view_is (λ i. record { rows = i.objects.rows; table = i.table; latest = i.latest }) ∙ c.self.view_is in
    let s : StoreFields = fields_of log_of old in
    let later : StoreFields = over s (log_of c.release-answer.new.self) in
    let K : StoreOf Table → Type 0 = λ v. KeepsObjects (fields_of log_of v) later in
    subst K is (keeps_objects s later c.release-answer.ensures.held refl refl (no_fewer_spent c.release-answer.result s.log later.log c.release-answer.ensures.spent c.release-answer.ensures.log))

pub returns-clause-frame : goal.returns-clause-frame
returns-clause-frame g c =
    let A : StoreOf Table → Type 0 = λ s. ReleasesFrame c.args.frame s.table c.release-answer.result c.release-answer.new.self in
    let B : Table → Type 0 = λ t. ReleasesFrame c.args.frame t c.release-answer.result c.release-answer.new.self in
    subst A c.self.view_is (subst B (along c.self-inside.view_is (λ i. i.table)) c.release-answer.ensures)
