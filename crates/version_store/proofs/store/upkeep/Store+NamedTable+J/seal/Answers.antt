use Rattle.std.proofs.Common.{◌≡◌, refl, sym, subst, ◌∙◌, arith}
use Rattle.segment_table.specs.Changes.{SealsFrame}
use Rattle.segment_table.specs.Table.{Table}
use Rattle.segment_table.specs.Room.{log_of}
use Rattle.version_store.specs.Store.{StoreOf, StoreFields, IsStore, fields_of}
use Rattle.version_store.specs.Upkeep.{KeepsObjects}
use Rattle.version_store.specs.private.Beside.{IsBeside}
use Rattle.version_store.proofs.InPlace.{along, across, sealed_here}
use Rattle.version_store.proofs.Sealing.{over, fewer_ahead, shrunk_store, beside_over, keeps_objects}
use Rattle.version_store.proofs.store.upkeep.Store+NamedTable+J.seal.Goals as goal

pub invariant_of-self-inside : goal.invariant_of-self-inside
invariant_of-self-inside g c = sealed_here c.self-inside.inside.0.1.1.0.table c.seal_open.new.self c.frame_rules.ensures.one_open c.seal_open.ensures.idle c.seal_open.ensures.sealed ∙ c.self-inside.invariant

pub invariant_of-self : goal.invariant_of-self
invariant_of-self g c =
    let old : StoreOf Table = record { rows = c.self-inside.inside.0.1.0.rows; table = c.self-inside.inside.0.1.1.0.table; latest = c.self-inside.inside.0.1.1.1.0 } in
    let beside : IsBeside c.self-inside.inside.0.1.0.values c.self-inside.inside.0.1.1.1.1.0.pairs (fields_of log_of old) =
    across c.self-inside.view_is (λ i. IsBeside i.objects.values i.cache.pairs (fields_of log_of (record { rows = i.objects.rows; table = i.table; latest = i.latest }))) c.self.invariant in
    beside_over c.self-inside.inside.0.1.0.values c.self-inside.inside.0.1.1.1.1.0.pairs (fields_of log_of old) (log_of c.seal_open.new.self) c.seal_open.ensures.held beside

pub returns-clause-store : goal.returns-clause-store
returns-clause-store g c =
    let old : StoreOf Table = record { rows = c.self-inside.inside.0.1.0.rows; table = c.self-inside.inside.0.1.1.0.table; latest = c.self-inside.inside.0.1.1.1.0 } in
    let is : old ≡ c.args.self.now = along {B = StoreOf Table} c.self-inside.view_is (λ i. record { rows = i.objects.rows; table = i.table; latest = i.latest }) ∙ c.self.view_is in
    let s : StoreFields = fields_of log_of old in
    let store : IsStore s = subst (λ (v : StoreOf Table). IsStore (fields_of log_of v)) (sym is) c.requires in
    let later = c.seal_open.new.self in
    shrunk_store s (log_of later) c.seal_open.ensures.held c.seal_open.ensures.named (fewer_ahead old.table later c.frame_rules.ensures.one_open c.seal_open.ensures.idle c.seal_open.ensures.ahead) c.seal_open.ensures.spent store

pub returns-clause-objects : goal.returns-clause-objects
returns-clause-objects g c =
    let old : StoreOf Table = record { rows = c.self-inside.inside.0.1.0.rows; table = c.self-inside.inside.0.1.1.0.table; latest = c.self-inside.inside.0.1.1.1.0 } in
    let is : old ≡ c.args.self.now = along {B = StoreOf Table} c.self-inside.view_is (λ i. record { rows = i.objects.rows; table = i.table; latest = i.latest }) ∙ c.self.view_is in
    let s : StoreFields = fields_of log_of old in
    let later : StoreFields = over s (log_of c.seal_open.new.self) in
    let K : StoreOf Table → Type 0 = λ v. KeepsObjects (fields_of log_of v) later in
    subst K is (keeps_objects s later c.seal_open.ensures.held refl refl (omega (arith, c.seal_open.ensures.spent)))

pub returns-clause-frame : goal.returns-clause-frame
returns-clause-frame g c =
    let A : StoreOf Table → Type 0 = λ s. SealsFrame s.table c.seal_open.new.self in
    let B : Table → Type 0 = λ t. SealsFrame t c.seal_open.new.self in
    subst A c.self.view_is (subst B (along c.self-inside.view_is (λ i. i.table)) c.seal_open.ensures)
