use Rattle.std.proofs.Common.{sym, subst}
use Rattle.segment_table.specs.Rules.{HasFramesInOrder}
use Rattle.segment_table.specs.Table.{Table}
use Rattle.version_store.specs.Store.{StoreOf}
use Rattle.version_store.proofs.InPlace.{along, across}
use Rattle.version_store.proofs.store.frames.StoreNamedTableOverFrames.frame_rules.Goals as goal

pub returns : goal.returns
returns g c =
    let A : StoreOf Table → Type 0 = λ s. HasFramesInOrder g.J.Naming.frames s.table in
    let B : Table → Type 0 = λ t. HasFramesInOrder g.J.Naming.frames t in
    let here : B c.self-inside.inside.0.1.1.0.table = across (sym c.self-inside.invariant) (λ named. HasFramesInOrder named c.self-inside.inside.0.1.1.0.table) c.frame_rules.ensures in
    subst A c.self.view_is (subst B (along c.self-inside.view_is (λ i. i.table)) here)
