use Rattle.std.proofs.Common.{subst}
use Rattle.segment_word.specs.FrameRule.{AllRemembered}
use Rattle.segment_table.specs.Table.{Table}
use Rattle.version_store.specs.Store.{StoreOf}
use Rattle.version_store.proofs.InPlace.{along}
use Rattle.version_store.proofs.store.frames.StoreNamedTableOverFrames.recall.Goals as goal

pub returns-clause-remembered : goal.returns-clause-remembered
returns-clause-remembered g c =
    let A : StoreOf Table → Type 0 = λ s. AllRemembered s.table.seat.frames c.args.memory.now.remembered in
    let B : Table → Type 0 = λ t. AllRemembered t.seat.frames c.args.memory.now.remembered in
    subst A c.self.view_is (subst B (along c.self-inside.view_is (λ i. i.table)) c.recall.ensures.remembered)
