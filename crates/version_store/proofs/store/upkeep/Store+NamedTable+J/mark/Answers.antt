use Rattle.std.proofs.Common.{subst, ◌∙◌}
use Rattle.segment_table.specs.Changes.{MarksFrame}
use Rattle.segment_table.specs.Table.{Table}
use Rattle.version_store.specs.Store.{StoreOf}
use Rattle.version_store.proofs.InPlace.{along, marked_here}
use Rattle.version_store.proofs.store.upkeep.Store+NamedTable+J.mark.Goals as goal

pub invariant_of-self-inside : goal.invariant_of-self-inside
invariant_of-self-inside g c = marked_here c.mark.result c.args.frame c.self-inside.inside.0.1.1.0.table c.mark.new.self c.mark.ensures ∙ c.self-inside.invariant

pub returns-clause-frame : goal.returns-clause-frame
returns-clause-frame g c =
    let A : StoreOf Table → Type 0 = λ s. MarksFrame c.args.frame s.table c.mark.result c.mark.new.self in
    let B : Table → Type 0 = λ t. MarksFrame c.args.frame t c.mark.result c.mark.new.self in
    subst A c.self.view_is (subst B (along c.self-inside.view_is (λ i. i.table)) c.mark.ensures)
