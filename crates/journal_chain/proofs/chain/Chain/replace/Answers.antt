use Rattle.std.proofs.Common.{◌∙◌, ◌∷◌}
use Rattle.journal_chain.specs.Chain.{entries_held}
use Rattle.journal_chain.proofs.Afresh.{Replaced, replaced, replaced_names, replaced_holds, places_there}
use Rattle.journal_chain.proofs.Adding.{joined-packed}
use Rattle.journal_chain.proofs.Rule.{few_packed}
use Rattle.journal_chain.proofs.chain.Chain.replace.Given.{Over}
use Rattle.journal_chain.proofs.chain.Chain.replace.Goals.{After-drop_all}
use Rattle.journal_chain.proofs.chain.Chain.replace.Goals as goal

pub places-stale-requires : goal.places-stale-requires
places-stale-requires g c =
    let held = (g.B.Blocks.log c.args.table.now).held in
    places_there held c.args.self.now (entries_held held c.args.self.now) c.head.result c.requires.held c.head.ensures

-- the new entries stand, and no others
all : (g : Over) (c : After-drop_all g) → Replaced (g.B.Blocks.log c.args.table.now).held (g.B.Blocks.log c.drop_all.new.table).held c.args.self.now.object c.afresh-chain.result (c.args.first.now ∷ c.args.later.now)
all g c =
    let log = g.B.Blocks.log c.args.table.now in
    let chain = c.args.self.now in
    replaced log (g.B.Blocks.log c.places-stale.new.table) (g.B.Blocks.log c.afresh-chain.new.table) (g.B.Blocks.log c.drop_all.new.table) chain c.afresh-chain.result (entries_held log.held chain) (c.args.first.now ∷ c.args.later.now) c.object.result c.head.result c.as_slice.result.now
    c.places-stale.ensures.same c.requires.held c.object.ensures.object c.head.ensures (c.as_slice.ensures.value ∙ c.places-stale.ensures.places)
    c.afresh-chain.ensures.finished c.afresh-chain.ensures.filled c.afresh-chain.ensures.others c.drop_all.ensures.finished c.drop_all.ensures.others

pub returns-clause-holds : goal.returns-clause-holds
returns-clause-holds g c =
    replaced_holds (g.B.Blocks.log c.args.table.now).held (g.B.Blocks.log c.drop_all.new.table).held c.args.self.now.object c.args.bytes c.afresh-chain.result (c.args.first.now ∷ c.args.later.now)
    (all g (goal.at.returns-clause-holds g c).After-drop_all) (c.afresh-chain.ensures.object ∙ c.object.ensures.object) c.afresh-chain.ensures.bytes c.requires.bytes c.requires.limit c.requires.fit
    joined-packed few_packed

pub returns-clause-others : goal.returns-clause-others
returns-clause-others g c = (all g (goal.at.returns-clause-others g c).After-drop_all).others

pub returns-clause-named : goal.returns-clause-named
returns-clause-named g c =
    let log = g.B.Blocks.log c.args.table.now in
    let chain = c.args.self.now in
    let entries = c.args.first.now ∷ c.args.later.now in
    replaced_names log (g.B.Blocks.log c.places-stale.new.table) (g.B.Blocks.log c.afresh-chain.new.table) (g.B.Blocks.log c.drop_all.new.table) chain c.afresh-chain.result.head (entries_held log.held chain) entries c.object.result c.head.result c.as_slice.result.now
    c.places-stale.ensures.same c.requires.held c.object.ensures.object c.head.ensures (c.as_slice.ensures.value ∙ c.places-stale.ensures.places)
    c.afresh-chain.ensures.finished c.afresh-chain.ensures.named c.drop_all.ensures.named
