use Rattle.std.proofs.Common.{◌∙◌, [], ℕ, None, sym, subst}
use Rattle.journal_chain.specs.Chain.{ChainFields, Holds, entries_held}
use Rattle.journal_chain.specs.Writing.{Finished}
use Rattle.journal_chain.proofs.Afresh.{Replaced, cleared, cleared_names, cleared_holds, places_there}
use Rattle.journal_chain.proofs.chain.Chain.clear.Given.{Over}
use Rattle.journal_chain.proofs.chain.Chain.clear.Goals.{After-drop_all}
use Rattle.journal_chain.proofs.chain.Chain.clear.Goals as goal

pub places-stale-requires : goal.places-stale-requires
places-stale-requires g c =
    let held = (g.B.Blocks.log c.args.table.now).held in
    places_there held c.args.self.now (entries_held held c.args.self.now) c.head.result c.requires c.head.ensures

-- no entry stands
none : (g : Over) (c : After-drop_all g) → Replaced (g.B.Blocks.log c.args.table.now).held (g.B.Blocks.log c.drop_all.new.table).held c.args.self.now.object (record { object = c.object-object.result; head = None; bytes = 0; filled = 0 }) []
none g c =
    let log = g.B.Blocks.log c.args.table.now in
    let chain = c.args.self.now in
    cleared log (g.B.Blocks.log c.places-stale.new.table) (g.B.Blocks.log c.drop_all.new.table) chain (entries_held log.held chain) c.object-object.result c.head.result c.as_slice.result.now
    c.places-stale.ensures.same c.requires c.object-object.ensures.object c.head.ensures (c.as_slice.ensures.value ∙ c.places-stale.ensures.places) c.drop_all.ensures.finished c.drop_all.ensures.others

pub returns-clause-holds : goal.returns-clause-holds
returns-clause-holds g c =
    let held = (g.B.Blocks.log c.drop_all.new.table).held in
    let r = none g (goal.at.returns-clause-holds g c).After-drop_all in
    subst (λ (x : ChainFields). Holds held x []) (sym c.empty.ensures)
    (cleared_holds held c.object-object.result (subst (λ (n : ℕ). Finished held n [] None []) (sym c.object-object.ensures.object) r.finished))

pub returns-clause-others : goal.returns-clause-others
returns-clause-others g c = (none g (goal.at.returns-clause-others g c).After-drop_all).others

pub returns-clause-named : goal.returns-clause-named
returns-clause-named g c =
    let log = g.B.Blocks.log c.args.table.now in
    let chain = c.args.self.now in
    cleared_names log (g.B.Blocks.log c.places-stale.new.table) (g.B.Blocks.log c.drop_all.new.table) chain (entries_held log.held chain) c.object-object.result c.head.result c.as_slice.result.now
    c.places-stale.ensures.same c.requires c.object-object.ensures.object c.head.ensures (c.as_slice.ensures.value ∙ c.places-stale.ensures.places) c.drop_all.ensures.named
