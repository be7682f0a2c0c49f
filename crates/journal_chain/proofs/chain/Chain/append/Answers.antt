use Rattle.std.proofs.Common.{◌∙◌, ◌++◌, ◌∷◌, map, ap, subst}
use Rattle.std.specs.Option.{option_to_list}
use Rattle.block_log.specs.Log.{Log}
use Rattle.block_log.specs.Taken.{TakesPlaces}
use Rattle.codec.specs.Entry.{entry_length, entries_length}
use Rattle.codec.proofs.JournalEntries.{entries_append}
use Rattle.journal_chain.specs.Sizes.{filled_with, breaks}
use Rattle.journal_chain.specs.Chain.{entries_held}
use Rattle.journal_chain.specs.Writing.{reopened}
use Rattle.journal_chain.proofs.Calls.{Pushed, pushed, pushed_names, pushed_holds, takes_last}
use Rattle.journal_chain.proofs.Adding.{joined-packed}
use Rattle.journal_chain.proofs.Rule.{few_packed}
use Rattle.journal_chain.proofs.chain.Chain.append.Given.{Over}
use Rattle.journal_chain.proofs.chain.Chain.append.Goals.{After-finish-head}
use Rattle.journal_chain.proofs.chain.Chain.append.Goals as goal

-- all entries stand
all : (g : Over) (c : After-finish-head g) → Pushed (g.B.Blocks.log c.args.table.now).held (g.B.Blocks.log c.finish-head.new.table).held (g.B.Blocks.log c.take_others.new.table).held c.args.self.now.object
    (option_to_list c.reopened-stale.result) c.take_others.new.block c.finish-head.result (entries_held (g.B.Blocks.log c.args.table.now).held c.args.self.now ++ c.args.first.now ∷ c.args.later)
all g c =
    let chain = c.args.self.now in
    let log = g.B.Blocks.log c.args.table.now in
    pushed log (g.B.Blocks.log c.begun-block.new.table) (g.B.Blocks.log c.take_others.new.table) (g.B.Blocks.log c.finish-head.new.table) chain (entries_held log.held chain) c.args.first.now c.args.later
    c.begun-block.result c.take_others.new.block c.finish-head.result c.reopened-stale.result
    c.begun-block.ensures.same c.begun-block.ensures.unfinished c.begun-block.ensures.object
    (c.reopened-stale.ensures.value ∙ ap (reopened chain) c.byte_count.ensures.exact)
    c.take_others.ensures.unfinished c.take_others.ensures.others c.take_others.ensures.object c.finish-head.ensures.finished c.finish-head.ensures.others

pub returns-clause-holds : goal.returns-clause-holds
returns-clause-holds g c =
    let chain = c.args.self.now in
    let held = (g.B.Blocks.log c.args.table.now).held in
    pushed_holds held (g.B.Blocks.log c.take_others.new.table).held (g.B.Blocks.log c.finish-head.new.table).held chain c.set_head.new.self (entries_held held chain) (c.args.first.now ∷ c.args.later)
    (option_to_list c.reopened-stale.result) c.take_others.new.block c.finish-head.result c.args.bytes c.entry_bytes.result
    c.requires.held (all g (goal.at.returns-clause-holds g c).After-finish-head) c.requires.fit c.requires.bytes c.requires.limit c.entry_bytes.ensures.exact c.set_head.ensures
    joined-packed entries_append few_packed

pub returns-clause-others : goal.returns-clause-others
returns-clause-others g c = (all g (goal.at.returns-clause-others g c).After-finish-head).others

pub returns-clause-named : goal.returns-clause-named
returns-clause-named g c =
    let chain = c.args.self.now in
    let log = g.B.Blocks.log c.args.table.now in
    pushed_names log (g.B.Blocks.log c.begun-block.new.table) (g.B.Blocks.log c.take_others.new.table) (g.B.Blocks.log c.finish-head.new.table) chain
    c.take_others.new.block c.finish-head.result c.reopened-stale.result (entries_held log.held chain ++ c.args.first.now ∷ c.args.later)
    c.begun-block.ensures.same c.take_others.ensures.named (c.take_others.ensures.object ∙ c.begun-block.ensures.object) c.finish-head.ensures.named (all g (goal.at.returns-clause-named g c).After-finish-head)

pub returns-clause-takes : goal.returns-clause-takes
returns-clause-takes g c =
    let chain = c.args.self.now in
    let log = g.B.Blocks.log c.args.table.now in
    let log2 = g.B.Blocks.log c.take_others.new.table in
    let sizes = map entry_length c.args.later in
    takes_last (breaks (filled_with chain.filled (entry_length c.args.first.now)) sizes) log log2 (g.B.Blocks.log c.finish-head.new.table) g.met.B.Blocks.places_taken_add_up
    (subst (λ n. TakesPlaces (breaks n sizes) log log2) c.begun-block.ensures.filled
    (subst (λ (l : Log). TakesPlaces (breaks (entries_length c.begun-block.result.entries) sizes) l log2) c.begun-block.ensures.same c.take_others.ensures.takes))
    c.finish-head.ensures.takes
