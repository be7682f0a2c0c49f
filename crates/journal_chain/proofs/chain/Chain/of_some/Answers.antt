use Rattle.std.proofs.Common.{◌≡◌, ℕ, [], ◌∷◌, ◌++◌, reverse, sym, subst}
use Rattle.block_log.specs.declared.kinds.BlockKind.TheVariants.{Journal}
use Rattle.block_log.specs.Log.{of_kind}
use Rattle.journal_chain.specs.Chain.{chain_places}
use Rattle.journal_chain.specs.Writing.{InOrder}
use Rattle.journal_chain.proofs.Adding.{joined-packed}
use Rattle.journal_chain.proofs.Rule.{few_packed}
use Rattle.journal_chain.proofs.Afresh.{Replaced, replaced_holds, none_standing}
use Rattle.journal_chain.proofs.Order.{chain_in_order}
use Rattle.journal_chain.proofs.chain.Chain.of_some.Goals as goal

pub returns-clause-holds : goal.returns-clause-holds
returns-clause-holds g c =
    let log = g.B.Blocks.log c.args.table.now in
    let after = g.B.Blocks.log c.afresh.new.table in
    let o = c.args.object in
    let entries = c.args.first.now ∷ c.args.later.now in
    let none = none_standing log.held o c.requires.none in
    let r : Replaced log.held after.held o c.afresh.result entries = record {
      finished = c.afresh.ensures.finished [] none;
      filled = c.afresh.ensures.filled [] none;
      others = c.afresh.ensures.others;
    } in
    replaced_holds log.held after.held o c.args.bytes c.afresh.result entries r c.afresh.ensures.object c.afresh.ensures.bytes c.requires.bytes c.requires.limit c.requires.fit
    joined-packed few_packed

pub returns-clause-order : goal.returns-clause-order
returns-clause-order g c =
    let log = g.B.Blocks.log c.args.table.now in
    let after = g.B.Blocks.log c.afresh.new.table in
    let chain = c.afresh.result in
    subst (λ (n : ℕ). log.ahead ≡ reverse (chain_places (of_kind Journal n after.held) n chain.head) ++ after.ahead) c.afresh.ensures.object
    (chain_in_order after chain (c.args.first.now ∷ c.args.later.now) log.ahead (returns-clause-holds g c) (subst (λ (n : ℕ). InOrder n after chain.head log.ahead) (sym c.afresh.ensures.object) c.afresh.ensures.order))
