use Rattle.std.proofs.Common.{◌≡◌, [], ◌++◌, reverse, Option, sym, ap, subst}
use Rattle.s4_types.specs.Pointer.{Place}
use Rattle.block_log.specs.declared.kinds.BlockKind.TheVariants.{Journal}
use Rattle.block_log.specs.Log.{of_kind}
use Rattle.journal_chain.specs.Chain.{ChainFields, Holds, chain_places}
use Rattle.journal_chain.proofs.Staying.{empty_held}
use Rattle.journal_chain.proofs.Order.{empty_in_order}
use Rattle.journal_chain.proofs.chain.Chain.of_none.Goals as goal

pub returns-clause-holds : goal.returns-clause-holds
returns-clause-holds g c =
    let held = (g.B.Blocks.log c.args.table.now).held in
    subst (λ (k : ChainFields). Holds held k []) (sym c.empty.ensures) (empty_held held c.args.object c.requires.none)

pub returns-clause-order : goal.returns-clause-order
returns-clause-order g c =
    let log = g.B.Blocks.log c.args.table.now in
    let o = c.args.object in
    subst (λ (h : Option Place). log.ahead ≡ reverse (chain_places (of_kind Journal o log.held) o h) ++ log.ahead) (sym (ap (λ (k : ChainFields). k.head) c.empty.ensures)) (empty_in_order log o)
