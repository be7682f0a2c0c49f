use Rattle.std.proofs.Common.{ℕ, false, None, sym, subst}
use Rattle.chain_rewriting.proofs.Leading.{Walks, walk_begins}
use Rattle.chain_rewriting.proofs.cleaning.clean.Goals as goal
use Rattle.chain_rewriting.specs.private.Resting.{Redoes}

pub loop-entry-init : goal.loop-entry-init
loop-entry-init g c =
    let redoes : Redoes = λ i j e l. ((c.a_link_is_an_entry_redone_or_undone.ensures.forth i j e).0 l).1 in
    subst (λ (n : ℕ). Walks (g.S.Sees.sees c.args.seen.now) c.args.clock c.args.first.now c.args.entries.now None false c.args.first.now n c.args.entries.now) (sym c.new-from.ensures) (walk_begins redoes c.args.first.now.created c.args.clock c.args.clock (g.S.Sees.sees c.args.seen.now) c.args.first.now c.args.entries.now c.requires)
