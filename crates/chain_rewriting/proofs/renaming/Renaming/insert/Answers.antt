use Rattle.std.proofs.Common.{sym, subst}
use Rattle.chain_rewriting.specs.Renaming.{RenamingFields, with_move}
use Rattle.chain_rewriting.specs.Apart.{HasDistinctPlaces, IsNotNew}
use Rattle.chain_rewriting.proofs.RenamedGrowing.{still_distinct}
use Rattle.chain_rewriting.proofs.renaming.Renaming.insert.Goals as goal

pub returns-clause-distinct : goal.returns-clause-distinct
returns-clause-distinct c = λ (distinct : HasDistinctPlaces c.args.self.now) (fresh : IsNotNew c.args.self.now c.args.to). subst (λ (r : RenamingFields). HasDistinctPlaces (with_move r c.args.block c.args.to)) (sym c.self.view_is) (still_distinct c.args.self.now c.args.block c.args.to distinct fresh)
