use Rattle.std.proofs.Common.{ℕ, rules}
use Rattle.std.specs.Prelude.{nat_lt}
use Rattle.std.proofs.lemmas.Map.Made.{filter_same_pairs}
use Rattle.server.proofs.agenda.Agenda.forget_removed.Goals as goal

-- the closure only tests the moment
pub returns-clause-deleted : goal.returns-clause-deleted
returns-clause-deleted c = filter_same_pairs _ (λ (pair : ℕ × ℕ). nat_lt c.args.floor pair.0) _ (λ k v b w f' t. search rules) _ _ c.retain.ensures.filtered
