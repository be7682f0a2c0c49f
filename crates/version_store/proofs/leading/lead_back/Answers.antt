use Rattle.std.proofs.Common.{inl, sym, subst}
use Rattle.checkpoint.specs.Cached.{CachedInodes}
use Rattle.time_read.specs.Caches.{AddsTrue}
use Rattle.version_store.proofs.leading.lead_back.Goals as goal
use Rattle.version_store.proofs.leading.lead_back.Goals.{else-is_none-via-then-is_none+else-lead_from_nearest, else-is_none-via-else-is_none}

pub returns-clause-added : goal.returns-clause-added
returns-clause-added g c = elim c.else-is_none.branch [
  | else-is_none-via-then-is_none+else-lead_from_nearest w ↦
      subst (λ (cache : CachedInodes). AddsTrue (g.B.Blocks.log c.args.table.now).held c.args.object c.args.kept.now.row c.args.cache.now.pairs cache.pairs) (sym w.cache-is) w.lead_from_nearest.ensures.added
  | else-is_none-via-else-is_none w ↦
      subst (λ (cache : CachedInodes). AddsTrue (g.B.Blocks.log c.args.table.now).held c.args.object c.args.kept.now.row c.args.cache.now.pairs cache.pairs) (sym w.cache-is) (λ e there. inl there)
]
