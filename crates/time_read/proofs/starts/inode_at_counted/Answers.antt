use Rattle.std.proofs.Common.{sym, subst}
use Rattle.block_log.specs.Log.{Log}
use Rattle.time_read.specs.Caches.{IsTrueOf, AddsTrue}
use Rattle.time_read.proofs.starts.inode_at_counted.Goals as goal

pub led_from_nearest-requires-clause-cached : goal.led_from_nearest-requires-clause-cached
led_from_nearest-requires-clause-cached g c = subst (λ (log : Log). IsTrueOf c.args.cache.now.pairs log.held c.args.object c.args.row.now) (sym c.in_ok-entries.ensures.same) c.requires.cached

pub returns-clause-kept : goal.returns-clause-kept
returns-clause-kept g c =
    subst (λ (log : Log). AddsTrue log.held c.args.object c.args.row.now c.args.cache.now.pairs c.led_from_nearest.new.cache.pairs) c.in_ok-entries.ensures.same c.led_from_nearest.ensures.kept
