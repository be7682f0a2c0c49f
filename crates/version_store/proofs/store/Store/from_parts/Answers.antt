use Rattle.std.proofs.Common.{ℕ, List, [], sym, ap, subst}
use Rattle.codec.specs.declared.inodes.Inode.{Inode}
use Rattle.checkpoint.specs.Cached.{CachedInodes}
use Rattle.checkpoint.specs.declared.cache.CacheKey.{CacheKey}
use Rattle.object_map.specs.declared.map.Row.{Row}
use Rattle.time_read.specs.declared.presents.Present.{Present}
use Rattle.version_store.specs.Store.{fields_of}
use Rattle.version_store.specs.private.Beside.{IsBeside}
use Rattle.version_store.specs.private.Opening.{presents_opened}
use Rattle.version_store.proofs.Opening.{opened_beside}
use Rattle.version_store.proofs.store.Store.from_parts.Goals as goal

pub invariant_of-result : goal.invariant_of-result
invariant_of-result g c =
    let log = g.B.Blocks.log c.args.table in
    let kept = c.in_ok-objects.objects in
    let none = ap (λ (cache : CachedInodes). cache.pairs) c.in_ok-cache.ensures.empty in
    subst (λ (pairs : List (CacheKey × Inode)). IsBeside kept.values pairs (fields_of g.B.Blocks.log (record { rows = kept.rows; table = c.args.table; latest = c.args.latest }))) (sym none)
    (subst (λ (values : List (ℕ × Present)). IsBeside values [] (fields_of g.B.Blocks.log (record { rows = kept.rows; table = c.args.table; latest = c.args.latest }))) (sym c.in_ok-objects.ensures.values)
    (subst (λ (rows : List (ℕ × Row)). IsBeside (presents_opened c.args.objects.items) [] (fields_of g.B.Blocks.log (record { rows = rows; table = c.args.table; latest = c.args.latest }))) (sym c.in_ok-objects.ensures.rows)
    (opened_beside log c.args.latest c.args.objects.items c.requires.beside)))
