use Rattle.checkpoint.specs.declared.cache.TheConstants.{CACHED_INODES}
use Rattle.checkpoint.proofs.Caching.{puts_seen, put_only, cap_of, seen}
use Rattle.checkpoint.proofs.cache.InodeCache.put.Goals as goal

pub invariant_of-self : goal.invariant_of-self
invariant_of-self c = cap_of c.self.inside.cache c.keep.new.cache c.args.key c.args.inode.now CACHED_INODES c.self.invariant c.keep.ensures

pub returns : goal.returns
returns c =
    let now = c.args.self.now in
    let puts = puts_seen c.self.inside.cache c.keep.new.cache now c.args.key c.args.inode.now c.self.view_is c.keep.ensures in
    record {
      kept = puts;
      only = λ e there. put_only c.args.key c.args.inode.now now (seen c.keep.new.cache) e puts there;
    }
