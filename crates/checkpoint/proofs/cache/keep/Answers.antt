use Rattle.checkpoint.proofs.Caching.{put_or_not}
use Rattle.checkpoint.proofs.cache.keep.Goals as goal

pub returns : goal.returns
returns g c = put_or_not c.put.result c.args.cache.now c.put.new.self c.args.key c.args.value c.put.ensures.entries c.put.ensures.err
