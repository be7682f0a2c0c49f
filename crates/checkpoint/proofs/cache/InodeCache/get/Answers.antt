use Rattle.std.proofs.Common.{◌∙◌}
use Rattle.checkpoint.proofs.Caching.{exact_is, used_is, found_in, still, seen}
use Rattle.checkpoint.proofs.cache.InodeCache.get.Goals as goal

pub returns : goal.returns
returns c =
    let key = c.args.key in
    let exact = exact_is key c.self.inside.cache c.args.self.now c.copied-found.result c.self.view_is (c.copied-found.ensures ∙ c.peek.ensures) in
    let order = used_is key c.self.inside.cache c.promote.new.self c.args.self.now c.self.view_is c.promote.ensures.entries in
    record {
      exact = exact;
      order = order;
      found = found_in c.args.self.now.pairs key c.copied-found.result exact;
      only = λ e there. still key c.args.self.now (seen c.promote.new.self) e order there;
    }
