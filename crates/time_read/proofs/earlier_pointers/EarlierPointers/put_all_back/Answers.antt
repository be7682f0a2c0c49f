use Rattle.std.proofs.Common.{List, ap, ◌∙◌}
use Rattle.std.specs.Prelude.{reverse}
use Rattle.time_read.specs.Earlier.{Earlier}
use Rattle.time_read.specs.Undoings.{put_back}
use Rattle.time_read.proofs.Before.{joined_from}
use Rattle.time_read.proofs.earlier_pointers.EarlierPointers.put_all_back.Goals as goal

pub returns : goal.returns
returns c =
    c.put_all_back.ensures
    ∙ ap (λ (l : List Earlier). put_back (reverse l) c.args.pointers.now)
    (joined_from c.args.first c.self.inside.indices.items c.deref.result.now c.self.inside.befores.items c.deref-2.result.now c.args.self.now c.deref.ensures.value c.deref-2.ensures.value c.self.view_is c.self.invariant.0)
