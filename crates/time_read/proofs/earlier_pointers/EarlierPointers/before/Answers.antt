use Rattle.std.proofs.Common.{List, ap, ◌∙◌}
use Rattle.time_read.specs.Earlier.{Earlier}
use Rattle.time_read.specs.private.EarlierPointers.{first_before}
use Rattle.time_read.proofs.Before.{joined_from}
use Rattle.time_read.proofs.earlier_pointers.EarlierPointers.before.Goals as goal

pub returns : goal.returns
returns c =
    c.first_before.ensures
    ∙ ap (λ (l : List Earlier). first_before l c.args.index c.args.present)
    (joined_from c.args.first c.self.inside.indices.items c.deref.result.now c.self.inside.befores.items c.deref-2.result.now c.args.self.now c.deref.ensures.value c.deref-2.ensures.value c.self.view_is c.self.invariant.0)
