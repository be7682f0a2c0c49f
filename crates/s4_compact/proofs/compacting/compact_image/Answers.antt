use Rattle.std.proofs.lemmas.Result.{on_ok_weaker}
use Rattle.s4_compact.proofs.compacting.compact_image.Goals as goal

pub returns-clause-tried : goal.returns-clause-tried
returns-clause-tried g c = on_ok_weaker c.compact_by.result
    (λ done. record { way = c.best_way.result; found = c.in_ok-found.found; tried = c.in_ok-found.ensures.tried; compacts = done })
    c.compact_by.ensures.by
