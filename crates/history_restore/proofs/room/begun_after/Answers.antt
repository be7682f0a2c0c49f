use Rattle.std.proofs.Common.{◌==◌, ◌∙◌, List, filter, map, ap}
use Rattle.std.specs.Prelude.{nat_lt}
use Rattle.std.specs.List.{dedup}
use Rattle.std.proofs.lemmas.List.{take_all}
use Rattle.std.proofs.lemmas.List.Filters.{dedup_is}
use Rattle.codec.specs.Entry.{EntryFields}
use Rattle.history_restore.proofs.room.begun_after.Goals as goal

pub returns-clause-begun : goal.returns-clause-begun
returns-clause-begun c =
    let entries = c.args.entries.now in
    dedup_is ◌==◌ c.loop-entry.begun.items c.dedup.new.self.items c.dedup.ensures.filtered
    ∙ ap (dedup ◌==◌) (c.loop-entry.invariant ∙ ap (λ (l : List EntryFields). filter (nat_lt c.args.at) (map (λ (e : EntryFields). e.moment) l)) (take_all c.loop-entry.entry-index entries c.loop-entry-test.false))
