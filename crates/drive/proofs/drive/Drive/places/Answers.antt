use Rattle.std.proofs.Common.{◌∙◌}
use Rattle.segment_table.specs.Counts.{place_at}
use Rattle.drive.specs.Fields.{state_in, store_of}
use Rattle.drive.proofs.drive.Drive.places.Goals as goal

pub returns : goal.returns
returns g c =
    let d = c.args.self.now in
    c.name_count.ensures ∙ c.counts_are_of_rows.ensures (store_of d) (state_in d).next (place_at d.store.table c.args.frame c.args.block) c.rules.ensures.store c.rules.ensures.unborn
