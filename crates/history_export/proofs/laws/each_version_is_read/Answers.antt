use Rattle.drive.specs.Fields.{state_in, store_of}
use Rattle.history_export.proofs.Covering.{each_is_read}
use Rattle.history_export.proofs.laws.each_version_is_read.Goals as goal

pub returns : goal.returns
returns g c =
    let rules = c.rules.ensures in
    each_is_read (state_in c.args.drive.now) (store_of c.args.drive.now) rules.sound rules.store rules.past rules.decodes
