use Rattle.drive.specs.Fields.{state_in, store_of}
use Rattle.history_versions.proofs.Begun.{beginnings_ascend, beginnings_begun, each_is_printed}
use Rattle.history_versions.proofs.laws.each_version_is_printed_once.Goals as goal

pub returns : goal.returns
returns g c =
    let s = state_in c.args.drive.now in
    let store = store_of c.args.drive.now in
    let rules = c.rules.ensures in
    record {
      each = each_is_printed s store c.each_version_is_read.ensures;
      once = λ o. beginnings_ascend s store o;
      alone = λ o. beginnings_begun s store o rules.sound rules.store rules.past;
    }
