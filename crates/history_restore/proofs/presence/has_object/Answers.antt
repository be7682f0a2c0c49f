use Rattle.drive.specs.Fields.{state_in, store_of}
use Rattle.history_restore.proofs.Listed.{listed_is_there, none_is_there}
use Rattle.history_restore.proofs.presence.has_object.Goals as goal

pub returns-clause-there : goal.returns-clause-there
returns-clause-there g c =
    listed_is_there (state_in c.args.drive.now) (store_of c.args.drive.now) c.clock-clock.result c.new.result c.in-Some._listed c.clock-clock.ensures c.in-Some.ensures.some

pub returns-in_default-clause-there : goal.returns-in_default-clause-there
returns-in_default-clause-there g c =
    none_is_there (state_in c.args.drive.now) (store_of c.args.drive.now) c.clock-clock.result c.new.result c.clock-clock.ensures c.new.ensures c.rules.ensures.sound c.in_default.ensures.none
