use Rattle.std.proofs.Common.{rules}
use Rattle.s4serve.proofs.at_doors.open_at.Goals as goal

-- of the door that was found
pub returns-clause-streams : goal.returns-clause-streams
returns-clause-streams g c = record {
  door = c.in-Some.door.now;
  there = search rules;
  serves = search rules;
  streams = (search rules, search rules);
}
