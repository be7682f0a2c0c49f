use Rattle.std.proofs.Common.{arith}
use Rattle.service_time.proofs.Ascending.{ascending}
use Rattle.service_time.proofs.clock.ServiceClock.new.Goals as goal

pub returns-clause-later : goal.returns-clause-later
returns-clause-later g c = λ moments later drawn. ascending g.R.Readings.reads moments _ later c.args.start (omega (arith, c.number-2.ensures)) drawn
