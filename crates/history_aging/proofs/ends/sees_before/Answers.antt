use Rattle.std.proofs.Common.{◌≡◌, ◌-◌, ◌<◌, arith}
use Rattle.drive.specs.Fields.{state_in}
use Rattle.history_aging.proofs.Sees.{seen_before}
use Rattle.history_aging.proofs.ends.sees_before.Goals as goal

pub returns : goal.returns
returns g c =
    let more : c.args.first < c.args.end = omega arith in
    let last : c.new.result ≡ c.args.end - 1 = omega arith in
    seen_before c.sees.result (state_in c.args.drive.now) c.args.object c.args.first c.args.end c.new.result more last c.sees.ensures
