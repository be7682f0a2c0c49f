use Rattle.std.proofs.Common.{◌≡◌, max, rules}
use Rattle.window.proofs.Standing.{stands_seen}
use Rattle.window.proofs.window.Window.observe.Goals as goal

pub returns : goal.returns
returns c = λ s stands.
    let is : c.max.result ≡ max c.args.self.now.clock c.args.now = search rules in
    stands_seen c.args.self.now c.set_clock-2.new.self s c.args.now c.max.result c.set_clock-2.ensures is stands
