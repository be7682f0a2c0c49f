use Rattle.std.proofs.Common.{◌≤◌, ◌-◌, ◌^◌, arith}
use Rattle.window.specs.Chunks.{told}
use Rattle.window.proofs.Forgetting.{told_bound}
use Rattle.window.proofs.chunks.earliest.Goals as goal

pub loop-chunk-init : goal.loop-chunk-init
loop-chunk-init c = let le : told c.args.chunks.now ≤ 2 ^ 64 - 1 = told_bound c.args.chunks.now in (omega arith, omega arith)
