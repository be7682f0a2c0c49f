use Rattle.std.proofs.Common.{◌-◌, ◌∙◌, ap, arith}
use Rattle.inode.specs.Contents.{listed}
use Rattle.time_read.specs.Plans.{PlanFields, byte_planned}
use Rattle.time_read.proofs.Fetching.{more_fetched}
use Rattle.time_read.proofs.plans.ReadPlan.fetch.Goals as goal

pub loop-at-preserved : goal.loop-at-preserved
loop-at-preserved c =
    let within = c.in_ok-at.ensures.within in
    let later = c.in_ok-at.ensures.later in
    let low = c.loop-at.invariant.low in
    record {
      low = omega (arith, low, later);
      high = within;
      bytes = more_fetched c.ranges_join_and_part.ensures.join (byte_planned c.args.self) c.args.self.skip c.loop-at.at c.in_ok-at.at c.loop-at.bytes.items _ c.fetch_piece.new.bytes.items c.loop-at.invariant.bytes low (omega (arith, later))
          (ap (λ (p : PlanFields). listed (byte_planned p) c.loop-at.at (c.in_ok-at.at - c.loop-at.at)) c.loop-at.invariant.same) c.in_ok-at.ensures.bytes;
      same = c.in_ok-at.ensures.same ∙ c.loop-at.invariant.same;
    }
