use Rattle.std.proofs.Common.{◌-◌, ◌*◌, ◌/◌, refl, arith}
use Rattle.time_read.proofs.Fetching.{part_added}
use Rattle.time_read.proofs.plans.ReadPlan.fetch_piece.Goals as goal

pub returns-clause-bytes : goal.returns-clause-bytes
returns-clause-bytes c =
    let next = c.min-next.ensures in
    part_added c.ranges_join_and_part.ensures.list c.args.self.now (c.args.at / 512) c.args.at c.min-next.result (c.args.at - c.args.at / 512 * 512) (c.min-next.result - c.args.at / 512 * 512) c.args.bytes.now.items c.append.new.bytes.items
    refl (omega (arith, next, c.requires.start)) (omega (arith, next)) (omega arith) (omega arith) c.in_ok-append.ensures.bytes c.in_ok-append.ensures.added
