use Rattle.std.proofs.Common.{◌++◌, take, subst, arith}
use Rattle.std.specs.List.{concat}
use Rattle.sha2.specs.Hashers.{Holds256}
use Rattle.codec.proofs.Payload.{joined_more}
use Rattle.codec.proofs.frame_digests.digest_of.Goals as goal

pub loop-block-preserved : goal.loop-block-preserved
loop-block-preserved c =
    let i = c.loop-block.block-index in
    let before = c.args.head.now ++ concat (take i c.args.payload.now) in
    subst (λ m. Holds256 c.update-in-loop-block.new.self m) (joined_more c.args.head.now c.args.payload.now i (omega (arith, c.told-payload, c.loop-block-test.true))) (c.update-in-loop-block.ensures before c.loop-block.invariant)
