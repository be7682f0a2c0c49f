use Rattle.std.proofs.Common.{◌++◌, take}
use Rattle.std.specs.List.{concat}
use Rattle.sha2.specs.Hashers.{Holds256}
use Rattle.codec.proofs.frame_digests.digest_of.Given as goal

abbrev pub invariant-loop-block : goal.invariant-loop-block
invariant-loop-block l = Holds256 l.hasher (l.head ++ concat (take l.block-index l.payload))
