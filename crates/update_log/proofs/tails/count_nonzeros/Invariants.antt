use Rattle.std.proofs.Common.{◌≡◌, ◌+◌, ◌≤◌, drop}
use Rattle.update_log.specs.Records.{nonzeros}
use Rattle.update_log.proofs.tails.count_nonzeros.Given as goal

abbrev pub invariant-loop-byte : goal.invariant-loop-byte
invariant-loop-byte l = record {
  counted : l.count + nonzeros (drop l.byte-index l.bytes) ≡ nonzeros l.bytes;
  few : l.count ≤ l.byte-index;
}
