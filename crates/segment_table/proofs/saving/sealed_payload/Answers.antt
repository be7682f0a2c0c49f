use Rattle.std.proofs.Common.{refl, arith}
use Rattle.segment_table.proofs.SavedBlocks.{all_zeros, unused_after}
use Rattle.segment_table.proofs.saving.sealed_payload.Goals as goal

pub loop-i-init : goal.loop-i-init
loop-i-init c = record {
  seat = refl;
  long = refl;
  loaded = λ b low. absurd (omega arith);
  blank = λ b low high. all_zeros b high;
}

pub returns-clause-unused : goal.returns-clause-unused
returns-clause-unused c = unused_after _ c.args.used c.loop-i.invariant.long (λ b low high. c.loop-i.invariant.blank b (omega arith) high)
