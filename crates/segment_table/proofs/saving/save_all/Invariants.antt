use Rattle.std.proofs.Common.{◌≡◌, length, take}
use Rattle.segment_word.specs.Layout.{frame_at}
use Rattle.segment_table.specs.Sealing.{blocks_from}
use Rattle.segment_table.proofs.saving.save_all.Given as goal

abbrev pub invariant-loop-i : goal.invariant-loop-i
invariant-loop-i l =
    (l.seat ≡ l.initial.seat) × (length l.blocks ≡ 16) × (take l.i l.blocks ≡ blocks_from (frame_at l.initial.seat.frames l.frame).contents 0 l.i)
