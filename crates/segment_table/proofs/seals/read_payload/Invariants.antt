use Rattle.std.proofs.Common.{◌≡◌, length, take}
use Rattle.segment_word.specs.Layout.{frame_at}
use Rattle.segment_table.specs.Sealing.{blocks_from}
use Rattle.segment_table.proofs.seals.read_payload.Given as goal

abbrev pub invariant-loop-i : goal.invariant-loop-i
invariant-loop-i l =
    (l.seat ≡ l.initial.seat) × (length l.payload ≡ 15) × (take l.i l.payload ≡ blocks_from (frame_at l.initial.seat.frames l.frame).contents 1 l.i)
