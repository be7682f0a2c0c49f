use Rattle.std.proofs.Common.{◌≡◌, ◌+◌, ◌<◌, ◌≤◌, ℕ, [], length, get_or}
use Rattle.codec.specs.Summary.{IsBlank}
use Rattle.segment_word.specs.Layout.{frame_at, block_bytes}
use Rattle.segment_table.proofs.saving.sealed_payload.Given as goal

abbrev pub invariant-loop-i : goal.invariant-loop-i
invariant-loop-i l = record {
  seat : l.seat ≡ l.initial.seat;
  long : length l.blocks ≡ 15;
  loaded : (b : ℕ) → b < l.i → get_or l.blocks b [] ≡ block_bytes (frame_at l.initial.seat.frames l.frame).contents (b + 1);
  blank : (b : ℕ) → l.i ≤ b → b < 15 → IsBlank (get_or l.blocks b []);
}
