use Rattle.std.proofs.Common.{◌≡◌, ℕ, ◌+◌, ◌*◌, ◌^◌, ◌<◌, length, slice_index}
use Rattle.segment_word.proofs.frame_words.blank_words.Given as goal

abbrev pub invariant-loop-i : goal.invariant-loop-i
invariant-loop-i l = record {
  count : length l.words.items ≡ 1025 * l.count;
  state : (f : ℕ) → f < l.i → slice_index l.words.items (1025 * f) ≡ 2 ^ 32;
  blocks : (f j : ℕ) → j < 1024 → slice_index l.words.items (1025 * f + 1 + j) ≡ 0;
}
