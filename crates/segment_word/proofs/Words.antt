-- The words of one frame after the state word of another was written, and what a state word may be.
use Rattle.std.proofs.Common.{◌≡◌, ◌≢◌, ℕ, ◌+◌, ◌*◌, ◌<◌, List, set, slice_index, arith, get_or-set_other}
use Rattle.segment_word.specs.Frames.{Phase, Free, Open, Sealed, Draining, code_of}

-- two bits hold a phase
pub code_below_four : (p : Phase) → code_of p < 4
code_below_four Free = omega arith
code_below_four Open = omega arith
code_below_four Sealed = omega arith
code_below_four Draining = omega arith

-- the state word of a frame is no word of another
pub apart : (words : List ℕ) (f g m x : ℕ) → g ≢ f → m < 1025 → slice_index (set words (1025 * f) x) (1025 * g + m) ≡ slice_index words (1025 * g + m)
apart words f g m x far h = get_or-set_other words (1025 * f) (1025 * g + m) x 0 (λ e. far (omega arith))
