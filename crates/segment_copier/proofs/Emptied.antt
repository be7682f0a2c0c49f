-- How many frames are free.
use Rattle.std.proofs.Common.{◌≡◌, ℕ, ◌+◌, ◌<◌, ◌≤◌, true, false, List, length, take, count_by, sym, ap, ◌∙◌}
use Rattle.std.proofs.lemmas.List.{take_all}
use Rattle.std.proofs.lemmas.List.Sums.{count_by_more_yes, count_by_more_no}
use Rattle.segment_word.specs.Frames.{Frame, is_free, no_frame}
use Rattle.segment_word.specs.Layout.{frame_at}
use Rattle.segment_table.specs.Table.{Table}
use Rattle.segment_copier.specs.Gathering.{free_count}

abbrev pub free_to : List Frame → ℕ → ℕ
free_to frames n = count_by (λ k. is_free k.phase) (take n frames)

-- one frame more was looked at
pub free_more : (frames : List Frame) (n count : ℕ) → n < length frames → true ≡ is_free (frame_at frames n).phase → count ≡ free_to frames n → count + 1 ≡ free_to frames (n + 1)
free_more frames n count h is before = ap (λ (m : ℕ). m + 1) before ∙ sym (count_by_more_yes (λ k. is_free k.phase) frames n no_frame h (sym is))

pub free_same : (frames : List Frame) (n count : ℕ) → n < length frames → false ≡ is_free (frame_at frames n).phase → count ≡ free_to frames n → count ≡ free_to frames (n + 1)
free_same frames n count h is before = before ∙ sym (count_by_more_no (λ k. is_free k.phase) frames n no_frame h (sym is))

pub free_all : (t : Table) (n : ℕ) → length t.seat.frames ≤ n → free_to t.seat.frames n ≡ free_count t
free_all t n h = ap (count_by (λ k. is_free k.phase)) (take_all n t.seat.frames h)
