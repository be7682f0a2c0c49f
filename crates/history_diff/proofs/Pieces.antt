-- How bytes are cut into lines.
use Rattle.std.proofs.Common.{◌≡◌, ◌∙◌, ◌+◌, ◌-◌, ◌*◌, ◌<◌, ◌≤◌, ◌++◌, ℕ, min, List, [], ◌∷◌, length, take, drop, ap, sym, inl, inr, lit<, arith}
use Rattle.std.specs.List.{flat_map, range_with_len}
use Rattle.std.specs.Int.{div_ceil}
use Rattle.std.proofs.lemmas.Bool.{cases_lt}
use Rattle.std.proofs.lemmas.Grind.{div_ceil_times}
use Rattle.std.proofs.lemmas.List.{length-drop, take_all, map-id}
use Rattle.std.proofs.lemmas.List.FromFn.{map-range_with_len_more}
use Rattle.history_view.proofs.Fronts.{flat_more}

-- taking no fewer than there are takes all
take_alike : (m n : ℕ) (xs : List ℕ) → length xs ≤ m → length xs ≤ n → take m xs ≡ take n xs
take_alike m n xs enough more = take_all m xs enough ∙ sym (take_all n xs more)

-- a line has 32 bytes, or those to the end
pub piece_cut : (bytes : List ℕ) (start end : ℕ) → end ≡ min (length bytes) (start + 32) → take (end - start) (drop start bytes) ≡ take 32 (drop start bytes)
piece_cut bytes start end is =
    elim (cases_lt (length bytes) (start + 32)) [
      | inl short ↦ take_alike (end - start) 32 (drop start bytes) (omega (arith, is, short, length-drop start bytes)) (omega (arith, short, length-drop start bytes))
      | inr long ↦ let whole : end - start ≡ 32 = omega (arith, is, long) in ap (λ n. take n (drop start bytes)) whole
    ]

-- each line begins within the bytes
pub begins_within : (n index : ℕ) → index < div_ceil n 32 → 32 * index < n
begins_within n index below = omega (arith, below, (div_ceil_times n 32 (lit< tt)).1)

range_more : (n : ℕ) → range_with_len 0 (n + 1) ≡ range_with_len 0 n ++ n ∷ []
range_more n = sym (map-id (range_with_len 0 (n + 1))) ∙ map-range_with_len_more (λ (x : ℕ). x) 0 n n (omega arith) ∙ ap (λ (l : List ℕ). l ++ n ∷ []) (map-id (range_with_len 0 n))

-- one line more
pub lines_more : (f : ℕ → List ℕ) (n : ℕ) → flat_map f (range_with_len 0 n) ++ f n ≡ flat_map f (range_with_len 0 (n + 1))
lines_more f n = sym (flat_more f (range_with_len 0 n) n) ∙ ap (flat_map f) (sym (range_more n))
