-- The generations of frames are noted, and those that rose since are counted.
use Rattle.std.proofs.Common.{◌≡◌, ℕ, ◌+◌, ◌≤◌, ◌++◌, ◌∷◌, [], true, false, List, length, map, get_or, refl, sym, ap, ◌∙◌, arith}
use Rattle.std.specs.Prelude.{count_by, nat_lt}
use Rattle.std.specs.List.{range_with_len}
use Rattle.std.proofs.lemmas.List.FromFn.{length-map-range_with_len, get_or-map-range_with_len, map-range_with_len_more}
use Rattle.lemmas.proofs.Range.{tally}
use Rattle.segment_word.specs.Frames.{Frame}
use Rattle.segment_word.specs.Handles.{Drive}
use Rattle.segment_word.specs.Layout.{frame_at}
use Rattle.history_cleaner.specs.Emptying.{has_risen, frames_risen}
use Rattle.history_cleaner.specs.private.Emptying.{generations_in, is_later}
use Rattle.history_cleaner.proofs.Emptied.{count_alike, count_more}

abbrev pub generation_at : List Frame → ℕ → ℕ
generation_at frames f = (frame_at frames f).generation

pub noted_more : (frames : List Frame) (f g : ℕ) (items later : List ℕ) → items ≡ map (generation_at frames) (range_with_len 0 f) → later ≡ items ++ g ∷ [] → g ≡ generation_at frames f → later ≡ map (generation_at frames) (range_with_len 0 (f + 1))
noted_more frames f g items later sofar more is =
    more
    ∙ ap (λ (x : ℕ). items ++ x ∷ []) is
    ∙ ap (λ (xs : List ℕ). xs ++ generation_at frames f ∷ []) sofar
    ∙ sym (map-range_with_len_more (generation_at frames) 0 f f (omega arith))

-- the count goes on by one frame
risen_more : (noted : List ℕ) (frames : List Frame) (f n m : ℕ) → n ≡ count_by (is_later noted frames) (range_with_len 0 f) → m ≡ n + tally (is_later noted frames f) → m ≡ count_by (is_later noted frames) (range_with_len 0 (f + 1))
risen_more noted frames f n m sofar more = omega (arith, sofar, more, count_more (is_later noted frames) (is_later noted frames) f (λ k below. refl))

-- what was noted is compared
pub risen_since : (old new : Drive) (noted : List ℕ) → noted ≡ generations_in old → count_by (is_later noted new.frames) (range_with_len 0 (length noted)) ≡ frames_risen old new
risen_since old new noted is =
    let frames : List Frame = old.frames in
    let count : length noted ≡ length frames = ap length is ∙ length-map-range_with_len (generation_at frames) 0 (length frames) in
    ap (λ (n : ℕ). count_by (is_later noted new.frames) (range_with_len 0 n)) count
    ∙ count_alike (is_later noted new.frames) (has_risen frames new.frames) 0 (length frames)
    (λ k low high. ap (λ (g : ℕ). nat_lt g (generation_at new.frames k)) (ap (λ (xs : List ℕ). get_or xs k 0) is ∙ get_or-map-range_with_len (generation_at frames) 0 (length frames) k k 0 (omega (arith, high)) (omega arith)))

-- how far the count has come
pub record RisenSoFar (noted : List ℕ) (frames : List Frame) (f n : ℕ) : Type 0 where
  pub count : n ≡ count_by (is_later noted frames) (range_with_len 0 f)
  pub few : n ≤ f

-- a frame that has risen
pub risen_step : (noted : List ℕ) (frames : List Frame) (f n m before : ℕ) → RisenSoFar noted frames f n → before ≡ get_or noted f 0 → nat_lt before (generation_at frames f) ≡ true → m ≡ n + 1 → RisenSoFar noted frames (f + 1) m
risen_step noted frames f n m before sofar read rises is =
    let one : tally (is_later noted frames f) ≡ 1 = ap tally (ap (λ (g : ℕ). nat_lt g (generation_at frames f)) (sym read) ∙ rises) in
    let few : n ≤ f = sofar.few in
    record { count = risen_more noted frames f n m sofar.count (omega (arith, is, one)); few = omega (arith, is, few) }

-- one that has not
pub still_step : (noted : List ℕ) (frames : List Frame) (f n m before : ℕ) → RisenSoFar noted frames f n → before ≡ get_or noted f 0 → nat_lt before (generation_at frames f) ≡ false → m ≡ n → RisenSoFar noted frames (f + 1) m
still_step noted frames f n m before sofar read rises is =
    let none : tally (is_later noted frames f) ≡ 0 = ap tally (ap (λ (g : ℕ). nat_lt g (generation_at frames f)) (sym read) ∙ rises) in
    let few : n ≤ f = sofar.few in
    record { count = risen_more noted frames f n m sofar.count (omega (arith, is, none)); few = omega (arith, is, few) }

-- as many were noted as frames were looked at
pub noted_count : (frames : List Frame) (n : ℕ) (items : List ℕ) → items ≡ map (generation_at frames) (range_with_len 0 n) → length items ≡ n
noted_count frames n items is = ap length is ∙ length-map-range_with_len (generation_at frames) 0 n

-- so a count by what was noted is that of the frames that rose, and so it stays where the drive does
pub counted_since : (old new last : Drive) (noted : List ℕ) (n : ℕ) → noted ≡ generations_in old → n ≡ count_by (is_later noted new.frames) (range_with_len 0 (length noted)) → last ≡ new → n ≡ frames_risen old last
counted_since old new last noted n is counted same = counted ∙ risen_since old new noted is ∙ ap (frames_risen old) (sym same)
