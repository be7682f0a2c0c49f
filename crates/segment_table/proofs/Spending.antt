-- How many places were ever taken, at each step.
use Rattle.std.proofs.Common.{◌≡◌, ◌≢◌, inl, inr, ℕ, zero, suc, ◌+◌, ◌-◌, ◌*◌, ◌^◌, ◌<◌, ◌≤◌, List, [], ◌∷◌, ◌++◌, length, set, replicate, Option, refl, sym, ap, subst, ◌∙◌, length-append, arith}
use Rattle.std.proofs.lemmas.List.{get_or-set_same, get_or-set_other, length-set, length-replicate, get_or-replicate}
use Rattle.std.proofs.lemmas.Bool.{cases_eq}
use Rattle.segment_word.specs.Frames.{Frame, no_frame}
use Rattle.segment_word.specs.Layout.{frame_at}
use Rattle.segment_word.specs.Handles.{fresh_frame}
use Rattle.segment_table.specs.declared.slots.Slot.{Slot}
use Rattle.segment_table.specs.Table.{Table, slots_at}
use Rattle.segment_table.specs.Room.{spent_at, sum_over, places_spent}
use Rattle.segment_table.specs.Sealing.{IsFit, IsSoundTable}
use Rattle.segment_table.specs.Changes.{IsAlone, KeepsGeneration, IsPut}
use Rattle.segment_table.proofs.Alone.{length-alone, generation_alone}

-- sums of numbers that are the same
sums_same : (u v : ℕ → ℕ) (f n : ℕ) → ((g : ℕ) → f ≤ g → g < f + n → u g ≡ v g) → sum_over u f n ≡ sum_over v f n
sums_same u v f zero same = refl
sums_same u v f (suc n) same =
    ap (λ (x : ℕ). x + sum_over u (f + 1) n) (same f (omega arith) (omega arith))
    ∙ ap (λ (x : ℕ). v f + x) (sums_same u v (f + 1) n (λ g low high. same g (omega (arith, low)) (omega (arith, high))))

-- and of numbers of which one is greater
sums_more : (u v : ℕ → ℕ) (f n g d : ℕ) → f ≤ g → g < f + n → u g ≡ d + v g → ((h : ℕ) → h ≢ g → u h ≡ v h) → sum_over u f n ≡ d + sum_over v f n
sums_more u v f zero g d low high more same = absurd (omega arith)
sums_more u v f (suc n) g d low high more same = elim (cases_eq f g) [
  | inl here ↦
      let first : u f ≡ d + v f = subst (λ (k : ℕ). u k ≡ d + v k) (sym here) more in
      let rest : sum_over u (f + 1) n ≡ sum_over v (f + 1) n = sums_same u v (f + 1) n (λ h above below. same h (λ (e : h ≡ g). omega (arith, here, e, above))) in
      omega (arith, first, rest)
  | inr ne ↦
      let first : u f ≡ v f = same f ne in
      let rest : sum_over u (f + 1) n ≡ d + sum_over v (f + 1) n = sums_more u v (f + 1) n g d (omega (arith, low, ne)) (omega (arith, high)) more same in
      omega (arith, first, rest)
]

-- a sum of n numbers that are at most b is at most n times b
sums_most : (u : ℕ → ℕ) (f n b : ℕ) → ((g : ℕ) → f ≤ g → g < f + n → u g ≤ b) → sum_over u f n ≤ n * b
sums_most u f zero b most = omega arith
sums_most u f (suc n) b most =
    let first : u f ≤ b = most f (omega arith) (omega arith) in
    let rest : sum_over u (f + 1) n ≤ n * b = sums_most u (f + 1) n b (λ g low high. most g (omega (arith, low)) (omega (arith, high))) in
    omega (arith, first, rest)

-- the same number of places of a frame
spent_alike : (old new : Table) (g : ℕ) → KeepsGeneration g old.seat new.seat → length (slots_at new.slots g) ≡ length (slots_at old.slots g) → spent_at new g ≡ spent_at old g
spent_alike old new g generation used =
    ap (λ (n : ℕ). 15 * (n - 1) + length (slots_at new.slots g)) generation ∙ ap (λ (n : ℕ). 15 * ((frame_at old.seat.frames g).generation - 1) + n) used

-- as many places as before were taken where no generation and no number of used blocks has changed
pub spent_same : (old new : Table) (f : ℕ) → IsAlone f old.seat new.seat → KeepsGeneration f old.seat new.seat → ((g : ℕ) → length (slots_at new.slots g) ≡ length (slots_at old.slots g)) → places_spent new ≡ places_spent old
spent_same old new f alone generation used =
    ap (λ (n : ℕ). sum_over (spent_at new) 0 n) (length-alone old.seat new.seat f alone)
    ∙ sums_same (spent_at new) (spent_at old) 0 (length old.seat.frames) (λ g low high. spent_alike old new g (generation_alone old.seat new.seat f g alone generation) (used g))

pub spent_kept : (old new : Table) (f : ℕ) → IsAlone f old.seat new.seat → KeepsGeneration f old.seat new.seat → new.slots ≡ old.slots → places_spent new ≡ places_spent old
spent_kept old new f alone generation slots = spent_same old new f alone generation (λ g. ap (λ (l : List (List Slot)). length (slots_at l g)) slots)

-- a block that was put takes one more
pub spent_put : (old new : Table) (f : ℕ) (slot : Slot) (block : List ℕ) → f < length old.seat.frames → f < length old.slots → IsPut f slot block old new → places_spent new ≡ 1 + places_spent old
spent_put old new f slot block inside within put =
    let used : length (slots_at new.slots f) ≡ 1 + length (slots_at old.slots f) =
    ap (λ (l : List (List Slot)). length (slots_at l f)) put.slots
    ∙ ap length (get_or-set_same old.slots f (slots_at old.slots f ++ slot ∷ []) [] within)
    ∙ length-append (slots_at old.slots f) (slot ∷ [])
    ∙ omega arith in
    let generation : KeepsGeneration f old.seat new.seat = put.generation in
    ap (λ (n : ℕ). sum_over (spent_at new) 0 n) (length-alone old.seat new.seat f put.alone)
    ∙ sums_more (spent_at new) (spent_at old) 0 (length old.seat.frames) f 1 (omega arith) (omega (arith, inside)) (omega (arith, used, generation))
    (λ g ne. spent_alike old new g (generation_alone old.seat new.seat f g put.alone put.generation)
    (ap (λ (l : List (List Slot)). length (slots_at l g)) put.slots ∙ ap length (get_or-set_other old.slots f g (slots_at old.slots f ++ slot ∷ []) [] ne)))

-- a frame at its next generation without used blocks counts its life as whole
pub spent_again : (old new : Table) (f : ℕ) (k : Frame) → f < length old.seat.frames → f < length old.slots → new.seat.frames ≡ set old.seat.frames f k → (frame_at new.seat.frames f).generation ≡ (frame_at old.seat.frames f).generation + 1
    → IsFit f (frame_at old.seat.frames f) (slots_at old.slots f) → new.slots ≡ set old.slots f [] → places_spent old ≤ places_spent new
spent_again old new f k inside within frames next fit slots =
    let used : length (slots_at new.slots f) ≡ 0 = ap (λ (l : List (List Slot)). length (slots_at l f)) slots ∙ ap length (get_or-set_same old.slots f [] [] within) in
    let lives : 1 ≤ (frame_at old.seat.frames f).generation = fit.lives.0 in
    let few : length (slots_at old.slots f) ≤ 15 = fit.few in
    let sum : sum_over (spent_at new) 0 (length new.seat.frames) ≡ (15 - length (slots_at old.slots f)) + sum_over (spent_at old) 0 (length old.seat.frames) =
    ap (λ (n : ℕ). sum_over (spent_at new) 0 n) (ap length frames ∙ length-set old.seat.frames f k)
    ∙ sums_more (spent_at new) (spent_at old) 0 (length old.seat.frames) f (15 - length (slots_at old.slots f)) (omega arith) (omega (arith, inside)) (omega (arith, used, next, lives, few))
    (λ g ne. spent_alike old new g (ap (λ (l : List Frame). (frame_at l g).generation) frames ∙ ap (λ (x : Frame). x.generation) (get_or-set_other old.seat.frames f g k no_frame ne))
    (ap (λ (l : List (List Slot)). length (slots_at l g)) slots ∙ ap length (get_or-set_other old.slots f g [] [] ne))) in
    omega (arith, sum)

-- none of a new table's places was taken
pub spent_new : (t : Table) (count : ℕ) → t.seat.frames ≡ replicate count fresh_frame → t.slots ≡ replicate count [] → places_spent t ≡ 0
spent_new t count frames slots =
    let long : length t.seat.frames ≡ count = ap length frames ∙ length-replicate count fresh_frame in
    let most : sum_over (spent_at t) 0 (length t.seat.frames) ≤ length t.seat.frames * 0 = sums_most (spent_at t) 0 (length t.seat.frames) 0 (λ g low high.
    let generation : (frame_at t.seat.frames g).generation ≡ 1 = ap (λ (l : List Frame). (frame_at l g).generation) frames ∙ ap (λ (k : Frame). k.generation) (get_or-replicate count g fresh_frame no_frame (omega (arith, high, long))) in
    let used : length (slots_at t.slots g) ≡ 0 = ap (λ (l : List (List Slot)). length (slots_at l g)) slots ∙ ap length (get_or-replicate count g [] [] (omega (arith, high, long))) in
    omega (arith, generation, used)) in
    omega (arith, most)

-- and over all lives of all frames they are fewer than MOST_FRAMES times PAYLOAD_BLOCKS times 2^32
pub spent_most : (t : Table) (free : List ℕ) (current : Option ℕ) → IsSoundTable t free current → places_spent t ≤ 1024 * (15 * 2 ^ 32)
spent_most t free current sound =
    let some : length t.seat.frames ≤ 1024 = sound.most in
    let most : sum_over (spent_at t) 0 (length t.seat.frames) ≤ length t.seat.frames * (15 * 2 ^ 32) = sums_most (spent_at t) 0 (length t.seat.frames) (15 * 2 ^ 32) (λ g low high.
    let fit = sound.fit g (omega (arith, high)) in
    let lives : (frame_at t.seat.frames g).generation < 2 ^ 32 = fit.lives.1 in
    let few : length (slots_at t.slots g) ≤ 15 = fit.few in
    omega (arith, lives, few)) in
    omega (arith, some, most)
