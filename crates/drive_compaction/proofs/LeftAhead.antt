-- What is left of all frames is ahead.
use Rattle.std.proofs.Common.{◌≡◌, ◌∙◌, ℕ, suc, ◌+◌, ◌-◌, ◌^◌, ◌<◌, ◌≤◌, ◌&&◌, Bool, true, false, nat_lt, if◌then◌else◌, List, [], ◌∷◌, ◌++◌, length, refl, ap, sym, length-append, arith}
use Rattle.std.specs.List.{flat_map}
use Rattle.s4_types.specs.Pointer.{Place}
use Rattle.segment_word.specs.Frames.{Frame, Phase, Free, Open, Sealed, Draining, is_free, is_open}
use Rattle.segment_word.specs.Layout.{frame_at}
use Rattle.segment_table.specs.Table.{Table, slots_at}
use Rattle.segment_table.specs.Room.{can_open, is_filling, numbers, places_ahead, rest_of, sum_over, whole_of}
use Rattle.segment_table.proofs.Ahead.{length-places}
use Rattle.version_store.specs.Costs.{room}
use Rattle.version_store.specs.Store.{StoreFields}
use Rattle.drive_compaction.specs.Compacting.{blocks_left}
use Rattle.drive_compaction.specs.private.Left.{left_in}

-- how many places the frames have that pass a test, where the first of them has number n
abbrev count_from : (Frame → Bool) → (ℕ → ℕ) → ℕ → List Frame → ℕ
count_from test size n [] = 0
count_from test size n (k ∷ ks) = (if test k then size n else 0) + count_from test size (n + 1) ks

counted_by : (test : Bool) (f : ℕ → List Place) (size : ℕ → ℕ) (n : ℕ) (later : List ℕ) (rest : ℕ) → length (f n) ≡ size n → length (flat_map f later) ≡ rest
    → length (flat_map f (if test then n ∷ later else later)) ≡ (if test then size n else 0) + rest
counted_by true f size n later rest one same =
    let both : length (f n ++ flat_map f later) ≡ length (f n) + length (flat_map f later) = length-append (f n) (flat_map f later) in
    both ∙ ap (λ m. m + length (flat_map f later)) one ∙ ap (λ m. size n + m) same
counted_by false f size n later rest one same = omega (arith, same)

counted : (test : Frame → Bool) (f : ℕ → List Place) (size : ℕ → ℕ) (n : ℕ) (ks : List Frame) → ((g : ℕ) → length (f g) ≡ size g)
    → length (flat_map f (numbers test n ks)) ≡ count_from test size n ks
counted test f size n [] each = refl
counted test f size n (k ∷ ks) each = counted_by (test k) f size n (numbers test (n + 1) ks) (count_from test size (n + 1) ks) (each n) (counted test f size (n + 1) ks each)

-- a frame that is open isn't free
one_of : (phase : Phase) (fits free : Bool) (rest : ℕ) → free ≡ (is_free phase && fits)
    → (if is_open phase then rest else 0) + (if free then 15 else 0) ≡ (if is_open phase then rest else (if free then 15 else 0))
one_of Free fits free rest is = omega arith
one_of Open fits true rest is = absurd cc
one_of Open fits false rest is = omega arith
one_of Sealed fits free rest is = omega arith
one_of Draining fits free rest is = omega arith

-- the unused blocks of a frame
abbrev rest_size : Table → ℕ → ℕ
rest_size t f = 15 - length (slots_at t.slots f)

-- what is left of a frame, by what the frame is
abbrev left_by : Table → ℕ → Frame → ℕ
left_by t f k = if is_open k.phase then rest_size t f else (if can_open k then 15 else 0)

summed : (t : Table) (n : ℕ) (ks : List Frame) → ((i : ℕ) → i < length ks → frame_at t.seat.frames (n + i) ≡ frame_at ks i)
    → count_from is_filling (rest_size t) n ks + count_from can_open (λ f. 15) n ks ≡ sum_over (left_in t) n (length ks)
summed t n [] same = refl
summed t n (k ∷ ks) same =
    let at : n + 0 ≡ n = omega arith in
    let here : frame_at t.seat.frames n ≡ k = ap (frame_at t.seat.frames) (sym at) ∙ same 0 (omega arith) in
    let left : left_in t n ≡ left_by t n k = ap (left_by t n) here in
    let one : (if is_filling k then rest_size t n else 0) + (if can_open k then 15 else 0) ≡ left_by t n k = one_of k.phase (nat_lt (k.generation + 1) (2 ^ 32)) (can_open k) (rest_size t n) refl in
    let more : count_from is_filling (rest_size t) (n + 1) ks + count_from can_open (λ f. 15) (n + 1) ks ≡ sum_over (left_in t) (n + 1) (length ks) =
    summed t (n + 1) ks (λ i less. (let next : (n + 1) + i ≡ n + suc i = omega arith in ap (frame_at t.seat.frames) next ∙ same (suc i) (omega (arith, less)))) in
    omega (arith, left, one, more)

pub left_ahead : (t : Table) → sum_over (left_in t) 0 (length t.seat.frames) ≡ length (places_ahead t)
left_ahead t =
    let frames = t.seat.frames in
    let filling : length (flat_map (rest_of t) (numbers is_filling 0 frames)) ≡ count_from is_filling (rest_size t) 0 frames =
    counted is_filling (rest_of t) (rest_size t) 0 frames (λ f. length-places f (frame_at frames f).generation (length (slots_at t.slots f) + 1) (rest_size t f)) in
    let free : length (flat_map (whole_of t) (numbers can_open 0 frames)) ≡ count_from can_open (λ f. 15) 0 frames =
    counted can_open (whole_of t) (λ f. 15) 0 frames (λ f. length-places f (frame_at frames f).generation 1 15) in
    let all : length (places_ahead t) ≡ length (flat_map (rest_of t) (numbers is_filling 0 frames)) + length (flat_map (whole_of t) (numbers can_open 0 frames)) =
    length-append (flat_map (rest_of t) (numbers is_filling 0 frames)) (flat_map (whole_of t) (numbers can_open 0 frames)) in
    let sum = summed t 0 frames (λ i less. (let first : 0 + i ≡ i = omega arith in ap (frame_at frames) first)) in
    omega (arith, filling, free, all, sum)

-- where no fewer blocks are left there is no less room
pub no_less : (s later : StoreFields) → blocks_left s ≤ blocks_left later → room s ≤ room later
no_less s later more = omega (arith, more)
