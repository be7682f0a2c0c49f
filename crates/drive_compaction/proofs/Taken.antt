-- Frames that hold nothing any more once objects left another one.
use Rattle.std.proofs.Common.{◌≡◌, ℕ, ◌+◌, ◌^◌, ◌<◌, ◌≤◌, Bool, true, false, ◌&&◌, if◌then◌else◌, List, length, get_or, take, refl, sym, ap, ◌∙◌, arith}
use Rattle.std.specs.Prelude.{nat_lt}
use Rattle.std.specs.List.{list_all}
use Rattle.std.proofs.lemmas.Bool.{and_from, eq-eqb, lt-ltb}
use Rattle.std.proofs.lemmas.List.{take_all}
use Rattle.std.proofs.lemmas.List.Folds.{list_all_more, list_all_at}
use Rattle.s4_types.specs.Pointer.{Place}
use Rattle.lemmas.proofs.Bool.{and_false}
use Rattle.segment_word.specs.Frames.{is_sealed}
use Rattle.segment_word.specs.Layout.{frame_at}
use Rattle.segment_table.specs.Table.{Table, held_at}
use Rattle.segment_table.specs.Room.{whole_of, sum_over}
use Rattle.segment_copier.specs.private.Surveying.{block_at}
use Rattle.segment_copier.proofs.Surveyed.{length-whole_of, whole_at, place_is}
use Rattle.drive_compaction.specs.Choosing.{is_taken, is_life, are_all_taken, is_emptied, frames_emptied}
use Rattle.drive_compaction.proofs.Summing.{sum_more, sum_at}

-- ---- all of a frame

-- whether the first n of its blocks are taken
abbrev pub taken_to : Table → List ℕ → ℕ → ℕ → Bool
taken_to t objects g n = list_all (λ p. is_taken objects (held_at t p)) (take n (whole_of t g))

-- whether a block is taken, from its place
taken_there : (t : Table) (objects : List ℕ) (g n : ℕ) (p : Place) → n < 15 → p ≡ block_at t g (n + 1) → is_taken objects (held_at t (get_or (whole_of t g) n (block_at t g (n + 1)))) ≡ is_taken objects (held_at t p)
taken_there t objects g n p h is = ap (λ (q : Place). is_taken objects (held_at t q)) (whole_at t g n h ∙ sym is)

pub taken_more : (t : Table) (objects : List ℕ) (g n m generation : ℕ) (p : Place) → n < 15 → p ≡ record { frame = g; block = m; generation = generation } → m ≡ n + 1 → generation ≡ (frame_at t.seat.frames g).generation
    → is_taken objects (held_at t p) ≡ true → taken_to t objects g n ≡ true → taken_to t objects g (n + 1) ≡ true
taken_more t objects g n m generation p h place block its here before =
    list_all_more (λ (q : Place). is_taken objects (held_at t q)) (whole_of t g) n (block_at t g (n + 1)) (omega (arith, length-whole_of t g))
    ∙ and_from (taken_to t objects g n) (is_taken objects (held_at t (get_or (whole_of t g) n (block_at t g (n + 1))))) before
    (taken_there t objects g n p h (place_is t g (n + 1) m generation p place block its) ∙ here)

pub stays_there : (t : Table) (objects : List ℕ) (g n m generation : ℕ) (p : Place) → n < 15 → p ≡ record { frame = g; block = m; generation = generation } → m ≡ n + 1 → generation ≡ (frame_at t.seat.frames g).generation
    → is_taken objects (held_at t p) ≡ false → are_all_taken t objects g ≡ false
stays_there t objects g n m generation p h place block its here =
    ap (λ (b : Bool). is_life (frame_at t.seat.frames g).generation && b)
    (list_all_at (λ (q : Place). is_taken objects (held_at t q)) (whole_of t g) n (block_at t g (n + 1)) (omega (arith, length-whole_of t g))
    (taken_there t objects g n p h (place_is t g (n + 1) m generation p place block its) ∙ here))
    ∙ and_false (is_life (frame_at t.seat.frames g).generation)

pub all_taken : (t : Table) (objects : List ℕ) (g n : ℕ) → n ≡ 15 → is_life (frame_at t.seat.frames g).generation ≡ true → taken_to t objects g n ≡ true → are_all_taken t objects g ≡ true
all_taken t objects g n end life taken =
    and_from (is_life (frame_at t.seat.frames g).generation) (list_all (λ p. is_taken objects (held_at t p)) (whole_of t g)) life
    (ap (λ (l : List Place). list_all (λ p. is_taken objects (held_at t p)) l) (sym (take_all n (whole_of t g) (omega (arith, length-whole_of t g, end)))) ∙ taken)

-- ---- generations

pub lives : (generation : ℕ) → 1 ≤ generation → generation + 1 < 2 ^ 32 → is_life generation ≡ true
lives generation lowest highest = and_from (nat_lt 0 generation) (nat_lt (generation + 1) (2 ^ 32)) (lt-ltb 0 generation (omega (arith, lowest))) (lt-ltb (generation + 1) (2 ^ 32) highest)

-- ---- all frames

-- 1 where something holds
abbrev pub one_if : Bool → ℕ
one_if b = if b then 1 else 0

-- 1 for a frame that is emptied
abbrev pub emptied_at : Table → List ℕ → ℕ → ℕ → ℕ
emptied_at t objects f g = one_if (is_emptied t objects f g)

emptied_here : (t : Table) (objects : List ℕ) (f n : ℕ) → emptied_at t objects f (0 + n) ≡ emptied_at t objects f n
emptied_here t objects f n = (let e : 0 + n ≡ n = omega arith in ap (emptied_at t objects f) e)

pub emptied_more : (t : Table) (objects : List ℕ) (f n count : ℕ) (b : Bool) → b ≡ is_emptied t objects f n → count ≡ sum_over (emptied_at t objects f) 0 n → count + one_if b ≡ sum_over (emptied_at t objects f) 0 (n + 1)
emptied_more t objects f n count b is before =
    let more = sum_more (emptied_at t objects f) 0 n in
    let here = emptied_here t objects f n in
    let same : one_if b ≡ emptied_at t objects f n = ap one_if is in
    omega (arith, more, here, same, before)

-- the frame that is left is one of them
pub one_emptied : (t : Table) (objects : List ℕ) (f : ℕ) → f < length t.seat.frames → 1 ≤ frames_emptied t objects f
one_emptied t objects f inside =
    let at_least = sum_at (emptied_at t objects f) 0 (length t.seat.frames) f inside in
    let here = emptied_here t objects f f in
    let itself : emptied_at t objects f f ≡ 1 = ap (λ (b : Bool). one_if (if b then true else (is_sealed (frame_at t.seat.frames f).phase && are_all_taken t objects f))) (eq-eqb f f refl) in
    omega (arith, at_least, here, itself)
