-- Data blocks that are counted.
use Rattle.std.proofs.Common.{◌≡◌, ℕ, ◌+◌, ◌^◌, ◌<◌, Bool, true, false, if◌then◌else◌, sym, ap, ◌∙◌, arith}
use Rattle.std.specs.Prelude.{nat_lt}
use Rattle.std.proofs.lemmas.Bool.{and_parts, ltb-true}
use Rattle.s4_types.specs.Pointer.{Place, IsPlace}
use Rattle.segment_word.specs.Layout.{frame_at}
use Rattle.segment_table.specs.Table.{Table, held_at}
use Rattle.segment_table.specs.Room.{sum_over}
use Rattle.segment_table.specs.Counts.{place_at}
use Rattle.segment_copier.specs.Moves.{is_data}
use Rattle.drive_compaction.specs.Choosing.{is_life}
use Rattle.drive_compaction.specs.Emptying.{block_of}
use Rattle.drive_compaction.specs.Holding.{data_at, data_in}
use Rattle.drive_compaction.proofs.Summing.{sum_more}
use Rattle.drive_compaction.proofs.Taken.{one_if}

-- ---- of one frame

-- the next block's place is the one that is looked at
place_here : (t : Table) (f n m generation : ℕ) (p : Place) → p ≡ record { frame = f; block = m; generation = generation } → m ≡ n + 1 → generation ≡ (frame_at t.seat.frames f).generation → p ≡ place_at t f (1 + n)
place_here t f n m generation p place block its =
    let second : m ≡ 1 + n = omega (arith, block) in
    place ∙ ap (block_of f generation) second ∙ ap (λ (g : ℕ). block_of f g (1 + n)) its

-- one block more was looked at
pub block_more : (t : Table) (f n m generation count : ℕ) (p : Place) (b : Bool) → p ≡ record { frame = f; block = m; generation = generation } → m ≡ n + 1 → generation ≡ (frame_at t.seat.frames f).generation
    → b ≡ is_data (held_at t p) → count ≡ sum_over (data_at t f) 1 n → count + one_if b ≡ sum_over (data_at t f) 1 (n + 1)
block_more t f n m generation count p b place block its is before =
    let more = sum_more (data_at t f) 1 n in
    let same : one_if b ≡ data_at t f (1 + n) = ap one_if (is ∙ ap (λ (q : Place). is_data (held_at t q)) (place_here t f n m generation p place block its)) in
    omega (arith, more, same, before)

-- all of them were
pub all_blocks : (t : Table) (f n generation count : ℕ) → n ≡ 15 → generation ≡ (frame_at t.seat.frames f).generation → is_life generation ≡ true → count ≡ sum_over (data_at t f) 1 n → count ≡ data_in t f
all_blocks t f n generation count end its life before =
    let all : sum_over (data_at t f) 1 n ≡ sum_over (data_at t f) 1 15 = ap (sum_over (data_at t f) 1) end in
    before ∙ all ∙ sym (ap (λ (b : Bool). if b then sum_over (data_at t f) 1 15 else 0) (ap is_life (sym its) ∙ life))

-- no pointer has the frame's generation
pub no_life : (t : Table) (f : ℕ) → is_life (frame_at t.seat.frames f).generation ≡ false → 0 ≡ data_in t f
no_life t f none = sym (ap (λ (b : Bool). if b then sum_over (data_at t f) 1 15 else 0) none)

-- no pointer has this generation, where none is made of it
pub no_place : (f m n generation : ℕ) → f < 2 ^ 16 → m ≡ n + 1 → n < 15 → (IsPlace (record { frame = f; block = m; generation = generation }) → ⊥) → (b : Bool) → is_life generation ≡ b → is_life generation ≡ false
no_place f m n generation frame block few none true is =
    let both = and_parts (nat_lt 0 generation) (nat_lt (generation + 1) (2 ^ 32)) is in
    absurd (none (record {
      frame = frame;
      lowest_block = omega (arith, block);
      highest_block = omega (arith, block, few);
      lowest_generation = (let low = ltb-true 0 generation both.0 in omega (arith, low));
      highest_generation = ltb-true (generation + 1) (2 ^ 32) both.1;
    }))
no_place f m n generation frame block few none false is = is

-- ---- of all frames

pub frame_more : (t : Table) (n count more : ℕ) → more ≡ data_in t n → count ≡ sum_over (data_in t) 0 n → count + more ≡ sum_over (data_in t) 0 (n + 1)
frame_more t n count more is before =
    let sum = sum_more (data_in t) 0 n in
    let here : data_in t (0 + n) ≡ data_in t n = (let e : 0 + n ≡ n = omega arith in ap (data_in t) e) in
    omega (arith, sum, here, is, before)
