-- The least object of a frame, and which of the frames looked at so far goes first.
use Rattle.std.specs.Prelude.{◌≡◌, ℕ, ◌≤◌, ◌<◌, true, is_some, count_by, take, Option, None, Some}
use Rattle.s4_types.specs.Pointer.{Place}
use Rattle.segment_word.specs.Layout.{frame_at}
use Rattle.segment_table.specs.Table.{Table, held_at, is_of}
use Rattle.segment_table.specs.Room.{whole_of}
use Rattle.segment_copier.specs.declared.choices.Survey.{Survey}
use Rattle.segment_copier.specs.Choosing.{held_count, IsLife, IsSparse, GoesBefore}

-- block b of frame f
abbrev pub block_at : Table → ℕ → ℕ → Place
block_at t f b = record { frame = f; block = b; generation = (frame_at t.seat.frames f).generation }

-- object o is the least that one of the held ones of the first n blocks of frame f is of
pub record IsLowestTo (t : Table) (f n o : ℕ) : Type 0 where
  pub block : ℕ
  pub payload : (1 ≤ block) × (block ≤ n)
  pub holds : is_of o (held_at t (block_at t f block)) ≡ true
  pub lowest : (b q : ℕ) → 1 ≤ b → b ≤ n → is_of q (held_at t (block_at t f b)) ≡ true → o ≤ q

-- none of the first n blocks of frame f is held
pub record HoldsNothing (t : Table) (f n : ℕ) : Type 0 where
  pub count : count_by (λ p. is_some (held_at t p)) (take n (whole_of t f)) ≡ 0
  pub none : (b : ℕ) → 1 ≤ b → b ≤ n → held_at t (block_at t f b) ≡ None

-- what is found in the first n blocks of frame f: nothing where none is held
abbrev pub IsFound : Table → ℕ → ℕ → Option ℕ → Type 0
IsFound t f n None = HoldsNothing t f n
IsFound t f n (Some o) = IsLowestTo t f n o

-- object o is the least that a held block of frame f is of, which is at a generation that pointers have
pub record IsLowestIn (t : Table) (f o : ℕ) : Type 0 where
  pub life : IsLife (frame_at t.seat.frames f).generation
  pub tells : IsLowestTo t f 15 o

-- A survey is of a frame below n that a move can be made out of, and that goes before all others below n: this many of its blocks are held,
-- and the least object that one of them is of.
pub record GoesFirst (t : Table) (n : ℕ) (s : Survey) : Type 0 where
  pub lowest : IsLowestIn t s.frame s.lowest
  pub count : s.count ≡ held_count t s.frame
  pub sparse : IsSparse t s.frame
  pub below : s.frame < n
  pub first : (g : ℕ) → g < n → IsSparse t g → GoesBefore t s.frame g

-- the survey of the first of the frames below n that a move can be made out of; none where there is no such frame
abbrev pub IsBestBelow : Table → ℕ → Option Survey → Type 0
IsBestBelow t n None = (g : ℕ) → g < n → IsSparse t g → ⊥
IsBestBelow t n (Some s) = GoesFirst t n s
