-- Rows that blocks make of objects, and which of an object's is the newest.
use Rattle.std.specs.Prelude.{◌≡◌, ℕ, ◌+◌, ◌*◌, ◌<◌, ◌==◌, ◌&&◌, ◌||◌, not, nat_lt, if◌then◌else◌, Bool, true, false, List, [], ◌∷◌, slice_index_or, Option, Some, None, MatchOption}
use Rattle.s4_types.specs.Pointer.{Place, IsPlace}
use Rattle.block_log.specs.Log.{Stored}
use Rattle.image_salvage.specs.declared.newest.Note.{Note}

-- ---- places

-- where a block is in the order of frames, and of the blocks of each
abbrev pub order_of : Place → ℕ
order_of p = 16 * p.frame + p.block

-- These are the generations at which frames have used blocks.
abbrev pub AreGenerations : (Place → Option Stored) → List ℕ → Type 0
AreGenerations used generations = (p : Place) (block : Stored) → used p ≡ Some block → p.generation ≡ slice_index_or generations p.frame 0

-- A place comes here in order, at the generation of its frame.
abbrev pub IsAt : List ℕ → ℕ → Place → Type 0
IsAt generations n p = (order_of p ≡ n) × (p.generation ≡ slice_index_or generations p.frame 0)

-- ---- notes

-- whether the first of two lists of numbers is below the other, by the first number that differs; a list is below one that it is the front of
abbrev pub is_below : List ℕ → List ℕ → Bool
is_below [] [] = false
is_below [] (y ∷ ys) = true
is_below (x ∷ xs) [] = false
is_below (x ∷ xs) (y ∷ ys) = nat_lt x y || (x == y && is_below xs ys)

-- what puts a note before others, the first number that differs
abbrev pub age_of : Note → List ℕ
age_of note = note.moment ∷ note.step ∷ note.kept ∷ note.order ∷ []

-- whether a note is newer than another
abbrev pub is_newer : Note → Note → Bool
is_newer note other = is_below (age_of other) (age_of note)

-- whether a note is passed over, where another is there
abbrev pub is_passed : Option Note → Note → Bool
is_passed None note = false
is_passed (Some held) note = is_newer held note

-- what objects have, where a note is taken that isn't passed over
abbrev pub with_newer : (ℕ → Option Note) → Note → ℕ → Option Note
with_newer notes note = λ o. if note.row.object == o && not (is_passed (notes o) note) then Some note else notes o

-- ---- the newest

-- No block at a place below n in order makes a row of the object.
abbrev pub HasNone : (Place → Note → Type 0) → ℕ → ℕ → Type 0
HasNone Makes n o = (p : Place) (note : Note) → IsPlace p → order_of p < n → Makes p note → note.row.object ≡ o → ⊥

-- Of the rows that blocks at places below n in order make of an object, this is the newest.
pub record IsNewest (Makes : Place → Note → Type 0) (n o : ℕ) (note : Note) : Type 0 where
  pub place : Place
  pub is_place : IsPlace place
  pub below : order_of place < n
  pub made : Makes place note
  pub object : note.row.object ≡ o
  pub none_newer : (p : Place) (other : Note) → IsPlace p → order_of p < n → Makes p other → other.row.object ≡ o → is_newer other note ≡ false

-- So it is of each object: each has the newest, and none where there is none.
abbrev pub AreNewest : (Place → Note → Type 0) → ℕ → (ℕ → Option Note) → Type 0
AreNewest Makes n notes = (o : ℕ) → MatchOption (notes o) (HasNone Makes n o) (IsNewest Makes n o)
