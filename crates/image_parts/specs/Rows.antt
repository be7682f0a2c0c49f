-- The rows of an image: how each is encoded and read, and those of their rules that look at no chain.
use Rattle.std.specs.Prelude.{◌≡◌, ℕ, zero, suc, ◌^◌, ◌<◌, ◌≤◌, List, [], ◌∷◌, ◌++◌, drop}
use Rattle.std.specs.Int.{w64}
use Rattle.codec.specs.Fields.{number}
use Rattle.image_parts.specs.Header.{number_in}
use Rattle.image_parts.specs.declared.headers.Header.{Header}
use Rattle.image_parts.specs.declared.rows.RowPart.{RowPart}

-- the 40 bytes of a row
unfoldable pub row_bytes : RowPart → List ℕ
row_bytes r =
    number w64 r.object ++ (number w64 r.created ++ (number w64 r.checkpoint ++
    (number w64 r.checkpoint_moment ++ number w64 r.head)))

-- a row has an encoding: its numbers are in their ranges
pub record IsRow (r : RowPart) : Type 0 where
  pub object : r.object < 2 ^ 64
  pub created : r.created < 2 ^ 64
  pub checkpoint : r.checkpoint < 2 ^ 64
  pub checkpoint_moment : r.checkpoint_moment < 2 ^ 64
  pub head : r.head < 2 ^ 64

-- the row that bytes begin with
unfoldable pub row_in : List ℕ → RowPart
row_in bytes = record {
  object = number_in w64 bytes;
  created = number_in w64 (drop 8 bytes);
  checkpoint = number_in w64 (drop 16 bytes);
  checkpoint_moment = number_in w64 (drop 24 bytes);
  head = number_in w64 (drop 32 bytes);
}

-- the first n rows
abbrev pub rows_in : ℕ → List ℕ → List RowPart
rows_in zero bytes = []
rows_in (suc n) bytes = row_in bytes ∷ rows_in n (drop 40 bytes)

-- The rules of a row after one of this object and creation: object and creation are greater, the object was given, it was
-- made by the clock, and where its checkpoint is a hole, which is eight zeros, there is no moment of one.
pub record KeepsRowRules (h : Header) (object created : ℕ) (r : RowPart) : Type 0 where
  pub ascends : object < r.object
  pub later : created < r.created
  pub given : r.object < h.next
  pub made : r.created ≤ h.clock
  pub hole : r.checkpoint ≡ 0 → r.checkpoint_moment ≡ 0

-- each row keeps the rules after the one before it
abbrev pub RowsFollow : Header → ℕ → ℕ → List RowPart → Type 0
RowsFollow h object created [] = Unit {0}
RowsFollow h object created (r ∷ rows) = KeepsRowRules h object created r × RowsFollow h r.object r.created rows

-- the rules of all rows
abbrev pub KeepRowRules : Header → List RowPart → Type 0
KeepRowRules h rows = RowsFollow h 0 0 rows
