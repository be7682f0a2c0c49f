-- The fields that records are made of: how each is encoded, and how it is read from the front of bytes.
use Rattle.std.specs.Prelude.{◌≡◌, ℕ, zero, suc, ◌+◌, ◌-◌, ◌^◌, Bool, true, false, cond, List, [], ◌∷◌, ◌++◌, length, take, drop, replicate, Option, Some, None, IfSome, nat_lt, nat_le, ◌==◌, ◌&&◌, if◌then◌else◌}
use Rattle.std.specs.Int.{Width, w16, w32, byte_len, from_be_bytes, to_be_bytes}
use Rattle.s4_types.specs.Pointer.{Place, IsPlace}

infixl 10 ◌>>=◌
abbrev pub ◌>>=◌ : {A B : Type 0} → Option A → (A → Option B) → Option B
(Some x) >>= f = f x
None >>= f = None

-- what a function answers, seen by view, is what reading gives
abbrev pub Reads : {X Y : Type 0} → (X → Y) → Option X → Option Y → Type 0
Reads view (Some x) read = read ≡ Some (view x)
Reads view None read = read ≡ None

-- a value where a test holds
abbrev pub kept : {A : Type 0} → Bool → A → Option A
kept test x = if test then Some x else None

-- ---- encoding

-- a number, its highest byte first
unfoldable pub number : Width → ℕ → List ℕ
number w n = to_be_bytes w n

-- bytes that must be zero
unfoldable pub zeros : ℕ → List ℕ
zeros n = replicate n 0

-- a pointer, or eight zeros for a hole
unfoldable pub slot : Option Place → List ℕ
slot None = zeros 8
slot (Some p) = number w16 p.frame ++ (p.block ∷ 0 ∷ number w32 p.generation)

-- ---- reading

-- a byte, and the bytes after it
abbrev pub byte_at : List ℕ → Option (ℕ × List ℕ)
byte_at [] = None
byte_at (b ∷ rest) = Some (b, rest)

-- a number, and the bytes after it
unfoldable pub number_at : Width → List ℕ → Option (ℕ × List ℕ)
number_at w bytes = if nat_lt (length bytes) (byte_len w) then None else Some (from_be_bytes w (take (byte_len w) bytes), drop (byte_len w) bytes)

-- this many bytes, and the bytes after them
unfoldable pub bytes_at : ℕ → List ℕ → Option (List ℕ × List ℕ)
bytes_at n bytes = if nat_lt (length bytes) n then None else Some (take n bytes, drop n bytes)

-- what comes after this many zeros
unfoldable pub zeros_at : ℕ → List ℕ → Option (Unit {0} × List ℕ)
zeros_at zero bytes = Some (tt, bytes)
zeros_at (suc n) [] = None
zeros_at (suc n) (b ∷ bytes) = if b == 0 then zeros_at n bytes else None

-- the numbers of a pointer: blocks are 1 to 15, generations 1 to 2^32 - 2
abbrev pub is_place : Place → Bool
is_place p = nat_le 1 p.block && (nat_le p.block 15 && (nat_le 1 p.generation && nat_lt (p.generation + 1) (2 ^ 32)))

-- the pointer or the hole that four numbers encode
unfoldable pub slot_of : ℕ → ℕ → ℕ → ℕ → Option (Option Place)
slot_of frame block gap generation =
    let place : Place = record { frame = frame; block = block; generation = generation } in
    if gap == 0 then (if frame == 0 && (block == 0 && generation == 0) then Some None else kept (is_place place) (Some place)) else None

-- what comes after the block of a slot
abbrev pub behind_block : ℕ → ℕ → List ℕ → Option (Option Place × List ℕ)
behind_block frame block bytes = do
  gap ← byte_at bytes
  generation ← number_at w32 gap.1
  place ← slot_of frame block gap.0 generation.0
  Some (place, generation.1)

-- a pointer or a hole, and the bytes after it
unfoldable pub slot_at : List ℕ → Option (Option Place × List ℕ)
slot_at bytes = do
  frame ← number_at w16 bytes
  block ← byte_at frame.1
  behind_block frame.0 block.0 block.1

-- a byte that must be this one, and the bytes after it
unfoldable pub mark_at : ℕ → List ℕ → Option (Unit {0} × List ℕ)
mark_at mark [] = None
mark_at mark (b ∷ rest) = if b == mark then Some (tt, rest) else None

-- one or zero
abbrev pub bit : Bool → ℕ
bit b = cond b 1 0

-- a byte that is one or zero
unfoldable pub flag_at : List ℕ → Option (Bool × List ℕ)
flag_at [] = None
flag_at (zero ∷ rest) = Some (false, rest)
flag_at (suc zero ∷ rest) = Some (true, rest)
flag_at (suc (suc b) ∷ rest) = None

-- this many of one kind, one after the other
unfoldable pub many_at : {A : Type 0} → (List ℕ → Option (A × List ℕ)) → ℕ → List ℕ → Option (List A × List ℕ)
many_at read zero bytes = Some ([], bytes)
many_at read (suc n) bytes = do
  first ← read bytes
  others ← many_at read n first.1
  Some (first.0 ∷ others.0, others.1)

-- an attribute in ATTRIBUTE_BYTES, with zeros after it
unfoldable pub padded : List ℕ → List ℕ
padded attribute = attribute ++ zeros (64 - length attribute)

-- an attribute of that length in ATTRIBUTE_BYTES, and the bytes after them
unfoldable pub padded_at : ℕ → List ℕ → Option (List ℕ × List ℕ)
padded_at len bytes = do
  attribute ← bytes_at len bytes
  gap ← zeros_at (64 - len) attribute.1
  made ← kept (nat_le (length attribute.0) 64) attribute.0
  Some (made, gap.1)

-- what is made, where nothing is left
abbrev pub ended : {A : Type 0} → Option A → List ℕ → Option A
ended made [] = made
ended made (_ ∷ _) = None

-- all of the bytes
abbrev pub all_of : {A : Type 0} → (List ℕ → Option (A × List ℕ)) → List ℕ → Option A
all_of read bytes = read bytes >>= λ x. ended (Some x.0) x.1

-- the bytes encode this pointer, or this hole
abbrev pub SpellsSlot : List ℕ → Option Place → Type 0
SpellsSlot bytes p = IfSome p IsPlace × (bytes ≡ slot p)
