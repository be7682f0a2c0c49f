-- How two fronts are cut into pairs: by their parts, each of units of one kind.
use Rattle.std.specs.Prelude.{ℕ, zero, suc, ◌+◌, ◌*◌, ◌/◌, nat_lt, ◌||◌, if◌then◌else◌, List, [], ◌∷◌, ◌++◌, length, take, drop, min}
use Rattle.std.specs.Int.{w64, w128}
use Rattle.image_parts.specs.Header.{header_in, number_in}
use Rattle.image_parts.specs.Frames.{contents_length}
use Rattle.image_update.specs.declared.counts.Counts.{Counts}
use Rattle.image_update.specs.declared.kinds.Kind.{Kind}
use Rattle.image_update.specs.declared.kinds.Kind.TheVariants.{Head, Word, Block, Row, Span, AuditRow}
use Rattle.image_update.specs.Changes.{Changes}
use Rattle.image_update.specs.Pairs.{Pair, changes_by}

-- ---- units

-- how many bytes a unit has
abbrev pub size_of : Kind → ℕ
size_of Head = 64
size_of Word = 8
size_of Block = 512
size_of Row = 40
size_of Span = 24
size_of AuditRow = 33

-- What a unit is found by in the other front: a row by its object, a span by its object and its first moment, an audit row by its
-- moment. Others are found by their place alone.
unfoldable pub key_in : Kind → List ℕ → ℕ
key_in Head unit = 0
key_in Word unit = 0
key_in Block unit = 0
key_in Row unit = number_in w64 unit
key_in Span unit = number_in w128 unit
key_in AuditRow unit = number_in w64 unit

-- How many bytes of the old front face how many of the new one, where both begin with a unit: a unit whose key is the lesser went
-- or came, and faces nothing.
abbrev pub facing : Kind → List ℕ → List ℕ → ℕ × ℕ
facing kind old new =
    if nat_lt (key_in kind old) (key_in kind new) then (size_of kind, 0)
    else (if nat_lt (key_in kind new) (key_in kind old) then (0, size_of kind) else (size_of kind, size_of kind))

-- pairs of at most this many units, and one of what is left
abbrev pub pairs_in : Kind → ℕ → List ℕ → List ℕ → List Pair
pairs_in kind zero old new = record { old = old; new = new } ∷ []
pairs_in kind (suc n) old new =
    if nat_lt (length old) (size_of kind) || nat_lt (length new) (size_of kind)
    then record { old = old; new = new } ∷ []
    else record { old = take (facing kind old new).0 old; new = take (facing kind old new).1 new } ∷ pairs_in kind n (drop (facing kind old new).0 old) (drop (facing kind old new).1 new)

-- the pairs of two parts of a front: each has a unit of at least one of them
abbrev pub part_pairs : Kind → List ℕ → List ℕ → List Pair
part_pairs kind old new = pairs_in kind (length old / size_of kind + length new / size_of kind) old new

-- ---- parts

-- how many parts of each kind a front has, as its header says, and none of any where there is no header
unfoldable pub counts_in : List ℕ → Counts
counts_in front =
    if nat_lt (length front) 512 then record { frames = 0; rows = 0; spans = 0 }
    else record { frames = (header_in front).frames; rows = (header_in front).rows; spans = (header_in front).spans }

-- how many bytes are after the word of the frame that bytes begin with, and none where there is no word
unfoldable pub contents_in : List ℕ → ℕ
contents_in bytes = if nat_lt (length bytes) 8 then 0 else contents_length (number_in w64 bytes)

-- the pairs of the first frames: their words, and their blocks
abbrev pub frame_pairs : ℕ → List ℕ → List ℕ → List Pair
frame_pairs zero old new = []
frame_pairs (suc n) old new =
    part_pairs Word (take 8 old) (take 8 new)
    ++ (part_pairs Block (take (contents_in old) (drop 8 old)) (take (contents_in new) (drop 8 new))
    ++ frame_pairs n (drop (contents_in old) (drop 8 old)) (drop (contents_in new) (drop 8 new)))

-- what is after the first frames
abbrev pub after_frames : ℕ → List ℕ → List ℕ
after_frames zero bytes = bytes
after_frames (suc n) bytes = after_frames n (drop (contents_in bytes) (drop 8 bytes))

-- the pairs of rows, spans and audit rows, which are all that is left
abbrev pub row_pairs : Counts → Counts → List ℕ → List ℕ → List Pair
row_pairs before now old new =
    part_pairs Row (take (40 * before.rows) old) (take (40 * now.rows) new)
    ++ (part_pairs Span (take (24 * before.spans) (drop (40 * before.rows) old)) (take (24 * now.spans) (drop (40 * now.rows) new))
    ++ part_pairs AuditRow (drop (24 * before.spans) (drop (40 * before.rows) old)) (drop (24 * now.spans) (drop (40 * now.rows) new)))

-- how many frames are compared: as many as both have
abbrev pub frames_of : List ℕ → List ℕ → ℕ
frames_of old new = min (counts_in old).frames (counts_in new).frames

-- the pairs of two fronts
abbrev pub pairs_of : List ℕ → List ℕ → List Pair
pairs_of old new =
    part_pairs Head (take 512 old) (take 512 new)
    ++ (frame_pairs (frames_of old new) (drop 512 old) (drop 512 new)
    ++ row_pairs (counts_in old) (counts_in new) (after_frames (frames_of old new) (drop 512 old)) (after_frames (frames_of old new) (drop 512 new)))

-- what changed from one front to the next
abbrev pub difference_of : List ℕ → List ℕ → Changes
difference_of old new = changes_by (pairs_of old new)
