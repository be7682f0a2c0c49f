-- How long a difference is: what of two fronts differs decides.
use Rattle.std.specs.Prelude.{◌≡◌, ◌⊎◌, ℕ, zero, suc, ◌+◌, ◌*◌, ◌/◌, ◌≤◌, false, if◌then◌else◌, List, [], ◌∷◌, length, take, drop}
use Rattle.std.specs.Str.{bytes_eq}
use Rattle.image_update.specs.declared.kinds.Kind.{Kind}
use Rattle.image_update.specs.declared.kinds.Kind.TheVariants.{Head, Word, Block, Row, Span, AuditRow}
use Rattle.image_update.specs.Encoding.{encoded_length}
use Rattle.image_update.specs.Layout.{difference_of, key_in, pairs_of, part_pairs, size_of}
use Rattle.image_update.specs.Pairs.{Pair}

-- how many pairs have parts that differ
abbrev pub differing : List Pair → ℕ
differing [] = 0
differing (p ∷ pairs) = (if bytes_eq p.old p.new then 0 else 1) + differing pairs

-- how many bytes their new parts have
abbrev pub differing_bytes : List Pair → ℕ
differing_bytes [] = 0
differing_bytes (p ∷ pairs) = (if bytes_eq p.old p.new then 0 else length p.new) + differing_bytes pairs

-- Only what differs is put: an encoding has the new parts of the pairs that differ, and at most a step for each, and one more.
abbrev pub PutsWhatDiffers : Type 0
PutsWhatDiffers =
    (old new : List ℕ) → (length (difference_of old new).put ≡ differing_bytes (pairs_of old new))
    × (encoded_length (difference_of old new) ≤ 32 + 24 * differing (pairs_of old new) + differing_bytes (pairs_of old new))

-- a unit of this kind is found by its place alone
abbrev pub IsPlaced : Kind → Type 0
IsPlaced Head = Unit {0}
IsPlaced Word = Unit {0}
IsPlaced Block = Unit {0}
IsPlaced Row = ⊥
IsPlaced Span = ⊥
IsPlaced AuditRow = ⊥

-- how many of the first n units differ from those in their places
abbrev pub units_apart : ℕ → ℕ → List ℕ → List ℕ → ℕ
units_apart size zero old new = 0
units_apart size (suc n) old new = (if bytes_eq (take size old) (take size new) then 0 else 1) + units_apart size n (drop size old) (drop size new)

-- Of parts that have as many units, of kinds that are found by their places, those that differ are put and no others.
abbrev pub PutsUnitsApart : Type 0
PutsUnitsApart =
    (kind : Kind) (n : ℕ) (old new : List ℕ) → IsPlaced kind → length old ≡ size_of kind * n → length new ≡ size_of kind * n
    → (differing (part_pairs kind old new) ≡ units_apart (size_of kind) n old new)
    × (differing_bytes (part_pairs kind old new) ≡ size_of kind * units_apart (size_of kind) n old new)

-- a unit is one of the first n of bytes
abbrev pub HasUnit : ℕ → ℕ → List ℕ → List ℕ → Type 0
HasUnit size zero bytes unit = ⊥
HasUnit size (suc n) bytes unit = (take size bytes ≡ unit) ⊎ HasUnit size n (drop size bytes) unit

-- the keys of the first n units ascend, the first of them from a number on
abbrev pub Ascend : Kind → ℕ → ℕ → List ℕ → Type 0
Ascend kind low zero bytes = Unit {0}
Ascend kind low (suc n) bytes = (low ≤ key_in kind bytes) × Ascend kind (key_in kind bytes + 1) n (drop (size_of kind) bytes)

-- no unit that is put is one of the first n of the old bytes
abbrev pub PutNoneOf : Kind → ℕ → List ℕ → List Pair → Type 0
PutNoneOf kind n old [] = Unit {0}
PutNoneOf kind n old (p ∷ pairs) =
    (bytes_eq p.old p.new ≡ false → (unit : List ℕ) → HasUnit (size_of kind) (length p.new / size_of kind) p.new unit → HasUnit (size_of kind) n old unit → ⊥) × PutNoneOf kind n old pairs

-- Of parts whose units ascend by their keys, as rows, spans and audit rows do, no unit is put that both have.
abbrev pub PutsNoUnitAgain : Type 0
PutsNoUnitAgain =
    (kind : Kind) (m n : ℕ) (old new : List ℕ) → length old ≡ size_of kind * m → length new ≡ size_of kind * n
    → Ascend kind 0 m old → Ascend kind 0 n new → PutNoneOf kind m old (part_pairs kind old new)
