-- Which bytes are a log, and what it has.
use Rattle.std.specs.Prelude.{◌≡◌, ℕ, ◌+◌, ◌==◌, if◌then◌else◌, ◌^◌, ◌≤◌, List, [], ◌∷◌, length, take, drop}
use Rattle.update_log.specs.declared.places.Place.{Place}
use Rattle.update_log.specs.Sectors.{size_of}
use Rattle.update_log.specs.Records.{Entry, after, record_bytes}
use Rattle.update_log.specs.Tails.{IsOpen}
use Rattle.update_log.specs.Headers.{IsHeader, start}

-- the record of an entry is at a place of a file
pub record Begins (p : Place) (e : Entry) (file : List ℕ) : Type 0 where
  pub within : p.at + size_of (length e.payload) ≤ p.limit
  pub bytes : take (size_of (length e.payload)) (drop p.at file) ≡ record_bytes p e
  pub grows : p.limit ≤ e.limit
  pub long : e.limit ≤ length file
  pub small : length e.payload ≤ 2 ^ 24

-- the records of these entries follow each other from one place to another
abbrev pub Reaches : List Entry → Place → List ℕ → Place → Type 0
Reaches [] p file end = end ≡ p
Reaches (e ∷ entries) p file end = Begins p e file × Reaches entries (after p e) file end

-- The bytes from a place on, as far as the log goes. What is after them isn't read: it may be anything.
unfoldable pub tail_of : Place → List ℕ → List ℕ
tail_of p file = drop p.at (take p.limit file)

-- the file is a log of this image, with these entries and none after them
pub record IsLog (image : List ℕ) (entries : List Entry) (file : List ℕ) (end : Place) : Type 0 where
  pub limit : ℕ
  pub header : IsHeader image limit file
  pub records : Reaches entries (start image limit) file end
  pub ended : IsOpen (tail_of end file)

-- the payloads of entries that have one
abbrev pub payloads_of : List Entry → List (List ℕ)
payloads_of [] = []
payloads_of (e ∷ entries) = if length e.payload == 0 then payloads_of entries else e.payload ∷ payloads_of entries

-- neither a record nor the end of a log's records is at a place
abbrev pub FailsAt : Place → List ℕ → Type 0
FailsAt p file = (IsOpen (tail_of p file) → ⊥) × ((e : Entry) → Begins p e file → ⊥)

-- the file is a log of this image, with these payloads
abbrev pub Accepts : List ℕ → List (List ℕ) → List ℕ → Place → Type 0
Accepts image payloads file end = (entries : List Entry) × ((payloads_of entries ≡ payloads) × IsLog image entries file end)

-- the file isn't a log of any image
abbrev pub HasNoLog : List ℕ → Type 0
HasNoLog file = (image : List ℕ) (entries : List Entry) (end : Place) → length image ≡ 32 → IsLog image entries file end → ⊥
