-- A record of a log, to the byte. Numbers have their highest byte first.
use Rattle.std.specs.Prelude.{ℕ, ◌+◌, ◌-◌, ◌^◌, ◌<◌, ◌≤◌, ◌==◌, if◌then◌else◌, List, [], ◌∷◌, ◌++◌, length}
use Rattle.std.specs.Int.{w32, w64, to_be_bytes}
use Rattle.sha2.specs.Sha256.{sha256}
use Rattle.update_log.specs.declared.places.Place.{Place}
use Rattle.update_log.specs.Sectors.{further_count, laid, padded, size_of}

-- What a record has: how far the log goes, from it on, and a payload. One without a payload only says that the log goes farther.
pub record Entry : Type 0 where
  pub limit : ℕ
  pub payload : List ℕ

abbrev pub entry_of : ℕ → List ℕ → Entry
entry_of limit payload = record { limit = limit; payload = payload }

-- an entry has a record: its numbers are in their ranges
pub record IsEntry (e : Entry) : Type 0 where
  pub limit : e.limit < 2 ^ 64
  pub small : length e.payload ≤ 2 ^ 24

-- a number in four bytes, and in eight
unfoldable pub word : ℕ → List ℕ
word n = to_be_bytes w32 n

unfoldable pub long : ℕ → List ℕ
long n = to_be_bytes w64 n

-- how many bytes aren't zero
abbrev pub nonzeros : List ℕ → ℕ
nonzeros [] = 0
nonzeros (b ∷ bytes) = (if b == 0 then 0 else 1) + nonzeros bytes

-- a record's numbers: which one it is, how far the log goes, and how many bytes the payload has
unfoldable pub numbers : Place → Entry → List ℕ
numbers p e = long p.number ++ (long e.limit ++ word (length e.payload))

-- A record's digest is of the digest before it, its numbers and its payload.
unfoldable pub chain : Place → Entry → List ℕ
chain p e = sha256 (p.digest ++ (numbers p e ++ e.payload))

unfoldable pub content : Place → Entry → List ℕ
content p e = numbers p e ++ (chain p e ++ e.payload)

-- a record without its first mark and its count
unfoldable pub body : Place → Entry → List ℕ
body p e = laid (further_count (length e.payload)) (padded (further_count (length e.payload)) (content p e))

-- A record. Its count is 2^32 - 1 less the bytes of it that aren't zero, the first mark with them.
unfoldable pub record_bytes : Place → Entry → List ℕ
record_bytes p e = 1 ∷ (word (2 ^ 32 - 2 - nonzeros (body p e)) ++ body p e)

-- where the log goes on after a record
abbrev pub after : Place → Entry → Place
after p e = record { number = p.number + 1; digest = chain p e; at = p.at + size_of (length e.payload); limit = e.limit }
