-- The first sector of a log: which image it goes on from.
use Rattle.std.specs.Prelude.{◌≡◌, ◌≢◌, ℕ, ◌≤◌, List, [], ◌∷◌, ◌++◌, length, take}
use Rattle.sha2.specs.Sha256.{sha256}
use Rattle.update_log.specs.declared.places.Place.{Place}
use Rattle.update_log.specs.Records.{long}
use Rattle.update_log.specs.Sectors.{zeros}

-- a header's mark, and `S4DLOG01`
abbrev pub magic : List ℕ
magic = 3 ∷ 83 ∷ 52 ∷ 68 ∷ 76 ∷ 79 ∷ 71 ∷ 48 ∷ 49 ∷ []

-- a header without its digest: of the image's digest, and how far the log goes at first
unfoldable pub header_front : List ℕ → ℕ → List ℕ
header_front image limit = magic ++ (image ++ (long limit ++ zeros 431))

unfoldable pub header_bytes : List ℕ → ℕ → List ℕ
header_bytes image limit = header_front image limit ++ sha256 (header_front image limit)

-- the file begins with a header of this image
pub record IsHeader (image : List ℕ) (limit : ℕ) (file : List ℕ) : Type 0 where
  pub bytes : take 512 file ≡ header_bytes image limit
  pub room : 512 ≤ limit
  pub long : limit ≤ length file

-- where the first record begins
abbrev pub start : List ℕ → ℕ → Place
start image limit = record { number = 1; digest = sha256 (header_front image limit); at = 512; limit = limit }

-- no image has a header that the file begins with
abbrev pub HasNoHeader : List ℕ → Type 0
HasNoHeader file = (image : List ℕ) (limit : ℕ) → length image ≡ 32 → IsHeader image limit file → ⊥

-- the file begins with the header of another image
abbrev pub HasOtherHeader : List ℕ → List ℕ → Type 0
HasOtherHeader image file = (other : List ℕ) × ((limit : ℕ) × ((length other ≡ 32) × ((other ≢ image) × IsHeader other limit file)))
