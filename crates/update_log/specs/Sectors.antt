-- How a record is laid out in sectors of 512 bytes, each of them with a mark in front: 1 in front of a record's first sector, 2 of a
-- further one. What isn't written yet is zeros.
use Rattle.std.specs.Prelude.{ℕ, zero, suc, ◌+◌, ◌-◌, ◌*◌, ◌/◌, List, [], ◌∷◌, ◌++◌, length, take, drop, replicate}

-- the further sectors of a content
abbrev pub further : ℕ → List ℕ → List ℕ
further zero content = []
further (suc n) content = 2 ∷ (take 511 content ++ further n (drop 511 content))

-- the content of further sectors
abbrev pub further_in : ℕ → List ℕ → List ℕ
further_in zero bytes = []
further_in (suc n) bytes = take 511 (drop 1 bytes) ++ further_in n (drop 512 bytes)

-- how many further sectors a record has, by the bytes of its payload
abbrev pub further_count : ℕ → ℕ
further_count length = (55 + length) / 511

-- how many bytes a record has
abbrev pub size_of : ℕ → ℕ
size_of length = 512 + 512 * further_count length

abbrev pub zeros : ℕ → List ℕ
zeros n = replicate n 0

-- a content, and the zeros up to the end of the last sector
unfoldable pub padded : ℕ → List ℕ → List ℕ
padded n content = content ++ zeros (507 + 511 * n - length content)

-- a content in its sectors, without what the first one begins with
unfoldable pub laid : ℕ → List ℕ → List ℕ
laid n content = take 507 content ++ further n (drop 507 content)
