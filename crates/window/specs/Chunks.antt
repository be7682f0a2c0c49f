-- Runs in chunks: each chunk has all runs of the lists from the chunk before it on, up to one number.
use Rattle.std.specs.Prelude.{◌≡◌, ℕ, ◌+◌, ◌-◌, ◌<◌, ◌≤◌, ◌^◌, nat_lt, false, Bool, min, filter, if◌then◌else◌, List, [], ◌∷◌, ◌++◌, length, Option, None, Some}
use Rattle.std.specs.List.{AllByRecursion}
use Rattle.s4_types.specs.declared.spans.Span.{Span}
use Rattle.window.specs.Runs.{Ascend, AllEndFrom, AllEndBefore, AreFewInEachList, is_live}
use Rattle.s4_types.specs.declared.limits.TheConstants.{RUNS_IN_ALL}
use Rattle.window.specs.declared.chunks.Chunk.{Chunk}
use Rattle.window.specs.declared.chunks.Fresh.{Fresh}
use Rattle.window.specs.declared.chunks.Fresh.TheVariants.{One, All}

-- the runs of all chunks
abbrev pub flat : List Chunk → List Span
flat [] = []
flat (c ∷ cs) = c.runs.items ++ flat cs

-- the runs are of lists from one number to another
abbrev pub AreWithin : ℕ → ℕ → List Span → Type 0
AreWithin low high runs = AllByRecursion (λ run. (low ≤ run.object) × (run.object ≤ high)) runs

-- each chunk has runs of its own lists alone, from a number on
abbrev pub Parted : ℕ → List Chunk → Type 0
Parted low [] = Unit {0}
Parted low (c ∷ cs) = (low ≤ c.up_to) × AreWithin low c.up_to c.runs.items × Parted (c.up_to + 1) cs

-- the chunk that a list's runs are in
abbrev pub holder : ℕ → List Chunk → Option Chunk
holder list [] = None
holder list (c ∷ cs) = if nat_lt c.up_to list then holder list cs else Some c

-- another chunk in place of that
abbrev pub put : ℕ → Chunk → List Chunk → List Chunk
put list fresh [] = []
put list fresh (c ∷ cs) = if nat_lt c.up_to list then c ∷ put list fresh cs else fresh ∷ cs

-- the chunks with what a plan made
abbrev pub renewed : ℕ → Fresh → List Chunk → List Chunk
renewed list (One chunk) chunks = put list chunk chunks
renewed list (All all) chunks = all.items

-- the objects' numbers have 64 bits
abbrev pub AllNumbered : List Span → Type 0
AllNumbered runs = AllByRecursion (λ run. run.object < 2 ^ 64) runs

-- each chunk's runs end from the moment on that it tells
abbrev pub AllDated : List Chunk → Type 0
AllDated chunks = AllByRecursion (λ c. AllEndFrom c.earliest c.runs.items) chunks

-- the earliest moment that chunks tell, or the last moment where there is none
abbrev pub told : List Chunk → ℕ
told [] = 2 ^ 64 - 1
told (c ∷ cs) = min c.earliest (told cs)

-- a chunk without the runs that end below the floor
abbrev pub IsSifted : ℕ → Chunk → Chunk → Type 0
IsSifted floor c d = (d.up_to ≡ c.up_to) × (d.runs.items ≡ filter (is_live floor) c.runs.items) × AllEndFrom d.earliest d.runs.items

-- so is each
abbrev pub AllSifted : ℕ → List Chunk → List Chunk → Type 0
AllSifted floor [] [] = Unit {0}
AllSifted floor [] (d ∷ ds) = ⊥
AllSifted floor (c ∷ cs) [] = ⊥
AllSifted floor (c ∷ cs) (d ∷ ds) = IsSifted floor c d × AllSifted floor cs ds

-- whether a plan makes one chunk with more runs than a number
abbrev pub is_longer : ℕ → Fresh → Bool
is_longer most (One chunk) = nat_lt most (length chunk.runs.items)
is_longer most (All all) = false

-- The runs of chunks are in order, past, numbered and live, each in the chunk of its list, and those of none ends
-- before what its chunk tells or before an earliest end of all; a count says how many there are, which is not too many,
-- and no list has too many of them.
abbrev pub AreSoundChunks : ℕ → ℕ → ℕ → ℕ → List Chunk → Type 0
AreSoundChunks clock floor end count chunks =
    Ascend (flat chunks) × AllEndBefore clock (flat chunks) × AllNumbered (flat chunks) × Parted 0 chunks × AllDated chunks × AllEndFrom floor (flat chunks) × AllEndFrom end (flat chunks)
    × (count ≡ length (flat chunks)) × (count ≤ RUNS_IN_ALL) × AreFewInEachList (flat chunks)

-- Runs in order fall in two parts: those of the lists up to a number, which one of them has, and those after.
pub record IsCutOff (runs : List Span) (list : ℕ) (part rest : List Span) : Type 0 where
  pub is : runs ≡ part ++ rest
  pub within : AllByRecursion (λ run. run.object ≤ list) part
  pub behind : AllByRecursion (λ run. list + 1 ≤ run.object) rest
  pub from : (low : ℕ) → AllByRecursion (λ run. low ≤ run.object) runs → low ≤ list
  pub below : list + 1 < 2 ^ 64
  pub shorter : length rest < length runs
