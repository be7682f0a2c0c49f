-- The summary of a frame: which of its payload blocks are used and for what, and how it is encoded in one block with a
-- digest of the whole frame.
use Rattle.std.specs.Prelude.{◌≡◌, ℕ, ◌+◌, ◌-◌, ◌*◌, ◌^◌, ◌<◌, ◌≤◌, ◌==◌, Bool, List, [], ◌∷◌, ◌++◌, length, drop, Option, Some, None, nat_lt, nat_le, ◌&&◌, if◌then◌else◌, true}
use Rattle.std.specs.Int.{w16, w32, w64}
use Rattle.std.specs.List.{concat, flat_map, list_all, AllByRecursion}
use Rattle.sha2.specs.Sha256.{sha256}
use Rattle.block_log.specs.declared.kinds.BlockKind.{BlockKind}
use Rattle.block_log.specs.declared.kinds.BlockKind.TheVariants.{Journal, Checkpoint, Data, Pointers}
use Rattle.codec.specs.Fields.{◌>>=◌, number, zeros, kept, byte_at, number_at, zeros_at, mark_at, many_at}
use Rattle.codec.specs.declared.summaries.BlockRole.{BlockRole}

-- a frame at one of its generations, and what its used payload blocks are, the first of them block 1
pub record SummaryFields : Type 0 where
  pub frame : ℕ
  pub generation : ℕ
  pub roles : List BlockRole

-- a used block is some object's
abbrev pub has_object : BlockRole → Bool
has_object p = nat_le 1 p.object

-- the rules of a summary: generations are 1 to 2^32 - 2, one to 15 blocks are used, and each is some object's
unfoldable pub summary_rules : SummaryFields → Bool
summary_rules s =
    nat_le 1 s.generation && (nat_lt (s.generation + 1) (2 ^ 32) && (nat_le 1 (length s.roles) && (nat_le (length s.roles) 15 && list_all has_object s.roles)))

-- the rules in words
pub record KeepsSummaryRules (s : SummaryFields) : Type 0 where
  pub least : 1 ≤ s.generation
  pub most : s.generation + 1 < 2 ^ 32
  pub used : 1 ≤ length s.roles
  pub room : length s.roles ≤ 15
  pub objects : AllByRecursion (λ p. 1 ≤ p.object) s.roles

-- the number of a role's object is in its range
abbrev pub IsBlockRole : BlockRole → Type 0
IsBlockRole p = p.object < 2 ^ 64

-- the numbers of a summary are in their ranges
pub record SummaryNumbers (s : SummaryFields) : Type 0 where
  pub frame : s.frame < 2 ^ 16
  pub roles : AllByRecursion IsBlockRole s.roles

-- the summary has an encoding
abbrev pub IsSummary : SummaryFields → Type 0
IsSummary s = (summary_rules s ≡ true) × SummaryNumbers s

-- ---- encoding

-- the number of a kind; 0 is the kind of an unused block
abbrev pub kind_number : BlockKind → ℕ
kind_number Journal = 1
kind_number Checkpoint = 2
kind_number Data = 3
kind_number Pointers = 4

-- the nine bytes of a used block
unfoldable pub role_spelling : BlockRole → List ℕ
role_spelling p = kind_number p.kind ∷ number w64 p.object

-- The first 480 bytes of a summary: "S4sg", the numbers, nine bytes for each used block, and zeros. The nine bytes of
-- each unused block, which are zeros too, are the first of these.
unfoldable pub summary_head : SummaryFields → List ℕ
summary_head s =
    0x53 ∷ 0x34 ∷ 0x73 ∷ 0x67 ∷ (number w16 s.frame ++ (length s.roles ∷ 0 ∷ (number w32 s.generation ++ (zeros 4 ++ (flat_map role_spelling s.roles ++ zeros (464 - 9 * length s.roles))))))

-- the digest of a frame: of the head of its summary, and its payload blocks in their order
abbrev pub frame_digest : List ℕ → List (List ℕ) → List ℕ
frame_digest head payload = sha256 (head ++ concat payload)

-- the block of a summary in front of these payload blocks
unfoldable pub summary_spelling : SummaryFields → List (List ℕ) → List ℕ
summary_spelling s payload = summary_head s ++ frame_digest (summary_head s) payload

-- a used block isn't a part of a checkpoint
abbrev pub is_whole : BlockRole → Bool
is_whole p = nat_lt (kind_number p.kind) 4

-- no used block is a part of a checkpoint: so in each image of the first version
abbrev pub has_no_parts : SummaryFields → Bool
has_no_parts s = list_all is_whole s.roles

-- a block of zeros
abbrev pub IsBlank : List ℕ → Type 0
IsBlank block = block ≡ zeros 512

-- the payload blocks after the first ones, of which this many are used, are zeros
abbrev pub UnusedAreBlank : ℕ → List (List ℕ) → Type 0
UnusedAreBlank used payload = AllByRecursion IsBlank (drop used payload)

-- the block encodes this summary in front of these payload blocks
abbrev pub SpellsSummary : List (List ℕ) → List ℕ → SummaryFields → Type 0
SpellsSummary payload block s = IsSummary s × (UnusedAreBlank (length s.roles) payload × (block ≡ summary_spelling s payload))

-- ---- reading

-- the kind of a used block, and the bytes after it
unfoldable pub kind_at : List ℕ → Option (BlockKind × List ℕ)
kind_at [] = None
kind_at (b ∷ rest) = if b == 1 then Some (Journal, rest) else (if b == 2 then Some (Checkpoint, rest) else (if b == 3 then Some (Data, rest) else (if b == 4 then Some (Pointers, rest) else None)))

-- what a used block is, and the bytes after it
unfoldable pub role_at : List ℕ → Option (BlockRole × List ℕ)
role_at bytes = do
  kind ← kind_at bytes
  object ← number_at w64 kind.1
  Some (record { kind = kind.0; object = object.0 }, object.1)

-- what this many used blocks are, of at most 15
unfoldable pub roles_at : ℕ → List ℕ → Option (List BlockRole × List ℕ)
roles_at used bytes = if nat_lt 15 used then None else many_at role_at used bytes

-- a summary that keeps the rules
abbrev pub checked_summary : SummaryFields → Option SummaryFields
checked_summary s = kept (summary_rules s) s

-- reading what comes after the numbers in the head of a summary
abbrev pub behind_numbers : ℕ → ℕ → ℕ → List ℕ → Option (SummaryFields × List ℕ)
behind_numbers frame used generation bytes = do
  roles ← roles_at used bytes
  end ← zeros_at (464 - 9 * used) roles.1
  made ← checked_summary (record { frame = frame; generation = generation; roles = roles.0 })
  Some (made, end.1)

-- reading what comes after the marks in the head of a summary
abbrev pub behind_marks : List ℕ → Option (SummaryFields × List ℕ)
behind_marks bytes = do
  frame ← number_at w16 bytes
  used ← byte_at frame.1
  gap ← mark_at 0 used.1
  generation ← number_at w32 gap.1
  reserve ← zeros_at 4 generation.1
  behind_numbers frame.0 used.0 generation.0 reserve.1

-- reading the head of a summary
unfoldable pub head_at : List ℕ → Option (SummaryFields × List ℕ)
head_at bytes = do
  first ← mark_at 0x53 bytes
  second ← mark_at 0x34 first.1
  third ← mark_at 0x73 second.1
  fourth ← mark_at 0x67 third.1
  behind_marks fourth.1
