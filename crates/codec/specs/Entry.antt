-- A journal entry: what one change, or a part of it, made of an inode, both ways; and how it is encoded.
use Rattle.std.specs.Prelude.{◌≡◌, ℕ, ◌+◌, ◌*◌, ◌/◌, ◌%◌, ◌^◌, ◌<◌, ◌≤◌, Bool, true, false, not, List, [], ◌∷◌, ◌++◌, length, Option, Some, None, IfSome, is_some, is_none, nat_lt, nat_le, ◌==◌, ◌&&◌, ◌||◌, if◌then◌else◌}
use Rattle.std.specs.Int.{w16, w32, w64}
use Rattle.std.specs.List.{flat_map, AllByRecursion, list_all}
use Rattle.std.specs.Cmp.Lexicographic.{pointwise}
use Rattle.s4_types.specs.Pointer.{Place}
use Rattle.s4_types.specs.declared.limits.TheConstants.{OBJECT_BYTES, OBJECT_BLOCKS, ENTRY_TRIPLES, SHORTEST_ENTRY_BYTES, TRIPLE_BYTES}
use Rattle.codec.specs.Fields.{◌>>=◌, number, slot, bit, kept, byte_at, bytes_at, number_at, slot_at, many_at}
use Rattle.codec.specs.Checkpoint.{IsSlot}
use Rattle.codec.specs.declared.entries.Status.{Status}
use Rattle.codec.specs.declared.entries.Triple.{Triple}
use Rattle.codec.specs.declared.entries.Pair.{Pair}
use Rattle.codec.specs.declared.entries.Flags.{Flags}
use Rattle.codec.specs.declared.versions.ImageVersion.{ImageVersion}
use Rattle.codec.specs.declared.versions.ImageVersion.TheVariants.{First, Second}
use Rattle.codec.specs.declared.versions.TheConstants.{FIRST_OBJECT_BLOCKS, FIRST_OBJECT_BYTES}
use Rattle.codec.specs.Versions.{triple_bytes_by}

-- a moment, an inode's status before and after it, its two attributes where they differ, and its pointers
-- that differ
pub record EntryFields : Type 0 where
  pub moment : ℕ
  pub before : Status
  pub after : Status
  pub pair : Option Pair
  pub triples : List Triple

-- the two lead to one block, or are both holes
abbrev pub same_slot : Option Place → Option Place → Bool
same_slot None None = true
same_slot None (Some q) = false
same_slot (Some p) None = false
same_slot (Some p) (Some q) = p.frame == q.frame && (p.block == q.block && p.generation == q.generation)

-- The triples' indices ascend from this one on and are below OBJECT_BLOCKS, and the two pointers of each differ.
unfoldable pub ascend_from : ℕ → List Triple → Bool
ascend_from low [] = true
ascend_from low (t ∷ triples) = (nat_le low t.index && (nat_lt t.index OBJECT_BLOCKS && not (same_slot t.before t.after))) && ascend_from (t.index + 1) triples

-- what was dead had no size and no moment of change
abbrev pub was_nothing : Status → Bool
was_nothing before = before.alive || (before.size == 0 && before.changed == 0)

-- what is alive was changed at the moment; of what is dead the flag alone changed
abbrev pub changes_now : EntryFields → Bool
changes_now e =
    if e.after.alive then e.after.changed == e.moment else
    (e.before.size == e.after.size && (e.before.changed == e.after.changed && (is_none e.pair && length e.triples == 0)))

-- the attributes differ
abbrev pub differs : Option Pair → Bool
differs None = true
differs (Some p) = not (pointwise ◌==◌ p.before p.after)

-- the rules of a single entry
unfoldable pub entry_rules : EntryFields → Bool
entry_rules e =
    nat_le 1 e.moment && ((e.before.alive || e.after.alive) && (nat_le e.before.size OBJECT_BYTES && (nat_le e.after.size OBJECT_BYTES && (was_nothing e.before && (changes_now e && (differs e.pair && ascend_from 0 e.triples))))))

-- a triple is of a pointer that an object of the first version has
abbrev pub has_small_index : Triple → Bool
has_small_index t = nat_lt t.index FIRST_OBJECT_BLOCKS

-- An entry is of an object as small as those of the first version: so are its sizes, and it has no pointer of a larger one.
unfoldable pub is_small : EntryFields → Bool
is_small e =
    nat_le e.before.size FIRST_OBJECT_BYTES && (nat_le e.after.size FIRST_OBJECT_BYTES && list_all has_small_index e.triples)

-- An entry of these two sizes and these triples is of an object that an image of a version can have.
abbrev pub is_allowed_by : ImageVersion → ℕ → ℕ → List Triple → Bool
is_allowed_by First before after triples =
    nat_le before FIRST_OBJECT_BYTES && (nat_le after FIRST_OBJECT_BYTES && list_all has_small_index triples)
is_allowed_by Second before after triples = true

-- the rules of a single entry in an image of a version
abbrev pub entry_rules_by : ImageVersion → EntryFields → Bool
entry_rules_by First e = entry_rules e && is_small e
entry_rules_by Second e = entry_rules e

-- ---- encoding

-- an attribute after a byte that tells its length
unfoldable pub text : List ℕ → List ℕ
text bytes = length bytes ∷ bytes

-- the attributes before and after, where there are two
unfoldable pub pair_spelling : Option Pair → List ℕ
pair_spelling None = []
pair_spelling (Some p) = text p.before ++ text p.after

-- the index of a pointer: one byte in the first version, and two in the second
abbrev pub index_spelling_by : ImageVersion → ℕ → List ℕ
index_spelling_by First n = n ∷ []
index_spelling_by Second n = number w16 n

-- an index, and the pointers before and after
unfoldable pub triple_spelling_by : ImageVersion → Triple → List ℕ
triple_spelling_by version t = index_spelling_by version t.index ++ (slot t.before ++ slot t.after)

-- a bit for each flag, the lowest first
unfoldable pub flags_byte : Flags → ℕ
flags_byte flags = bit flags.before + (2 * bit flags.after + 4 * bit flags.pair)

-- which of its parts an entry has
abbrev pub flags_of : EntryFields → Flags
flags_of e = record { before = e.before.alive; after = e.after.alive; pair = is_some e.pair }

-- the bytes of an entry in an image of a version
unfoldable pub entry_spelling_by : ImageVersion → EntryFields → List ℕ
entry_spelling_by version e =
    number w64 e.moment ++ (flags_byte (flags_of e) ∷ length e.triples ∷ (number w32 e.before.size ++ (number w32 e.after.size ++ (number w64 e.before.changed ++ (number w64 e.after.changed ++ (pair_spelling e.pair ++ flat_map (triple_spelling_by version) e.triples))))))

-- the bytes of an entry
unfoldable pub entry_spelling : EntryFields → List ℕ
entry_spelling e = entry_spelling_by Second e

-- the attributes are no longer than they may be
abbrev pub IsPair : Option Pair → Type 0
IsPair pair = IfSome pair (λ p. (length p.before ≤ 64) × (length p.after ≤ 64))

-- the numbers of a triple are in their ranges
pub record IsTriple (t : Triple) : Type 0 where
  pub index : t.index < 2 ^ 16
  pub before : IsSlot t.before
  pub after : IsSlot t.after

-- the numbers of an entry are in their ranges
pub record EntryNumbers (e : EntryFields) : Type 0 where
  pub moment : e.moment < 2 ^ 64
  pub size_before : e.before.size < 2 ^ 32
  pub size_after : e.after.size < 2 ^ 32
  pub changed_before : e.before.changed < 2 ^ 64
  pub changed_after : e.after.changed < 2 ^ 64
  pub pair : IsPair e.pair
  pub count : length e.triples ≤ ENTRY_TRIPLES
  pub triples : AllByRecursion IsTriple e.triples

-- the entry has an encoding
abbrev pub IsEntry : EntryFields → Type 0
IsEntry e = (entry_rules e ≡ true) × EntryNumbers e

-- the entry has an encoding in an image of a version
abbrev pub IsEntryBy : ImageVersion → EntryFields → Type 0
IsEntryBy version e = (entry_rules_by version e ≡ true) × EntryNumbers e

-- the bytes of an image of a version begin with this entry
abbrev pub BeginsWithEntryBy : ImageVersion → List ℕ → EntryFields → List ℕ → Type 0
BeginsWithEntryBy version bytes e rest = IsEntryBy version e × (bytes ≡ entry_spelling_by version e ++ rest)

-- the bytes begin with this entry
abbrev pub BeginsWithEntry : List ℕ → EntryFields → List ℕ → Type 0
BeginsWithEntry bytes e rest = IsEntry e × (bytes ≡ entry_spelling e ++ rest)

-- ---- reading

unfoldable pub flags_at : List ℕ → Option (Flags × List ℕ)
flags_at [] = None
flags_at (b ∷ rest) = if nat_lt 7 b then None else Some (record { before = b % 2 == 1; after = b / 2 % 2 == 1; pair = b / 4 == 1 }, rest)

unfoldable pub text_at : List ℕ → Option (List ℕ × List ℕ)
text_at bytes = do
  len ← byte_at bytes
  found ← bytes_at len.0 len.1
  made ← kept (nat_le (length found.0) 64) found.0
  Some (made, found.1)

unfoldable pub pair_at : Bool → List ℕ → Option (Option Pair × List ℕ)
pair_at false bytes = Some (None, bytes)
pair_at true bytes = do
  before ← text_at bytes
  after ← text_at before.1
  Some (Some (record { before = before.0; after = after.0 }), after.1)

abbrev pub index_at_by : ImageVersion → List ℕ → Option (ℕ × List ℕ)
index_at_by First = byte_at
index_at_by Second = number_at w16

unfoldable pub triple_at_by : ImageVersion → List ℕ → Option (Triple × List ℕ)
triple_at_by version bytes = do
  index ← index_at_by version bytes
  before ← slot_at index.1
  after ← slot_at before.1
  Some (record { index = index.0; before = before.0; after = after.0 }, after.1)

unfoldable pub triples_at_by : ImageVersion → ℕ → List ℕ → Option (List Triple × List ℕ)
triples_at_by version count bytes = if nat_lt ENTRY_TRIPLES count then None else many_at (triple_at_by version) count bytes

-- an entry that keeps the rules
abbrev pub checked_entry : EntryFields → Option EntryFields
checked_entry e = kept (entry_rules e) e

-- the same in an image of a version
abbrev pub checked_entry_by : ImageVersion → EntryFields → Option EntryFields
checked_entry_by version e = kept (entry_rules_by version e) e

-- what comes after the two statuses of an entry
abbrev pub behind_statuses : ImageVersion → ℕ → Status → Status → Bool → ℕ → List ℕ → Option (EntryFields × List ℕ)
behind_statuses version moment before after there count bytes = do
  pair ← pair_at there bytes
  triples ← triples_at_by version count pair.1
  made ← checked_entry_by version (record { moment = moment; before = before; after = after; pair = pair.0; triples = triples.0 })
  Some (made, triples.1)

-- what comes after an entry's count of triples
abbrev pub behind_count : ImageVersion → ℕ → Flags → ℕ → List ℕ → Option (EntryFields × List ℕ)
behind_count version moment flags count bytes = do
  size_before ← number_at w32 bytes
  size_after ← number_at w32 size_before.1
  changed_before ← number_at w64 size_after.1
  changed_after ← number_at w64 changed_before.1
  behind_statuses version moment (record { alive = flags.before; size = size_before.0; changed = changed_before.0 }) (record { alive = flags.after; size = size_after.0; changed = changed_after.0 }) flags.pair count changed_after.1

-- an entry in an image of a version, and the bytes after it
unfoldable pub entry_at_by : ImageVersion → List ℕ → Option (EntryFields × List ℕ)
entry_at_by version bytes = do
  moment ← number_at w64 bytes
  flags ← flags_at moment.1
  count ← byte_at flags.1
  behind_count version moment.0 flags.0 count.0 count.1

-- an entry, and the bytes after it
unfoldable pub entry_at : List ℕ → Option (EntryFields × List ℕ)
entry_at bytes = entry_at_by Second bytes

-- the bytes of two attributes after their lengths, or none
unfoldable pub pair_length : Option Pair → ℕ
pair_length None = 0
pair_length (Some p) = (1 + length p.before) + (1 + length p.after)

-- how many bytes an entry has
unfoldable pub entry_length : EntryFields → ℕ
entry_length e = SHORTEST_ENTRY_BYTES + pair_length e.pair + TRIPLE_BYTES * length e.triples

-- how many bytes several entries have
unfoldable pub entries_length : List EntryFields → ℕ
entries_length [] = 0
entries_length (e ∷ entries) = entry_length e + entries_length entries

-- how many bytes an entry has in an image of a version
unfoldable pub entry_length_by : ImageVersion → EntryFields → ℕ
entry_length_by version e = SHORTEST_ENTRY_BYTES + pair_length e.pair + triple_bytes_by version * length e.triples

-- how many bytes several entries have in an image of a version
abbrev pub entries_length_by : ImageVersion → List EntryFields → ℕ
entries_length_by First [] = 0
entries_length_by First (e ∷ entries) = entry_length_by First e + entries_length_by First entries
entries_length_by Second entries = entries_length entries
