-- The laws of chains whose places are mapped, of one map each.
use Rattle.std.specs.Prelude.{◌≡◌, ℕ, Bool, true, List, map, Option, option_map}
use Rattle.std.specs.List.{AllByRecursion, Contains}
use Rattle.s4_types.specs.Pointer.{Place}
use Rattle.codec.specs.declared.inodes.Inode.{Inode}
use Rattle.codec.specs.Checkpoint.{CheckpointFields, pointer_at, checkpoint_rules}
use Rattle.codec.specs.Entry.{EntryFields, entry_rules, entry_length, entries_length}
use Rattle.undo_redo.specs.Linked.{Linked}
use Rattle.undo_redo.specs.Redone.{redone, undone}
use Rattle.undo_redo.specs.Runs.{Run, redone_all, undone_all, inode_after, entries_by, blank}
use Rattle.undo_redo.specs.Groups.{grouped}
use Rattle.time_read.specs.Rows.{inode_before}
use Rattle.time_read.specs.Orderly.{IsOrderlyChain}
use Rattle.inode.specs.Contents.{meaning}
use Rattle.inode.specs.Tidiness.{Tidy}
use Rattle.chain_rewriting.specs.Chains.{IsChain}
use Rattle.chain_rewriting.specs.CleaningLaws.{IsPlaceOf, PointsWithin, TellsWithin}
use Rattle.chain_rewriting.specs.Mapping.{mapped_slot, mapped_entry, mapped_entries, mapped_inode, mapped_checkpoint, IsOneToOne, MapsWithin, KeepsContents}
use Rattle.chain_rewriting.specs.Apart.{ToldWithin, slots_told}

-- ---- undo and redo

-- A mapped entry makes of a mapped inode what the entry made of the inode, mapped.
abbrev pub MappingCommutesWithRedo : (Place → Place) → Type 0
MappingCommutesWithRedo f = (i : Inode) (e : EntryFields) → redone (mapped_entry f e) (mapped_inode f i) ≡ mapped_inode f (redone e i)

abbrev pub MappingCommutesWithUndo : (Place → Place) → Type 0
MappingCommutesWithUndo f = (j : Inode) (e : EntryFields) → undone (mapped_entry f e) (mapped_inode f j) ≡ mapped_inode f (undone e j)

-- So do all entries of a list, redone or undone.
abbrev pub MappingCommutesWithRedoOfAll : (Place → Place) → Type 0
MappingCommutesWithRedoOfAll f = (i : Inode) (entries : List EntryFields) → redone_all (mapped_entries f entries) (mapped_inode f i) ≡ mapped_inode f (redone_all entries i)

abbrev pub MappingCommutesWithUndoOfAll : (Place → Place) → Type 0
MappingCommutesWithUndoOfAll f = (j : Inode) (entries : List EntryFields) → undone_all (mapped_entries f entries) (mapped_inode f j) ≡ mapped_inode f (undone_all entries j)

-- At each moment mapped entries show the mapped inode.
abbrev pub AMappedChainShowsMappedInodes : (Place → Place) → Type 0
AMappedChainShowsMappedInodes f =
    (first : Inode) (entries : List EntryFields) (t : ℕ)
    → inode_after (mapped_inode f first) (mapped_entries f entries) t ≡ mapped_inode f (inode_after first entries t)

-- A mapped entry links the mapped inodes that the entry linked, and mapped entries lead from the mapped first inode of a run
-- to its mapped last one.
abbrev pub AMappedLinkIsALink : (Place → Place) → Type 0
AMappedLinkIsALink f = (i j : Inode) (e : EntryFields) → Linked i e j → Linked (mapped_inode f i) (mapped_entry f e) (mapped_inode f j)

abbrev pub AMappedRunIsARun : (Place → Place) → Type 0
AMappedRunIsARun f = (i j : Inode) (entries : List EntryFields) → Run i entries j → Run (mapped_inode f i) (mapped_entries f entries) (mapped_inode f j)

-- A blank inode has nothing to map.
abbrev pub ABlankInodeIsMappedToItself : (Place → Place) → Type 0
ABlankInodeIsMappedToItself f = (created : ℕ) → mapped_inode f (blank created) ≡ blank created

-- Each pointer of a mapped inode is the mapped pointer.
abbrev pub APointerIsMapped : (Place → Place) → Type 0
APointerIsMapped f = (i : Inode) (n : ℕ) → pointer_at (mapped_inode f i) n ≡ mapped_slot f (pointer_at i n)

-- The inode before mapped entries, by a checkpoint that is mapped, if there is one, is the mapped one.
abbrev pub AMappedChainBeginsMapped : (Place → Place) → Type 0
AMappedChainBeginsMapped f =
    (created moment : ℕ) (entries : List EntryFields) (c : Option CheckpointFields)
    → inode_before created moment (mapped_entries f entries) (option_map (mapped_checkpoint f) c) ≡ mapped_inode f (inode_before created moment entries c)

-- ---- chains

-- Entries whose places are of a kind on which the map is one to one keep the rules of entries when they are mapped: the two
-- pointers of a triple, which differ, differ then, too.
abbrev pub MappedEntriesKeepTheRules : (Place → Type 0) → (Place → Place) → Type 0
MappedEntriesKeepTheRules Is f =
    (entries : List EntryFields)
    → IsOneToOne Is f → AllByRecursion (TellsWithin Is) entries → AllByRecursion (λ e. entry_rules e ≡ true) entries
    → AllByRecursion (λ e. entry_rules e ≡ true) (mapped_entries f entries)

-- A chain that tells alone of places of such a kind stays a chain when it is mapped.
abbrev pub AMappedChainIsAChain : (Place → Type 0) → (Place → Place) → Type 0
AMappedChainIsAChain Is f =
    (created latest : ℕ) (first : Inode) (entries : List EntryFields)
    → IsOneToOne Is f → ToldWithin Is first entries → IsChain created latest first entries
    → IsChain created latest (mapped_inode f first) (mapped_entries f entries)

-- Entries are in groups exactly where they are so mapped.
abbrev pub MappedEntriesStayInGroups : (Place → Place) → Type 0
MappedEntriesStayInGroups f = (entries : List EntryFields) → grouped (mapped_entries f entries) ≡ grouped entries

-- Entries in order stay in order when they are mapped, wherever to.
abbrev pub MappedEntriesStayInOrder : (Place → Place) → Type 0
MappedEntriesStayInOrder f =
    (created latest : ℕ) (first : Inode) (entries : List EntryFields)
    → IsOrderlyChain created latest first entries → IsOrderlyChain created latest (mapped_inode f first) (mapped_entries f entries)

-- A checkpoint keeps the rules exactly where it keeps them with its pointers mapped.
abbrev pub AMappedCheckpointKeepsTheRules : (Place → Place) → Type 0
AMappedCheckpointKeepsTheRules f = (c : CheckpointFields) → checkpoint_rules (mapped_checkpoint f c) ≡ checkpoint_rules c

-- ---- moments and bytes

-- The mapped entries up to a moment are the entries up to it, mapped.
abbrev pub MappedEntriesUpToAMoment : (Place → Place) → Type 0
MappedEntriesUpToAMoment f = (t : ℕ) (entries : List EntryFields) → entries_by t (mapped_entries f entries) ≡ mapped_entries f (entries_by t entries)

-- Mapped entries have the moments that the entries had, in order.
abbrev pub MappedEntriesKeepTheirMoments : (Place → Place) → Type 0
MappedEntriesKeepTheirMoments f = (entries : List EntryFields) → map (λ e. e.moment) (mapped_entries f entries) ≡ map (λ e. e.moment) entries

-- What a test finds of the moment of each entry it finds of each mapped one.
abbrev pub MappedEntriesHaveOldMoments : (Place → Place) → Type 0
MappedEntriesHaveOldMoments f =
    (within : ℕ → Bool) (entries : List EntryFields)
    → AllByRecursion (λ e. within e.moment ≡ true) entries → AllByRecursion (λ e. within e.moment ≡ true) (mapped_entries f entries)

-- Each mapped entry is of the moment of an old one.
abbrev pub TheMomentsOfMappedEntriesAreOld : (Place → Place) → Type 0
TheMomentsOfMappedEntriesAreOld f =
    (entries : List EntryFields) (e : EntryFields)
    → Contains (mapped_entries f entries) e → (g : EntryFields) × (Contains entries g × (g.moment ≡ e.moment))

-- Mapped entries have as many bytes as the entries, each and all together. So they are packed into as many journal blocks.
abbrev pub MappedEntriesTakeAsManyBytes : (Place → Place) → Type 0
MappedEntriesTakeAsManyBytes f = (entries : List EntryFields) → map entry_length (mapped_entries f entries) ≡ map entry_length entries

abbrev pub AMappedChainTakesAsManyBytes : (Place → Place) → Type 0
AMappedChainTakesAsManyBytes f = (entries : List EntryFields) → entries_length (mapped_entries f entries) ≡ entries_length entries

-- ---- places

-- A mapped chain tells of what the old one told of, mapped, in the same order.
abbrev pub AMappedChainTellsInOrder : (Place → Place) → Type 0
AMappedChainTellsInOrder f =
    (i : Inode) (entries : List EntryFields)
    → slots_told (mapped_inode f i) (mapped_entries f entries) ≡ map (mapped_slot f) (slots_told i entries)

-- So where each place of a first kind is mapped to one of a second, a chain that told alone of places of the first tells
-- alone of places of the second.
abbrev pub AMappedChainTellsOfMappedPlaces : (Place → Type 0) → (Place → Type 0) → (Place → Place) → Type 0
AMappedChainTellsOfMappedPlaces Was Is f =
    (i : Inode) (entries : List EntryFields)
    → MapsWithin Was Is f → ToldWithin Was i entries → ToldWithin Is (mapped_inode f i) (mapped_entries f entries)

-- Each place to which a chain points at some moment is one to which the mapped chain points then, mapped.
abbrev pub EachPlaceIsPointedToMapped : (Place → Place) → Type 0
EachPlaceIsPointedToMapped f =
    (first : Inode) (entries : List EntryFields) (p : Place)
    → IsPlaceOf first entries p → IsPlaceOf (mapped_inode f first) (mapped_entries f entries) (f p)

-- ---- versions

-- A mapped inode means what the inode meant, and is tidy where it was: its places are of this kind, and the bytes at each of
-- these are at the place to which it is mapped.
abbrev pub AMappedInodeMeansTheSame : (Place → Type 0) → (Place → Place) → Type 0
AMappedInodeMeansTheSame Is f =
    (contents others : Place → List ℕ) (i : Inode)
    → KeepsContents Is f contents others → PointsWithin Is i
    → (meaning others (mapped_inode f i) ≡ meaning contents i) × (Tidy contents i → Tidy others (mapped_inode f i))

-- So at each moment a mapped chain shows an inode that means what the old one meant.
abbrev pub AMappedChainShowsTheSame : (Place → Type 0) → (Place → Place) → Type 0
AMappedChainShowsTheSame Is f =
    (contents others : Place → List ℕ) (first : Inode) (entries : List EntryFields) (t : ℕ)
    → KeepsContents Is f contents others → ToldWithin Is first entries
    → (meaning others (inode_after (mapped_inode f first) (mapped_entries f entries) t) ≡ meaning contents (inode_after first entries t))
    × (Tidy contents (inode_after first entries t) → Tidy others (inode_after (mapped_inode f first) (mapped_entries f entries) t))
