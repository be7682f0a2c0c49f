-- The laws of renamed chains: those of mapped ones, where the moves of a frame are the map.
use Rattle.std.specs.Prelude.{◌≡◌, ℕ, Bool, true, List}
use Rattle.std.specs.List.{AllByRecursion}
use Rattle.s4_types.specs.Pointer.{Place}
use Rattle.codec.specs.declared.inodes.Inode.{Inode}
use Rattle.codec.specs.Entry.{EntryFields, entry_rules}
use Rattle.undo_redo.specs.Runs.{inode_after}
use Rattle.inode.specs.Contents.{meaning}
use Rattle.inode.specs.Tidiness.{Tidy}
use Rattle.chain_rewriting.specs.Chains.{IsChain}
use Rattle.chain_rewriting.specs.CleaningLaws.{PointsWithin, TellsWithin}
use Rattle.chain_rewriting.specs.Renaming.{RenamingFields, renamed, renamed_entries, renamed_inode}
use Rattle.chain_rewriting.specs.Apart.{Passes, ToldWithin, HasDistinctPlaces, IsNotNew, IsApart, HasCopies}
use Rattle.chain_rewriting.specs.MappingLaws.{MappingCommutesWithRedo, MappingCommutesWithUndo, MappingCommutesWithRedoOfAll, MappingCommutesWithUndoOfAll}
use Rattle.chain_rewriting.specs.MappingLaws.{AMappedChainShowsMappedInodes, AMappedLinkIsALink, AMappedRunIsARun, ABlankInodeIsMappedToItself, APointerIsMapped}
use Rattle.chain_rewriting.specs.MappingLaws.{MappedEntriesStayInGroups, MappedEntriesStayInOrder, AMappedCheckpointKeepsTheRules, MappedEntriesUpToAMoment}
use Rattle.chain_rewriting.specs.MappingLaws.{MappedEntriesKeepTheirMoments, MappedEntriesHaveOldMoments, TheMomentsOfMappedEntriesAreOld}
use Rattle.chain_rewriting.specs.MappingLaws.{MappedEntriesTakeAsManyBytes, AMappedChainTakesAsManyBytes}

-- ---- undo and redo

-- A renamed entry makes of a renamed inode what the entry made of the inode, renamed.
abbrev pub RenamingCommutesWithRedo : Type 0
RenamingCommutesWithRedo = (r : RenamingFields) → MappingCommutesWithRedo (renamed r)

abbrev pub RenamingCommutesWithUndo : Type 0
RenamingCommutesWithUndo = (r : RenamingFields) → MappingCommutesWithUndo (renamed r)

-- So do all entries of a list, redone or undone.
abbrev pub RenamingCommutesWithRedoOfAll : Type 0
RenamingCommutesWithRedoOfAll = (r : RenamingFields) → MappingCommutesWithRedoOfAll (renamed r)

abbrev pub RenamingCommutesWithUndoOfAll : Type 0
RenamingCommutesWithUndoOfAll = (r : RenamingFields) → MappingCommutesWithUndoOfAll (renamed r)

-- At each moment renamed entries show the renamed inode.
abbrev pub ARenamedChainShowsRenamedInodes : Type 0
ARenamedChainShowsRenamedInodes = (r : RenamingFields) → AMappedChainShowsMappedInodes (renamed r)

-- A renamed entry links the renamed inodes that the entry linked, and renamed entries lead from the renamed first inode of a
-- run to its renamed last one.
abbrev pub ARenamedLinkIsALink : Type 0
ARenamedLinkIsALink = (r : RenamingFields) → AMappedLinkIsALink (renamed r)

abbrev pub ARenamedRunIsARun : Type 0
ARenamedRunIsARun = (r : RenamingFields) → AMappedRunIsARun (renamed r)

-- A blank inode has nothing to rename.
abbrev pub ABlankInodeStays : Type 0
ABlankInodeStays = (r : RenamingFields) → ABlankInodeIsMappedToItself (renamed r)

-- Each pointer of a renamed inode is the renamed pointer.
abbrev pub APointerIsRenamed : Type 0
APointerIsRenamed = (r : RenamingFields) → APointerIsMapped (renamed r)

-- ---- chains

-- Entries that tell of no new place keep the rules of entries when they are renamed.
abbrev pub RenamedEntriesKeepTheRules : Type 0
RenamedEntriesKeepTheRules =
    (r : RenamingFields) (entries : List EntryFields)
    → HasDistinctPlaces r → AllByRecursion (TellsWithin (IsNotNew r)) entries → AllByRecursion (λ e. entry_rules e ≡ true) entries
    → AllByRecursion (λ e. entry_rules e ≡ true) (renamed_entries r entries)

-- A chain that a renaming is apart from stays a chain when it is renamed.
abbrev pub ARenamedChainIsAChain : Type 0
ARenamedChainIsAChain =
    (r : RenamingFields) (created latest : ℕ) (first : Inode) (entries : List EntryFields)
    → IsApart r first entries → IsChain created latest first entries → IsChain created latest (renamed_inode r first) (renamed_entries r entries)

-- Entries are in groups exactly where they are so renamed.
abbrev pub RenamedEntriesStayInGroups : Type 0
RenamedEntriesStayInGroups = (r : RenamingFields) → MappedEntriesStayInGroups (renamed r)

-- Entries in order stay in order when they are renamed, wherever the new places are.
abbrev pub RenamedEntriesStayInOrder : Type 0
RenamedEntriesStayInOrder = (r : RenamingFields) → MappedEntriesStayInOrder (renamed r)

-- A checkpoint keeps the rules exactly where it keeps them with its pointers renamed.
abbrev pub ARenamedCheckpointKeepsTheRules : Type 0
ARenamedCheckpointKeepsTheRules = (r : RenamingFields) → AMappedCheckpointKeepsTheRules (renamed r)

-- ---- moments and bytes

-- The renamed entries up to a moment are the entries up to it, renamed.
abbrev pub RenamedEntriesUpToAMoment : Type 0
RenamedEntriesUpToAMoment = (r : RenamingFields) → MappedEntriesUpToAMoment (renamed r)

-- Renamed entries have the moments that the entries had, in order.
abbrev pub RenamedEntriesKeepTheirMoments : Type 0
RenamedEntriesKeepTheirMoments = (r : RenamingFields) → MappedEntriesKeepTheirMoments (renamed r)

-- What a test finds of the moment of each entry it finds of each renamed one.
abbrev pub RenamedEntriesHaveOldMoments : Type 0
RenamedEntriesHaveOldMoments = (r : RenamingFields) → MappedEntriesHaveOldMoments (renamed r)

-- Each renamed entry is of the moment of an old one.
abbrev pub TheMomentsOfRenamedEntriesAreOld : Type 0
TheMomentsOfRenamedEntriesAreOld = (r : RenamingFields) → TheMomentsOfMappedEntriesAreOld (renamed r)

-- Renamed entries have as many bytes as the entries, each and all together. So they are packed into as many journal blocks.
abbrev pub RenamedEntriesTakeAsManyBytes : Type 0
RenamedEntriesTakeAsManyBytes = (r : RenamingFields) → MappedEntriesTakeAsManyBytes (renamed r)

abbrev pub ARenamedChainTakesAsManyBytes : Type 0
ARenamedChainTakesAsManyBytes = (r : RenamingFields) → AMappedChainTakesAsManyBytes (renamed r)

-- ---- versions

-- An inode that is renamed means over the copied blocks what it meant, and is tidy where it was: the places that it points to
-- are among those of the test, and the contents are copied for these.
abbrev pub ARenamedInodeMeansTheSame : Type 0
ARenamedInodeMeansTheSame =
    (test : Place → Bool) (r : RenamingFields) (contents others : Place → List ℕ) (i : Inode)
    → HasCopies (Passes test) r contents others → PointsWithin (Passes test) i
    → (meaning others (renamed_inode r i) ≡ meaning contents i) × (Tidy contents i → Tidy others (renamed_inode r i))

-- A renamed chain shows at each moment an inode that means over the copied blocks what the old one meant.
abbrev pub ARenamedChainShowsTheSame : Type 0
ARenamedChainShowsTheSame =
    (test : Place → Bool) (r : RenamingFields) (contents others : Place → List ℕ) (first : Inode) (entries : List EntryFields) (t : ℕ)
    → HasCopies (Passes test) r contents others → ToldWithin (Passes test) first entries
    → (meaning others (inode_after (renamed_inode r first) (renamed_entries r entries) t) ≡ meaning contents (inode_after first entries t))
    × (Tidy contents (inode_after first entries t) → Tidy others (inode_after (renamed_inode r first) (renamed_entries r entries) t))
