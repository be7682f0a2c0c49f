-- The laws of the places of which chains tell, and of the new places of a renaming.
use Rattle.std.specs.Prelude.{◌≡◌, ◌≢◌, ◌↔◌, ℕ, ◌≤◌, Bool, true, false, List, length, Some, IfSome}
use Rattle.std.specs.List.{All}
use Rattle.s4_types.specs.Pointer.{Place}
use Rattle.s4_types.specs.declared.limits.TheConstants.{PAYLOAD_BLOCKS}
use Rattle.codec.specs.declared.inodes.Inode.{Inode}
use Rattle.codec.specs.Entry.{EntryFields}
use Rattle.undo_redo.specs.Runs.{redone_all, undone_all, inode_after}
use Rattle.chain_rewriting.specs.CleaningLaws.{PointsWithin}
use Rattle.chain_rewriting.specs.MappingLaws.{AMappedChainTellsInOrder, AMappedChainTellsOfMappedPlaces, EachPlaceIsPointedToMapped}
use Rattle.chain_rewriting.specs.Renaming.{RenamingFields, renaming_of, with_move, move_of, renamed, renamed_entries, renamed_inode}
use Rattle.chain_rewriting.specs.Apart.{Passes, ToldWithin, slots_told, HasDistinctPlaces, IsNotNew, IsApart, IsOutside, moves_out, LeadsWithin}

-- ---- what a chain tells

-- Each place of which a chain tells passes a test where each of its pointers, told in order, is a hole or refers to one that
-- does.
abbrev pub WhatIsToldIsListed : Type 0
WhatIsToldIsListed =
    (test : Place → Bool) (i : Inode) (entries : List EntryFields)
    → ToldWithin (Passes test) i entries ↔ All (λ slot. IfSome slot (Passes test)) (slots_told i entries)

-- What passes one test and so another passes the other.
abbrev pub WhatIsToldPassesToo : Type 0
WhatIsToldPassesToo =
    (test other : Place → Bool) (i : Inode) (entries : List EntryFields)
    → ((p : Place) → test p ≡ true → other p ≡ true) → ToldWithin (Passes test) i entries → ToldWithin (Passes other) i entries

-- What a chain tells is told from either end: with its last inode in place of its first one, and the other way round.
abbrev pub AChainIsToldFromEitherEnd : Type 0
AChainIsToldFromEitherEnd =
    (test : Place → Bool) (i : Inode) (entries : List EntryFields)
    → ToldWithin (Passes test) i entries → ToldWithin (Passes test) (redone_all entries i) entries × ToldWithin (Passes test) (undone_all entries i) entries

-- A chain that tells alone of places that pass a test points to such places at each moment.
abbrev pub AChainPointsToWhatItTells : Type 0
AChainPointsToWhatItTells =
    (test : Place → Bool) (first : Inode) (entries : List EntryFields) (t : ℕ)
    → ToldWithin (Passes test) first entries → PointsWithin (Passes test) (inode_after first entries t)

-- ---- what a renamed chain tells

-- Where the new places are distinct, renaming is one to one on the places that aren't new.
abbrev pub RenamingIsOneToOne : Type 0
RenamingIsOneToOne =
    (r : RenamingFields) (p q : Place)
    → HasDistinctPlaces r → IsNotNew r p → IsNotNew r q → renamed r p ≡ renamed r q → p ≡ q

-- A renamed chain tells of what the old one told of, renamed, in the same order.
abbrev pub ARenamedChainTellsInOrder : Type 0
ARenamedChainTellsInOrder = (r : RenamingFields) → AMappedChainTellsInOrder (renamed r)

-- So where each place that passes a first test is renamed to one that passes a second, a chain that told alone of places of
-- the first tells alone of places of the second.
abbrev pub ARenamedChainTellsOfRenamedPlaces : Type 0
ARenamedChainTellsOfRenamedPlaces = (was is : Place → Bool) (r : RenamingFields) → AMappedChainTellsOfMappedPlaces (Passes was) (Passes is) (renamed r)

-- Each place to which a chain points at some moment is one to which the renamed chain points then, renamed.
abbrev pub EachPlaceIsPointedToRenamed : Type 0
EachPlaceIsPointedToRenamed = (r : RenamingFields) → EachPlaceIsPointedToMapped (renamed r)

-- Where each place of a chain that lies in the frame moves, and no block moves to a place there, a renamed chain tells of no
-- place in the frame at that generation.
abbrev pub ARenamedChainIsOutOfTheFrame : Type 0
ARenamedChainIsOutOfTheFrame =
    (r : RenamingFields) (i : Inode) (entries : List EntryFields)
    → ToldWithin (Passes (moves_out r)) i entries → LeadsWithin (IsOutside r) r
    → ToldWithin (IsOutside r) (renamed_inode r i) (renamed_entries r entries)

-- ---- how a renaming comes to be apart

-- With no moves no block moves.
abbrev pub NothingMovesYet : Type 0
NothingMovesYet = (frame generation n : ℕ) (p : Place) → move_of (renaming_of frame generation) n ≢ Some p

-- So there are no two new places yet, and what is asked of each new place holds of all.
abbrev pub NoPlacesAreDistinct : Type 0
NoPlacesAreDistinct = (frame generation : ℕ) → HasDistinctPlaces (renaming_of frame generation)

abbrev pub NoPlacesAnswerAlike : Type 0
NoPlacesAnswerAlike = (test : Place → Bool) (answer : Bool) (frame generation : ℕ) → LeadsWithin (λ p. test p ≡ answer) (renaming_of frame generation)

-- With a new place for a block, that block moves there, and the others as before.
abbrev pub OneMoreMoves : Type 0
OneMoreMoves =
    (r : RenamingFields) (block n : ℕ) (to : Place)
    → length r.moves ≡ PAYLOAD_BLOCKS → 1 ≤ block → block ≤ PAYLOAD_BLOCKS
    → (move_of (with_move r block to) block ≡ Some to) × (n ≢ block → move_of (with_move r block to) n ≡ move_of r n)

-- The new places stay distinct where one more is no other's.
abbrev pub PlacesStayDistinct : Type 0
PlacesStayDistinct =
    (r : RenamingFields) (block : ℕ) (to : Place)
    → HasDistinctPlaces r → IsNotNew r to → HasDistinctPlaces (with_move r block to)

-- What a test answers of each new place and of one more it answers of all.
abbrev pub NewPlacesAnswerAlike : Type 0
NewPlacesAnswerAlike =
    (test : Place → Bool) (answer : Bool) (r : RenamingFields) (block : ℕ) (to : Place)
    → LeadsWithin (λ p. test p ≡ answer) r → test to ≡ answer → LeadsWithin (λ p. test p ≡ answer) (with_move r block to)

-- A renaming is apart from a chain where its new places are distinct, and some test tells them from those of the chain: as
-- whether a block was held at a place before the copies were appended.
abbrev pub ATestTellsApart : Type 0
ATestTellsApart =
    (test : Place → Bool) (r : RenamingFields) (first : Inode) (entries : List EntryFields)
    → HasDistinctPlaces r → LeadsWithin (λ p. test p ≡ false) r → ToldWithin (Passes test) first entries → IsApart r first entries

-- A renaming is apart from a chain told from the one end where it is from the chain told from the other.
abbrev pub ApartFromEitherEnd : Type 0
ApartFromEitherEnd =
    (r : RenamingFields) (i : Inode) (entries : List EntryFields)
    → IsApart r i entries → IsApart r (redone_all entries i) entries × IsApart r (undone_all entries i) entries
