-- The laws of kept chains.
use Rattle.std.specs.Prelude.{◌≡◌, ◌↔◌, ◌⊎◌, ℕ, ◌≤◌, ◌<◌, Bool, true, false, List, ◌++◌, length, Some, None, IfSome}
use Rattle.std.specs.List.{AllByRecursion, Contains}
use Rattle.s4_types.specs.declared.limits.TheConstants.{ENTRY_TRIPLES}
use Rattle.s4_types.specs.Pointer.{Place}
use Rattle.codec.specs.declared.inodes.Inode.{Inode}
use Rattle.codec.specs.Checkpoint.{pointer_at}
use Rattle.codec.specs.Entry.{EntryFields, entries_length}
use Rattle.undo_redo.specs.Runs.{Run, redone_all, inode_after, entries_by, blank}
use Rattle.undo_redo.specs.Groups.{grouped}
use Rattle.undo_redo.specs.Between.{CanLead, entries_between}
use Rattle.time_read.specs.Orderly.{IsOrderlyChain}
use Rattle.chain_rewriting.specs.Cleaned.{KeptChain, cleaned}
use Rattle.chain_rewriting.specs.Chains.{IsChain}

-- The entries of a kept chain lead from its first inode to its last.
abbrev pub AKeptChainIsARun : Type 0
AKeptChainIsARun =
    (sees : ℕ → ℕ → Bool) (created latest clock : ℕ) (first : Inode) (entries : List EntryFields)
    → IsChain created latest first entries → IfSome (cleaned sees clock first entries) (λ chain. Run chain.first chain.entries chain.last)

-- The moments of a kept chain's entries are moments of the old ones: what a test finds of each old one it finds of each.
abbrev pub AKeptChainHasOldMoments : Type 0
AKeptChainHasOldMoments =
    (within : ℕ → Bool) (sees : ℕ → ℕ → Bool) (clock : ℕ) (first : Inode) (entries : List EntryFields)
    → AllByRecursion (λ e. within e.moment ≡ true) entries → IfSome (cleaned sees clock first entries) (λ chain. AllByRecursion (λ e. within e.moment ≡ true) chain.entries)

-- a test of sight tells of two moments whether one from the first to the second is visible
abbrev pub FitsSight : (ℕ → ℕ → Bool) → (ℕ → Bool) → Type 0
FitsSight sees visible = (a b : ℕ) → (sees a b ≡ true) ↔ ((t : ℕ) × ((a ≤ t) × ((t ≤ b) × (visible t ≡ true))))

-- two inodes show the same to a reader: they are equal, or both are dead
abbrev pub ShowsAlike : Inode → Inode → Type 0
ShowsAlike i j = (i ≡ j) ⊎ ((i.alive ≡ false) × (j.alive ≡ false))

-- At each visible moment the kept chain shows the same inode as the old one, or both show a dead one.
abbrev pub AKeptChainShowsTheSame : Type 0
AKeptChainShowsTheSame =
    (sees : ℕ → ℕ → Bool) (visible : ℕ → Bool) (created latest clock t : ℕ) (first : Inode) (entries : List EntryFields)
    → IsChain created latest first entries → FitsSight sees visible → visible t ≡ true
    → IfSome (cleaned sees clock first entries) (λ chain. ShowsAlike (inode_after first entries t) (inode_after chain.first chain.entries t))

-- Where there is no kept chain, the old one shows a dead inode at each visible moment.
abbrev pub NoKeptChainShowsNothing : Type 0
NoKeptChainShowsNothing =
    (sees : ℕ → ℕ → Bool) (visible : ℕ → Bool) (created latest clock t : ℕ) (first : Inode) (entries : List EntryFields)
    → IsChain created latest first entries → FitsSight sees visible → visible t ≡ true
    → cleaned sees clock first entries ≡ None → (inode_after first entries t).alive ≡ false

-- Where there is a kept chain, the old one shows a live inode at some visible moment.
abbrev pub AKeptChainIsSeenAlive : Type 0
AKeptChainIsSeenAlive =
    (sees : ℕ → ℕ → Bool) (visible : ℕ → Bool) (created latest clock : ℕ) (first : Inode) (entries : List EntryFields)
    → FitsSight sees visible → visible clock ≡ true → latest ≤ clock → IsChain created latest first entries
    → IfSome (cleaned sees clock first entries) (λ chain. (u : ℕ) × ((visible u ≡ true) × ((inode_after first entries u).alive ≡ true)))

-- the inode that a chain shows at some moment, or that one with its flag off
abbrev pub IsOneShown : Inode → List EntryFields → Inode → Type 0
IsOneShown first entries i = (u : ℕ) × ((i ≡ inode_after first entries u) ⊎ (i ≡ record (inode_after first entries u) { alive = false }))

-- At each moment, visible or not, the kept chain shows an inode that the old one shows at some moment; or that one with its
-- flag off, as a last inode that is dead.
abbrev pub AKeptChainShowsOldInodes : Type 0
AKeptChainShowsOldInodes =
    (sees : ℕ → ℕ → Bool) (created latest clock t : ℕ) (first : Inode) (entries : List EntryFields)
    → IsChain created latest first entries → IfSome (cleaned sees clock first entries) (λ chain. IsOneShown first entries (inode_after chain.first chain.entries t))

-- Each entry of a kept chain is of the moment of an old one.
abbrev pub TheMomentsOfAKeptChainAreOld : Type 0
TheMomentsOfAKeptChainAreOld =
    (sees : ℕ → ℕ → Bool) (clock : ℕ) (first : Inode) (entries : List EntryFields)
    → IfSome (cleaned sees clock first entries) (λ chain. (e : EntryFields) → Contains chain.entries e → (f : EntryFields) × (Contains entries f × (f.moment ≡ e.moment)))

-- The entries of a kept chain are in groups.
abbrev pub AKeptChainIsGrouped : Type 0
AKeptChainIsGrouped =
    (sees : ℕ → ℕ → Bool) (created latest clock : ℕ) (first : Inode) (entries : List EntryFields)
    → IsChain created latest first entries → IfSome (cleaned sees clock first entries) (λ chain. grouped chain.entries ≡ true)

-- A kept chain is in order, up to the latest moment of the old one.
abbrev pub AKeptChainIsInOrder : Type 0
AKeptChainIsInOrder =
    (sees : ℕ → ℕ → Bool) (created latest clock : ℕ) (first : Inode) (entries : List EntryFields)
    → IsChain created latest first entries → IfSome (cleaned sees clock first entries) (λ chain. IsOrderlyChain created latest chain.first chain.entries)

-- A kept chain has inodes alone that are seen: at each moment it is as at some visible moment up to the clock. So only
-- an inode that is between two entries of one moment is current at no visible moment.
abbrev pub AKeptChainHasSeenInodesAlone : Type 0
AKeptChainHasSeenInodesAlone =
    (visible : ℕ → Bool) (sees : ℕ → ℕ → Bool) (created latest clock : ℕ) (first : Inode) (entries : List EntryFields)
    → FitsSight sees visible → visible clock ≡ true → latest ≤ clock → IsChain created latest first entries
    → IfSome (cleaned sees clock first entries) (λ chain. (t : ℕ) → (u : ℕ) × ((u ≤ clock) × ((visible u ≡ true) × (entries_by u chain.entries ≡ entries_by t chain.entries))))

-- A kept chain is a chain.
abbrev pub AKeptChainIsAChain : Type 0
AKeptChainIsAChain =
    (sees : ℕ → ℕ → Bool) (created latest clock : ℕ) (first : Inode) (entries : List EntryFields)
    → IsChain created latest first entries → IfSome (cleaned sees clock first entries) (λ chain. IsChain created latest chain.first chain.entries)

-- A kept chain that is cleaned again is the same chain: its first inode is the first again, also where that is only seen
-- from a later moment on, and each further one is seen again before the next.
abbrev pub CleaningAgainChangesNothing : Type 0
CleaningAgainChangesNothing =
    (sees : ℕ → ℕ → Bool) (visible : ℕ → Bool) (created latest clock : ℕ) (first : Inode) (entries : List EntryFields)
    → IsChain created latest first entries → FitsSight sees visible
    → IfSome (cleaned sees clock first entries) (λ chain. cleaned sees clock chain.first chain.entries ≡ Some chain)

-- The entries of a kept chain have no more bytes than the old ones, where each of these has no more triples than an entry
-- holds: what two kept inodes differ in, some old entry between them tells.
abbrev pub AKeptChainTakesNoMoreBytes : Type 0
AKeptChainTakesNoMoreBytes =
    (sees : ℕ → ℕ → Bool) (created latest clock : ℕ) (first : Inode) (entries : List EntryFields)
    → IsChain created latest first entries → AllByRecursion (λ e. length e.triples ≤ ENTRY_TRIPLES) entries
    → IfSome (cleaned sees clock first entries) (λ chain. entries_length chain.entries ≤ entries_length entries)

-- the inode of a chain at some moment has a pointer to this place
abbrev pub IsPlaceOf : Inode → List EntryFields → Place → Type 0
IsPlaceOf first entries p = (u : ℕ) × (k : ℕ) × (pointer_at (inode_after first entries u) k ≡ Some p)

-- each pointer of an inode is a hole, or to a place of this kind
abbrev pub PointsWithin : (Place → Type 0) → Inode → Type 0
PointsWithin Is i = (k : ℕ) → IfSome (pointer_at i k) Is

-- on both sides of each triple of an entry there is a hole, or a place of this kind
abbrev pub TellsWithin : (Place → Type 0) → EntryFields → Type 0
TellsWithin Is e = AllByRecursion (λ t. IfSome t.before Is × IfSome t.after Is) e.triples

-- each place to which a chain points, or of which it tells, is of this kind
pub record HasPlacesWithin (Is : Place → Type 0) (chain : KeptChain) : Type 0 where
  pub first : PointsWithin Is chain.first
  pub entries : AllByRecursion (TellsWithin Is) chain.entries
  pub last : PointsWithin Is chain.last

-- A kept chain points to places alone to which the inode of the old one points at some moment: its first inode and its last,
-- and each of its entries, before and after.
abbrev pub AKeptChainPointsToOldPlaces : Type 0
AKeptChainPointsToOldPlaces =
    (sees : ℕ → ℕ → Bool) (created latest clock : ℕ) (first : Inode) (entries : List EntryFields)
    → IsChain created latest first entries → IfSome (cleaned sees clock first entries) (HasPlacesWithin (IsPlaceOf first entries))

-- a live inode that a chain shows at some visible moment has a pointer to this place
abbrev pub IsSeenPlaceOf : (ℕ → Bool) → Inode → List EntryFields → Place → Type 0
IsSeenPlaceOf visible first entries p =
    (u : ℕ) × ((visible u ≡ true) × ((inode_after first entries u).alive ≡ true) × ((k : ℕ) × (pointer_at (inode_after first entries u) k ≡ Some p)))

-- Each place to which the inode of a chain points at some moment, or of which an entry tells on either side, is of this kind;
-- so is each one to which the first inode points, or the last.
pub record TellsOfPlacesWithin (Is : Place → Type 0) (start : Inode) (chain : List EntryFields) : Type 0 where
  pub each : (t : ℕ) → PointsWithin Is (inode_after start chain t)
  pub entries : AllByRecursion (TellsWithin Is) chain
  pub first : PointsWithin Is start
  pub last : PointsWithin Is (redone_all chain start)

-- A kept chain tells of seen places alone: a live inode that it shows at some visible moment points there. Another chain may
-- tell of more, even where it is at each moment as at some visible one: of three entries of one moment the first may set a
-- pointer, the second none, and the third that pointer again. Then the place that the first set is in no inode.
abbrev pub AKeptChainTellsOfSeenPlacesAlone : Type 0
AKeptChainTellsOfSeenPlacesAlone =
    (visible : ℕ → Bool) (sees : ℕ → ℕ → Bool) (created latest clock : ℕ) (first : Inode) (entries : List EntryFields)
    → FitsSight sees visible → visible clock ≡ true → latest ≤ clock → IsChain created latest first entries
    → IfSome (cleaned sees clock first entries) (λ chain. TellsOfPlacesWithin (IsSeenPlaceOf visible chain.first chain.entries) chain.first chain.entries)

-- A kept chain shows a live inode at some visible moment.
abbrev pub AKeptChainShowsALiveInode : Type 0
AKeptChainShowsALiveInode =
    (visible : ℕ → Bool) (sees : ℕ → ℕ → Bool) (created latest clock : ℕ) (first : Inode) (entries : List EntryFields)
    → FitsSight sees visible → visible clock ≡ true → latest ≤ clock → IsChain created latest first entries
    → IfSome (cleaned sees clock first entries) (λ chain. (u : ℕ) × ((visible u ≡ true) × ((inode_after chain.first chain.entries u).alive ≡ true)))

-- Where the entries of a kept chain are the old ones, it is the old chain: its first inode and its last are the old ones, too.
abbrev pub AnUnchangedChainIsTheKeptOne : Type 0
AnUnchangedChainIsTheKeptOne =
    (visible : ℕ → Bool) (sees : ℕ → ℕ → Bool) (created latest clock : ℕ) (first : Inode) (entries : List EntryFields)
    → FitsSight sees visible → visible clock ≡ true → latest ≤ clock → IsChain created latest first entries
    → IfSome (cleaned sees clock first entries) (λ chain. chain.entries ≡ entries → (chain.first ≡ first) × (chain.last ≡ redone_all entries first))

-- The entries that make an object are a chain: they lead from the blank inode to a live one, at the moment of the making.
abbrev pub ACreationIsAChain : Type 0
ACreationIsAChain =
    (m : ℕ) (made : Inode)
    → CanLead (blank m) made m → made.alive ≡ true → IsChain m m (blank m) (entries_between (blank m) made m)

-- A chain whose last inode is live goes on by the entries of a later moment that lead from there to a next inode.
abbrev pub AChainGoesOn : Type 0
AChainGoesOn =
    (created latest m : ℕ) (first next : Inode) (entries : List EntryFields)
    → IsChain created latest first entries → (redone_all entries first).alive ≡ true → latest < m → CanLead (redone_all entries first) next m
    → IsChain created m first (entries ++ entries_between (redone_all entries first) next m)

-- A chain up to a latest moment is one up to each later moment.
abbrev pub AChainIsOneLater : Type 0
AChainIsOneLater = (created latest later : ℕ) (first : Inode) (entries : List EntryFields) → IsChain created latest first entries → latest ≤ later → IsChain created later first entries
