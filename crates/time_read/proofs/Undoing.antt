-- From an object's present inode back: the whole chain is left at first, and its run leads to the present inode.
use Rattle.std.proofs.Common.{◌≡◌, ℕ, true, List, [], map, Option, IsSome, unwrap_or, refl, sym, ap, subst, ◌∙◌}
use Rattle.s4_types.specs.Pointer.{Place}
use Rattle.block_log.specs.Log.{Stored}
use Rattle.codec.specs.declared.inodes.Inode.{Inode}
use Rattle.codec.specs.Entry.{EntryFields}
use Rattle.undo_redo.specs.Runs.{Run, redone_all, inode_after}
use Rattle.undo_redo.specs.Groups.{grouped}
use Rattle.object_map.specs.declared.map.Row.{Row}
use Rattle.journal_chain.specs.Chain.{ChainFields, chain_entries}
use Rattle.journal_chain.specs.Back.{BackFields, entries_left, left}
use Rattle.time_read.specs.Undoings.{Undoing, undoing_of}
use Rattle.time_read.specs.Rows.{chain_of, entries_of, first_of, inode_of, last_inode, IsRow}
use Rattle.time_read.proofs.Reading.{chain_is_there, inode_of_first}

-- what a reader of a chain tells at first
abbrev Begins : (Place → Option Stored) → ChainFields → BackFields → Type 0
Begins held chain back = IsSome (chain_entries held chain.object chain.head) → entries_left held back ≡ chain_entries held chain.object chain.head

-- a reader of a row's chain has all its entries left
whole : (held : Place → Option Stored) (o : ℕ) (row : Row) (chain : ChainFields) (back : BackFields) → IsRow held o row → chain ≡ chain_of o row → Begins held chain back → entries_left held back ≡ chain_entries held o row.head
whole held o row chain back r is begins = subst (λ (k : ChainFields). Begins held k back) is begins (chain_is_there held o row r)

pub is_left : (held : Place → Option Stored) (o : ℕ) (row : Row) (chain : ChainFields) (back : BackFields) → IsRow held o row → chain ≡ chain_of o row → Begins held chain back → IsSome (entries_left held back)
is_left held o row chain back r is begins = subst (λ (found : Option (List EntryFields)). IsSome found) (sym (whole held o row chain back r is begins)) (chain_is_there held o row r)

pub all_left : (held : Place → Option Stored) (o : ℕ) (row : Row) (chain : ChainFields) (back : BackFields) → IsRow held o row → chain ≡ chain_of o row → Begins held chain back → left held back ≡ entries_of held o row
all_left held o row chain back r is begins = ap (λ (found : Option (List EntryFields)). unwrap_or found []) (whole held o row chain back r is begins)

pub groups_left : (held : Place → Option Stored) (o : ℕ) (row : Row) (chain : ChainFields) (back : BackFields) → IsRow held o row → chain ≡ chain_of o row → Begins held chain back → grouped (left held back) ≡ true
groups_left held o row chain back r is begins = ap (λ (es : List EntryFields). grouped es) (all_left held o row chain back r is begins) ∙ r.groups

-- the run of a row's entries leads to the inode after all of them
leads : ((i j : Inode) (entries : List EntryFields) → Run i entries j → j ≡ redone_all entries i) → (held : Place → Option Stored) (o : ℕ) (row : Row) → IsRow held o row → Run (first_of held o row) (entries_of held o row) (last_inode held o row)
leads end held o row r = subst (λ (j : Inode). Run (first_of held o row) (entries_of held o row) j) (end (first_of held o row) r.last (entries_of held o row) r.run) r.run

-- what is undone from the present inode leads to the inode of the moment
pub undone_is : ((i j : Inode) (entries : List EntryFields) → Run i entries j → j ≡ redone_all entries i) → (held : Place → Option Stored) (o : ℕ) (row : Row) (xs : List EntryFields) (at : ℕ) (present inode : Inode) → IsRow held o row → xs ≡ entries_of held o row
    → present ≡ last_inode held o row → ((first : Inode) → Run first xs present → inode ≡ inode_after first xs at) → inode ≡ inode_of held o row at
undone_is end held o row xs at present inode r is last undone =
    let run : Run (first_of held o row) (entries_of held o row) present = subst (λ (j : Inode). Run (first_of held o row) (entries_of held o row) j) (sym last) (leads end held o row r) in
    undone (first_of held o row) (subst (λ (es : List EntryFields). Run (first_of held o row) es present) (sym is) run)
    ∙ ap (λ (es : List EntryFields). inode_after (first_of held o row) es at) is
    ∙ sym (inode_of_first held o row at)

-- and so does what is undone by an index of all entries
pub undone_by_index : ((i j : Inode) (entries : List EntryFields) → Run i entries j → j ≡ redone_all entries i) → (held : Place → Option Stored) (o : ℕ) (row : Row) (at : ℕ) (undoings : List Undoing) (present inode : Inode) → IsRow held o row
    → present ≡ last_inode held o row → undoings ≡ map undoing_of (entries_of held o row)
    → ((first : Inode) (entries : List EntryFields) → map undoing_of entries ≡ undoings → grouped entries ≡ true → Run first entries present → inode ≡ inode_after first entries at) → inode ≡ inode_of held o row at
undone_by_index end held o row at undoings present inode r last told undone =
    undone_is end held o row (entries_of held o row) at present inode r refl last (λ first run. undone first (entries_of held o row) (sym told) r.groups run)

-- what holds of the inode that an index leads back to holds of the one at the moment
pub made_by_index : ((i j : Inode) (entries : List EntryFields) → Run i entries j → j ≡ redone_all entries i) → (held : Place → Option Stored) (o : ℕ) (row : Row) (at : ℕ) (undoings : List Undoing) (present : Inode) (Holds : Inode → Type 0) → IsRow held o row
    → present ≡ last_inode held o row → undoings ≡ map undoing_of (entries_of held o row)
    → ((first : Inode) (entries : List EntryFields) → map undoing_of entries ≡ undoings → grouped entries ≡ true → Run first entries present → Holds (inode_after first entries at)) → Holds (inode_of held o row at)
made_by_index end held o row at undoings present Holds r last told holds =
    let run : Run (first_of held o row) (entries_of held o row) present = subst (λ (j : Inode). Run (first_of held o row) (entries_of held o row) j) (sym last) (leads end held o row r) in
    subst Holds (sym (inode_of_first held o row at)) (holds (first_of held o row) (entries_of held o row) (sym told) r.groups run)
