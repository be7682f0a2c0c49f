-- Over the used blocks a row that is saved tells what it tells over those that are held.
use Rattle.std.proofs.Common.{◌≡◌, ℕ, zero, suc, List, [], ◌++◌, Option, Some, None, unwrap_or, sym, ap, ◌∙◌}
use Rattle.std.proofs.lemmas.Option.{none-some}
use Rattle.s4_types.specs.Pointer.{Place}
use Rattle.s4_types.specs.declared.limits.TheConstants.{CHAIN_BLOCKS}
use Rattle.block_log.specs.Log.{Stored, of_kind}
use Rattle.block_log.specs.declared.kinds.BlockKind.TheVariants.{Journal}
use Rattle.codec.specs.Fields.{◌>>=◌}
use Rattle.codec.specs.declared.inodes.Inode.{Inode}
use Rattle.codec.specs.Entry.{EntryFields, entries_length}
use Rattle.codec.specs.Journal.{JournalFields}
use Rattle.codec.specs.Checkpoint.{CheckpointFields}
use Rattle.undo_redo.specs.Runs.{inode_after}
use Rattle.journal_chain.specs.Packing.{joined, packed, filled_bytes}
use Rattle.journal_chain.specs.Chain.{Link, linked, links_from, chain_links, chain_places, chain_entries, journal_in, journal_of, places_of, blocks_of}
use Rattle.object_map.specs.declared.map.Row.{Row}
use Rattle.codec.proofs.Exact.{bind_some}
use Rattle.journal_chain.proofs.Spelled.{bind_is}
use Rattle.time_read.specs.Rows.{IsRow, inode_before, entries_of, checkpoint_of, first_of, inode_of}
use Rattle.version_store.specs.Store.{pointers_kept, sides_told, pointers_of}
use Rattle.image_objects.specs.Chains.{blocks_used, entries_used}
use Rattle.image_objects.specs.Inodes.{checkpoint_used, first_used}
use Rattle.image_objects.specs.VersionChain.{kept_row}
use Rattle.image_objects.specs.Objects.{pointers_used, inode_used}
use Rattle.image_objects.specs.Saved.{saved_row, HoldsUsed, IsSavedAsHeld}
use Rattle.row_changes.proofs.Places.{CheckpointLaws}
use Rattle.image_objects.proofs.Checkpoints.{same_checkpoint}
use Rattle.image_objects.proofs.Using.{used_too}

-- ---- the chain

-- what the one view of journal blocks shows, the other does
abbrev Shows : (Place → Option JournalFields) → (Place → Option JournalFields) → Type 0
Shows blocks others = (p : Place) (j : JournalFields) → blocks p ≡ Some j → others p ≡ Some j

walks_on : (n : ℕ) (blocks others : Place → Option JournalFields) (head : Option Place) (links : List Link) → Shows blocks others → links_from n blocks head ≡ Some links → links_from n others head ≡ Some links
unfolding links_from
walks_on zero blocks others None links shows h = h
walks_on (suc n) blocks others None links shows h = h
walks_on zero blocks others (Some q) links shows h = absurd (none-some links h)
walks_on (suc n) blocks others (Some q) links shows h =
    let (b, here, on) = bind_some (blocks q) (λ b. links_from n blocks b.previous >>= λ older. Some (linked q b older)) links h in
    let (older, walk, made) = bind_some (links_from n blocks b.previous) (λ older. Some (linked q b older)) links on in
    bind_is (others q) (λ b. links_from n others b.previous >>= λ older. Some (linked q b older)) b (shows q b here)
    ∙ bind_is (links_from n others b.previous) (λ older. Some (linked q b older)) older (walks_on n blocks others b.previous older shows walk)
    ∙ made

shows_used : (used held : Place → Option Stored) (o : ℕ) → HoldsUsed used held → Shows (journal_in o (of_kind Journal o held)) (journal_in o (of_kind Journal o used))
shows_used used held o holds p j h =
    let (bytes, here, spelled) = bind_some (of_kind Journal o held p) (journal_of o) j h in
    bind_is (of_kind Journal o used p) (journal_of o) bytes (used_too used held Journal o p bytes holds here) ∙ spelled

links_too : (used held : Place → Option Stored) (o : ℕ) (head : Option Place) (links : List Link) → HoldsUsed used held → chain_links (of_kind Journal o held) o head ≡ Some links → chain_links (of_kind Journal o used) o head ≡ Some links
unfolding chain_links
links_too used held o head links holds h =
    walks_on CHAIN_BLOCKS (journal_in o (of_kind Journal o held)) (journal_in o (of_kind Journal o used)) head links (shows_used used held o holds) h

-- the links of a row's chain are found over the one and over the other
pub record Walked (used held : Place → Option Stored) (o : ℕ) (row : Row) : Type 0 where
  pub links : List Link
  pub is_held : chain_links (of_kind Journal o held) o row.head ≡ Some links
  pub is_used : chain_links (of_kind Journal o used) o row.head ≡ Some links

pub walked : (used held : Place → Option Stored) (o : ℕ) (row : Row) → HoldsUsed used held → IsRow held o row → Walked used held o row
walked used held o row holds stands =
    let (links, found, made) = bind_some (chain_links (of_kind Journal o held) o row.head) (λ (ls : List Link). Some (blocks_of ls)) (packed (entries_of held o row)) stands.chain.blocks in
    record { links = links; is_held = found; is_used = links_too used held o row.head links holds found }

pub same_places : (used held : Place → Option Stored) (o : ℕ) (row : Row) → Walked used held o row → chain_places (of_kind Journal o used) o row.head ≡ chain_places (of_kind Journal o held) o row.head
same_places used held o row w = ap (λ (ls : Option (List Link)). places_of (unwrap_or ls [])) (w.is_used ∙ sym w.is_held)

pub same_blocks : (used held : Place → Option Stored) (o : ℕ) (row : Row) → Walked used held o row → IsRow held o row → blocks_used used (saved_row o row) ≡ packed (entries_of held o row)
same_blocks used held o row w stands =
    ap (λ (ls : Option (List Link)). unwrap_or (ls >>= λ links. Some (blocks_of links)) []) (w.is_used ∙ sym w.is_held)
    ∙ ap (λ (bs : Option (List (List EntryFields))). unwrap_or bs []) stands.chain.blocks

same_chain : (used held : Place → Option Stored) (o : ℕ) (row : Row) → Walked used held o row → chain_entries used o row.head ≡ chain_entries held o row.head
unfolding chain_entries
same_chain used held o row w = ap (λ (ls : Option (List Link)). ls >>= λ links. Some (joined (blocks_of links))) (w.is_used ∙ sym w.is_held)

same_entries : (used held : Place → Option Stored) (o : ℕ) (row : Row) → Walked used held o row → entries_used used (saved_row o row) ≡ entries_of held o row
same_entries used held o row w = ap (λ (es : Option (List EntryFields)). unwrap_or es []) (same_chain used held o row w)

-- ---- the row

same_first : (used held : Place → Option Stored) (o : ℕ) (row : Row) → entries_used used (saved_row o row) ≡ entries_of held o row → checkpoint_used used (saved_row o row) ≡ checkpoint_of held o row
    → first_used used (saved_row o row) ≡ first_of held o row
same_first used held o row entries checkpoint =
    ap (λ (es : List EntryFields). inode_before row.created row.checkpoint_moment es (checkpoint_used used (saved_row o row))) entries
    ∙ ap (λ (c : Option CheckpointFields). inode_before row.created row.checkpoint_moment (entries_of held o row) c) checkpoint

same_inode : (used held : Place → Option Stored) (o : ℕ) (row : Row) (t : ℕ) → entries_used used (saved_row o row) ≡ entries_of held o row → first_used used (saved_row o row) ≡ first_of held o row
    → inode_used used (saved_row o row) t ≡ inode_of held o row t
unfolding inode_of
same_inode used held o row t entries first =
    ap (λ (i : Inode). inode_after i (entries_used used (saved_row o row)) t) first
    ∙ ap (λ (es : List EntryFields). inode_after (first_of held o row) es t) entries

same_pointers : (used held : Place → Option Stored) (o : ℕ) (row : Row) → entries_used used (saved_row o row) ≡ entries_of held o row → checkpoint_used used (saved_row o row) ≡ checkpoint_of held o row
    → pointers_used used (saved_row o row) ≡ pointers_of held o row
same_pointers used held o row entries checkpoint =
    ap (λ (c : Option CheckpointFields). pointers_kept c ++ sides_told (entries_used used (saved_row o row))) checkpoint
    ∙ ap (λ (es : List EntryFields). pointers_kept (checkpoint_of held o row) ++ sides_told es) entries

-- a row with other counts of its chain's bytes, and no older checkpoints
abbrev with_counts : Row → ℕ → ℕ → Row
with_counts row bytes filled = record row { journal_bytes = bytes; head_bytes = filled; sides = [] }

same_row : (used held : Place → Option Stored) (o : ℕ) (row : Row) → entries_used used (saved_row o row) ≡ entries_of held o row → IsRow held o row → kept_row used (saved_row o row) row.stamp ≡ record row { sides = [] }
same_row used held o row entries stands =
    ap (λ (es : List EntryFields). with_counts row (entries_length es) (filled_bytes (packed es))) entries
    ∙ ap (λ (n : ℕ). with_counts row n (filled_bytes (packed (entries_of held o row)))) (sym stands.chain.bytes)
    ∙ ap (λ (n : ℕ). with_counts row row.journal_bytes n) (sym stands.chain.filled)

pub saved_as_held : CheckpointLaws → (used held : Place → Option Stored) (o : ℕ) (row : Row) → HoldsUsed used held → IsRow held o row → IsSavedAsHeld used held o row
saved_as_held laws used held o row holds stands =
    let entries : entries_used used (saved_row o row) ≡ entries_of held o row = same_entries used held o row (walked used held o row holds stands) in
    let checkpoint : checkpoint_used used (saved_row o row) ≡ checkpoint_of held o row = same_checkpoint laws used held o row holds stands in
    let first : first_used used (saved_row o row) ≡ first_of held o row = same_first used held o row entries checkpoint in
    record {
      entries = entries;
      first = first;
      inodes = λ t. same_inode used held o row t entries first;
      pointers = same_pointers used held o row entries checkpoint;
      kept = same_row used held o row entries stands;
    }
