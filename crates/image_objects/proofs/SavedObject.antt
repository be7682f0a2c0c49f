-- An object that is held is in the image under the row that its own is saved as.
use Rattle.std.proofs.Common.{◌≡◌, ℕ, ◌≤◌, List, get_or, Option, Some, None, IsSome, is_some, refl, sym, ap, ◌∙◌, subst}
use Rattle.std.specs.Prelude.{MatchOption}
use Rattle.std.specs.List.{All, AllByRecursion}
use Rattle.s4_types.specs.declared.limits.TheConstants.{CHAIN_ENTRY_BYTES}
use Rattle.s4_types.specs.Pointer.{Place}
use Rattle.lemmas.proofs.Option.{value_there}
use Rattle.block_log.specs.Log.{Stored, of_kind}
use Rattle.block_log.specs.declared.kinds.BlockKind.TheVariants.{Data}
use Rattle.codec.specs.Fields.{◌>>=◌}
use Rattle.codec.specs.declared.inodes.Inode.{Inode}
use Rattle.codec.specs.Entry.{EntryFields, entries_length}
use Rattle.codec.specs.Checkpoint.{CheckpointFields}
use Rattle.undo_redo.specs.Runs.{Run, redone_all, undone_all, entries_by, inode_after}
use Rattle.undo_redo.specs.Groups.{grouped}
use Rattle.journal_chain.specs.Packing.{AllFit, KeepsTheRule, packed}
use Rattle.journal_chain.specs.Chain.{Link}
use Rattle.checkpoint.specs.Held.{checkpoint_held}
use Rattle.inode.specs.Contents.{bytes_stored, contents_of}
use Rattle.inode.specs.Tidiness.{Tidy, AgreeAt}
use Rattle.inode.specs.Laws.{OnlyItsBlocksMatter}
use Rattle.object_map.specs.declared.map.Row.{Row}
use Rattle.time_read.specs.Rows.{IsRow, inode_before, entries_of, first_of, inode_of}
use Rattle.time_read.specs.Orderly.{IsFromTo, IsOrderly, IsOrderlyChain, BeginsDead}
use Rattle.version_store.specs.Store.{IsLed, IsObject, pointers_of}
use Rattle.image_objects.specs.Chains.{ChainStands, entries_used}
use Rattle.image_objects.specs.Inodes.{BeginningStands, CheckpointStands, first_used}
use Rattle.image_objects.specs.VersionChain.{VersionChainStands}
use Rattle.image_objects.specs.Objects.{ObjectStands}
use Rattle.image_objects.specs.Saved.{saved_row, HoldsUsed, IsSavedAsHeld}
use Rattle.image_objects.proofs.HeldByName.{Seen, seen}
use Rattle.row_changes.proofs.Places.{CheckpointLaws}
use Rattle.image_objects.proofs.Checkpoints.{checkpoint_too}
use Rattle.image_objects.proofs.Using.{used_too}
use Rattle.image_objects.proofs.Saving.{Walked, walked, same_blocks, saved_as_held}

-- what the crates below say of rows, chains and inodes
pub record Laws : Type 0 where
  pub checkpoints : CheckpointLaws
  pub packing : (entries : List EntryFields) → AllFit entries → KeepsTheRule (packed entries)
  pub end : (i j : Inode) (entries : List EntryFields) → Run i entries j → j ≡ redone_all entries i
  pub making : (held : Place → Option Stored) (o : ℕ) (row : Row) (t : ℕ) → IsRow held o row → (inode_of held o row t).created ≡ row.created
  pub later : (held : Place → Option Stored) (o : ℕ) (row : Row) (a b : ℕ) → a ≤ b → IsOrderly held o row a → IsOrderly held o row b
  pub matter : OnlyItsBlocksMatter

-- ---- the version chain

chain_stands : Laws → (used held : Place → Option Stored) (o : ℕ) (row : Row) (clock : ℕ) → Walked used held o row → IsSavedAsHeld used held o row → IsRow held o row → IsOrderly held o row clock
    → ChainStands used (saved_row o row) clock
chain_stands laws used held o row clock w same stands orderly =
    let es = entries_of held o row in
    let back : es ≡ entries_used used (saved_row o row) = sym same.entries in
    record {
      walk = ap (λ (ls : Option (List Link)). is_some ls) w.is_used;
      packing = subst (λ (bs : List (List EntryFields)). KeepsTheRule bs) (sym (same_blocks used held o row w stands)) (laws.packing es stands.chain.fit);
      limit = subst (λ (l : List EntryFields). entries_length l ≤ CHAIN_ENTRY_BYTES) back stands.chain.limit;
      moments = subst (λ (l : List EntryFields). AllByRecursion (λ e. IsFromTo row.created clock e.moment) l) back orderly.chain.moments;
      groups = ap grouped same.entries ∙ stands.groups;
    }

-- the first inode is the checkpoint's, with the entries up to its moment undone
first_is : (held : Place → Option Stored) (o : ℕ) (row : Row) (p : Place) (c : CheckpointFields) → row.checkpoint ≡ Some p → checkpoint_held held o p ≡ Some c
    → first_of held o row ≡ undone_all (entries_by row.checkpoint_moment (entries_of held o row)) c.inode
unfolding inode_before
first_is held o row p c is known =
    ap (λ (found : Option CheckpointFields). inode_before row.created row.checkpoint_moment (entries_of held o row) found) (ap (λ (q : Option Place). q >>= checkpoint_held held o) is ∙ known)

has_its_place : (held : Place → Option Stored) (o : ℕ) (row : Row) (first : Inode) → first_of held o row ≡ first
    → inode_after first (entries_of held o row) row.checkpoint_moment ≡ inode_of held o row row.checkpoint_moment
unfolding inode_of
has_its_place held o row first is = ap (λ (i : Inode). inode_after i (entries_of held o row) row.checkpoint_moment) (sym is)

-- the checkpoint that a row tells of
abbrev told : (Place → Option Stored) → ℕ → Row → CheckpointFields
told held o row = record { object = o; moment = row.checkpoint_moment; inode = inode_of held o row row.checkpoint_moment }

begins : Laws → (used held : Place → Option Stored) (o : ℕ) (row : Row) (clock : ℕ) (q : Option Place) → HoldsUsed used held → IsRow held o row → row.checkpoint ≡ q
    → MatchOption q (row.checkpoint_moment ≡ 0) (λ p. checkpoint_held held o p ≡ Some (told held o row))
    → MatchOption q (BeginsDead (entries_of held o row)) (λ p. IsFromTo row.created clock row.checkpoint_moment)
    → MatchOption q ((row.checkpoint_moment ≡ 0) × BeginsDead (entries_of held o row)) (λ p. CheckpointStands used (saved_row o row) clock (entries_of held o row) p)
begins laws used held o row clock None holds stands is known within = (known, within)
begins laws used held o row clock (Some p) holds stands is known within =
    let c = told held o row in
    record {
      found = c;
      decodes = checkpoint_too laws.checkpoints used held o p c holds known;
      tells = record { object = refl; moment = refl; within = within; created = laws.making held o row row.checkpoint_moment stands };
      place = has_its_place held o row (undone_all (entries_by row.checkpoint_moment (entries_of held o row)) c.inode) (first_is held o row p c is known);
    }

version_chain_stands : Laws → (used held : Place → Option Stored) (o : ℕ) (row : Row) (clock : ℕ) → HoldsUsed used held → IsSavedAsHeld used held o row → IsRow held o row → IsOrderly held o row clock
    → VersionChainStands used (saved_row o row) clock
version_chain_stands laws used held o row clock holds same stands orderly =
    let es = entries_of held o row in
    let first = first_of held o row in
    let saved = saved_row o row in
    let entries_back : es ≡ entries_used used saved = sym same.entries in
    let first_back : first ≡ first_used used saved = sym same.first in
    let run : Run first es (redone_all es first) = subst (λ (j : Inode). Run first es j) (laws.end first stands.last es stands.run) stands.run in
    let run_first : Run (first_used used saved) es (redone_all es (first_used used saved)) = subst (λ (i : Inode). Run i es (redone_all es i)) first_back run in
    let order_first : IsOrderlyChain row.created clock (first_used used saved) es = subst (λ (i : Inode). IsOrderlyChain row.created clock i es) first_back orderly.chain in
    let beginning : BeginningStands used saved clock es = begins laws used held o row clock row.checkpoint holds stands refl stands.checkpoint orderly.checkpoint in
    record {
      chain = chain_stands laws used held o row clock (walked used held o row holds stands) same stands orderly;
      beginning = subst (λ (l : List EntryFields). BeginningStands used saved clock l) entries_back beginning;
      run = subst (λ (l : List EntryFields). Run (first_used used saved) l (redone_all l (first_used used saved))) entries_back run_first;
      order = subst (λ (l : List EntryFields). IsOrderlyChain row.created clock (first_used used saved) l) entries_back order_first;
    }

-- ---- the data

slot_led : (used held : Place → Option Stored) (o : ℕ) (slot : Option Place) → HoldsUsed used held → IsLed held o slot → IsLed used o slot
slot_led used held o None holds led = tt
slot_led used held o (Some p) holds led =
    let (bytes, is) = value_there (of_kind Data o held p) led in
    ap (λ (b : Option (List ℕ)). is_some b) (used_too used held Data o p bytes holds is)

all_led : (used held : Place → Option Stored) (o : ℕ) (slots : List (Option Place)) → HoldsUsed used held → All (IsLed held o) slots → All (IsLed used o) slots
all_led used held o slots holds led = λ k d below. slot_led used held o (get_or slots k d) holds (led k d below)

-- a data block that is held has the same bytes where it is used
pub same_bytes : (used held : Place → Option Stored) (o : ℕ) (p : Place) → HoldsUsed used held → IsSome (of_kind Data o held p) → contents_of used p ≡ contents_of held p
same_bytes used held o p holds some =
    let (bytes, is) = value_there (of_kind Data o held p) some in
    let block : Seen Data o (held p) bytes = seen Data o (held p) bytes is in
    ap bytes_stored (holds p block.block block.there ∙ sym block.there)

-- ---- the object

pub object_stands : Laws → (used held : Place → Option Stored) (o latest clock : ℕ) (row : Row) → HoldsUsed used held → IsObject held o row latest → IsOrderly held o row latest → latest ≤ clock
    → ObjectStands used (saved_row o row) clock
object_stands laws used held o latest clock row holds object orderly by =
    let same : IsSavedAsHeld used held o row = saved_as_held laws.checkpoints used held o row holds object.stands in
    let agree : (t : ℕ) → AgreeAt (contents_of held) (contents_of used) (inode_of held o row t) = λ t k p at. same_bytes used held o p holds (object.pointers t k p at) in
    let tidy : (t : ℕ) → Tidy (contents_of used) (inode_of held o row t) = λ t. (laws.matter (contents_of held) (contents_of used) (inode_of held o row t) (agree t)).1 (object.tidy t) in
    record {
      versions = version_chain_stands laws used held o row clock holds same object.stands (laws.later held o row latest clock by orderly);
      led = subst (λ (slots : List (Option Place)). All (IsLed used o) slots) (sym same.pointers) (all_led used held o (pointers_of held o row) holds object.led);
      tidy = λ t. subst (λ (i : Inode). Tidy (contents_of used) i) (sym (same.inodes t)) (tidy t);
    }
