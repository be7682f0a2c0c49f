-- An object that is in an image is held as it stands, where just what rows name is held.
use Rattle.std.proofs.Common.{◌≡◌, ℕ, ◌≤◌, true, List, ◌++◌, get_or, Option, Some, None, IsSome, is_some, refl, sym, ap, ◌∙◌, subst, append-nil}
use Rattle.std.specs.List.{All, Contains}
use Rattle.std.proofs.lemmas.Bool.{cond-true}
use Rattle.std.proofs.lemmas.List.Elements.{All-contains, All-from_recursion, Contains-get_or}
use Rattle.s4_types.specs.Pointer.{Place}
use Rattle.lemmas.proofs.Option.{value_there}
use Rattle.block_log.specs.Log.{Stored, of_kind}
use Rattle.block_log.specs.declared.kinds.BlockKind.TheVariants.{Journal, Data}
use Rattle.codec.specs.Fields.{◌>>=◌}
use Rattle.codec.specs.declared.inodes.Inode.{Inode}
use Rattle.codec.specs.Entry.{EntryFields}
use Rattle.codec.specs.Checkpoint.{CheckpointFields}
use Rattle.undo_redo.specs.Runs.{redone_all, inode_after, AllBy}
use Rattle.checkpoint.specs.Held.{checkpoint_held, checkpoint_places, of_checkpoints, places_named, is_one_of}
use Rattle.journal_chain.specs.Chain.{ChainFields, Holds, entries_held}
use Rattle.inode.specs.Contents.{bytes_stored, contents_of, meaning}
use Rattle.inode.specs.Tidiness.{Tidy, PointersHeld, AgreeAt}
use Rattle.inode.specs.Laws.{OnlyItsBlocksMatter}
use Rattle.object_map.specs.declared.map.Row.{Row}
use Rattle.time_read.specs.Rows.{IsRow, inode_before, entries_of, checkpoint_of, first_of, inode_of, last_inode}
use Rattle.time_read.specs.Orderly.{IsFromTo, IsOrderly}
use Rattle.row_changes.specs.Recent.{IsBy}
use Rattle.version_store.specs.Store.{IsLed, pointers_kept, sides_told, pointers_of, pointers_named}
use Rattle.image_objects.specs.declared.rows.ImageRow.{ImageRow}
use Rattle.image_objects.specs.Chains.{ChainStands, entries_used, chain_fields, chain_view}
use Rattle.image_objects.specs.Inodes.{checkpoint_used, first_used}
use Rattle.image_objects.specs.VersionChain.{VersionChainStands, named_at, checkpoint_view, kept_row, present_used}
use Rattle.image_objects.specs.Objects.{ObjectStands, pointers_used, inode_used}
use Rattle.image_objects.specs.Naming.{HoldsWhatIsNamed}
use Rattle.image_objects.specs.Rows.{RowsAscend, RowsStand}
use Rattle.image_objects.specs.Laws.{IsHeldAsUsed, InodesUsedPointToWhatRowsLeadTo}
use Rattle.image_objects.proofs.Listed.{above, made_by}
use Rattle.image_objects.proofs.HeldByName.{Seen, seen, held_named, named_held, journal_held}
use Rattle.image_objects.proofs.HeldByName.{checkpoint_held as checkpoints_held}

-- of an object's journal blocks those of the row's chain alone are held
abbrev pub JournalIsHeld : (Place → Option Stored) → (Place → Option Stored) → ImageRow → Type 0
JournalIsHeld used held row = (p : Place) → of_kind Journal row.object held p ≡ chain_view used row p

-- and of its checkpoints' blocks those of the one that the row names
abbrev pub CheckpointIsHeld : (Place → Option Stored) → (Place → Option Stored) → ImageRow → Type 0
CheckpointIsHeld used held row = (p : Place) → of_checkpoints row.object held p ≡ checkpoint_view used row p

-- a checkpoint rests on its blocks
abbrev pub CheckpointIsTold : Type 0
CheckpointIsTold = (held later : Place → Option Stored) (o : ℕ) (p : Place) → ((q : Place) → is_one_of (checkpoint_places held o p) q ≡ true → of_checkpoints o later q ≡ of_checkpoints o held q) → checkpoint_held later o p ≡ checkpoint_held held o p

-- what the crates below say of rows, chains and inodes
pub record Laws : Type 0 where
  pub told : CheckpointIsTold
  pub chain : (used held : Place → Option Stored) (row : ImageRow) (clock : ℕ) → ChainStands used row clock → JournalIsHeld used held row → Holds held (chain_fields used row) (entries_used used row)
  pub entries : (held : Place → Option Stored) (chain : ChainFields) (entries : List EntryFields) → Holds held chain entries → entries_held held chain ≡ entries
  pub row : (used held : Place → Option Stored) (row : ImageRow) (clock stamp : ℕ) → 1 ≤ row.object → VersionChainStands used row clock → JournalIsHeld used held row → CheckpointIsHeld used held row
      → IsRow held row.object (kept_row used row stamp)
  pub orderly : (used held : Place → Option Stored) (row : ImageRow) (clock stamp : ℕ) → IsFromTo 1 clock row.created → VersionChainStands used row clock → JournalIsHeld used held row → CheckpointIsHeld used held row
      → IsOrderly held row.object (kept_row used row stamp) clock
  pub by : (held : Place → Option Stored) (o : ℕ) (row : Row) (latest : ℕ) → IsRow held o row → IsOrderly held o row latest → IsBy held o row latest
  pub last : (held : Place → Option Stored) (o t : ℕ) (row : Row) → AllBy t (entries_of held o row) → inode_of held o row t ≡ last_inode held o row
  pub matter : OnlyItsBlocksMatter
  pub points : InodesUsedPointToWhatRowsLeadTo

-- ---- what a row tells over the held blocks is what it tells over the used ones

same_checkpoint : CheckpointIsTold → (used held : Place → Option Stored) (o : ℕ) (c : Option Place) → ((p : Place) → of_checkpoints o held p ≡ named_at (places_named (of_checkpoints o used) c) (of_checkpoints o used) p) → (c >>= checkpoint_held held o) ≡ (c >>= checkpoint_held used o)
same_checkpoint told used held o None only = refl
same_checkpoint told used held o (Some p) only = told used held o p (λ q is. only q ∙ cond-true (is_one_of (checkpoint_places used o p) q) (of_checkpoints o used q) None is)

-- an object's row, and what it tells of journal and checkpoint
record Same (used held : Place → Option Stored) (row : ImageRow) (clock stamp : ℕ) : Type 0 where
  entries : entries_of held row.object (kept_row used row stamp) ≡ entries_used used row
  checkpoint : checkpoint_of held row.object (kept_row used row stamp) ≡ checkpoint_used used row
  stands : IsRow held row.object (kept_row used row stamp)
  orderly : IsOrderly held row.object (kept_row used row stamp) clock

same : Laws → (used held : Place → Option Stored) (rows : List ImageRow) (row : ImageRow) (clock stamp : ℕ) → RowsAscend clock 0 0 rows → HoldsWhatIsNamed used held rows → Contains rows row → VersionChainStands used row clock → Same used held row clock stamp
same laws used held rows row clock stamp ascend holds there h =
    let journal : JournalIsHeld used held row = journal_held used held rows clock row ascend holds there in
    let checkpoint : CheckpointIsHeld used held row = checkpoints_held used held rows clock row ascend holds there in
    let (object, created) = above clock 0 0 rows row ascend there in
    let by : row.created ≤ clock = made_by clock 0 0 rows row ascend there in
    record {
      entries = laws.entries held (chain_fields used row) (entries_used used row) (laws.chain used held row clock h.chain journal);
      checkpoint = same_checkpoint laws.told used held row.object row.checkpoint checkpoint;
      stands = laws.row used held row clock stamp object h journal checkpoint;
      orderly = laws.orderly used held row clock stamp (created, by) h journal checkpoint;
    }

same_first : (used held : Place → Option Stored) (row : ImageRow) (clock stamp : ℕ) → Same used held row clock stamp → first_of held row.object (kept_row used row stamp) ≡ first_used used row
same_first used held row clock stamp s =
    ap (λ (es : List EntryFields). inode_before row.created row.checkpoint_moment es (checkpoint_of held row.object (kept_row used row stamp))) s.entries
    ∙ ap (λ (c : Option CheckpointFields). inode_before row.created row.checkpoint_moment (entries_used used row) c) s.checkpoint

same_inode : (used held : Place → Option Stored) (row : ImageRow) (clock stamp t : ℕ) → Same used held row clock stamp → inode_of held row.object (kept_row used row stamp) t ≡ inode_used used row t
unfolding inode_of
same_inode used held row clock stamp t s =
    ap (λ (i : Inode). inode_after i (entries_of held row.object (kept_row used row stamp)) t) (same_first used held row clock stamp s)
    ∙ ap (λ (es : List EntryFields). inode_after (first_used used row) es t) s.entries

same_pointers : (used held : Place → Option Stored) (row : ImageRow) (stamp : ℕ) → checkpoint_of held row.object (kept_row used row stamp) ≡ checkpoint_used used row → entries_of held row.object (kept_row used row stamp) ≡ entries_used used row
    → pointers_of held row.object (kept_row used row stamp) ≡ pointers_used used row
same_pointers used held row stamp checkpoint entries =
    ap (λ (c : Option CheckpointFields). pointers_kept c ++ sides_told (entries_of held row.object (kept_row used row stamp))) checkpoint
    ∙ ap (λ (es : List EntryFields). pointers_kept (checkpoint_used used row) ++ sides_told es) entries

same_present : Laws → (used held : Place → Option Stored) (row : ImageRow) (clock stamp : ℕ) → Same used held row clock stamp → inode_of held row.object (kept_row used row stamp) clock ≡ present_used used row
same_present laws used held row clock stamp s =
    let kept = kept_row used row stamp in
    laws.last held row.object clock kept (laws.by held row.object kept clock s.stands s.orderly).entries
    ∙ ap (λ (i : Inode). redone_all (entries_of held row.object kept) i) (same_first used held row clock stamp s)
    ∙ ap (λ (es : List EntryFields). redone_all es (first_used used row)) s.entries

-- ---- the data that the row refers to

-- a block that the row refers to is held as it is used
record LeadsTo (used held : Place → Option Stored) (o : ℕ) (p : Place) : Type 0 where
  there : IsSome (of_kind Data o held p)
  contents : contents_of held p ≡ contents_of used p

leads_to : (used held : Place → Option Stored) (rows : List ImageRow) (row : ImageRow) (clock : ℕ) → HoldsWhatIsNamed used held rows → Contains rows row → ObjectStands used row clock
    → (p : Place) → Contains (pointers_used used row) (Some p) → LeadsTo used held row.object p
leads_to used held rows row clock holds there s p led =
    let some : IsSome (of_kind Data row.object used p) = All-contains (IsLed used row.object) (pointers_used used row) (Some p) s.led led in
    let (bytes, is) = value_there (of_kind Data row.object used p) some in
    let here : of_kind Data row.object held p ≡ Some bytes = named_held used held rows row Data p bytes holds there is led in
    let block : Seen Data row.object (held p) bytes = seen Data row.object (held p) bytes here in
    record {
      there = ap (λ (b : Option (List ℕ)). is_some b) here;
      contents = ap bytes_stored (block.there ∙ sym (holds.kept p block.block block.there));
    }

slot_led : (used held : Place → Option Stored) (o : ℕ) (pointers : List (Option Place)) (slot : Option Place) → ((p : Place) → Contains pointers (Some p) → LeadsTo used held o p) → Contains pointers slot → IsLed held o slot
slot_led used held o pointers None leads there = tt
slot_led used held o pointers (Some p) leads there = (leads p there).there

all_led : (used held : Place → Option Stored) (o : ℕ) (pointers : List (Option Place)) → ((p : Place) → Contains pointers (Some p) → LeadsTo used held o p) → All (IsLed held o) pointers
all_led used held o pointers leads = λ k d below. slot_led used held o pointers (get_or pointers k d) leads (Contains-get_or pointers k d below)

data_named : (used held : Place → Option Stored) (rows : List ImageRow) (row : ImageRow) (clock : ℕ) → RowsAscend clock 0 0 rows → HoldsWhatIsNamed used held rows → Contains rows row
    → (p : Place) → IsSome (of_kind Data row.object held p) → Contains (pointers_used used row) (Some p)
data_named used held rows row clock ascend holds there p some =
    let (bytes, is) = value_there (of_kind Data row.object held p) some in
    (held_named used held rows clock row Data p bytes ascend holds there is).1

-- ---- the object

pub stands_there : (used : Place → Option Stored) (rows : List ImageRow) (row : ImageRow) (clock : ℕ) → RowsStand used rows clock → Contains rows row → ObjectStands used row clock
stands_there used rows row clock stand there =
    let P : ImageRow → Type 0 = λ r. ObjectStands used r clock in
    All-contains P rows row (All-from_recursion P rows stand.objects) there

pub held_as_used : Laws → (used held : Place → Option Stored) (rows : List ImageRow) (row : ImageRow) (clock stamp : ℕ) → RowsAscend clock 0 0 rows → RowsStand used rows clock → HoldsWhatIsNamed used held rows → Contains rows row → IsHeldAsUsed used held row clock stamp
held_as_used laws used held rows row clock stamp ascend stand holds there =
    let o = row.object in
    let kept = kept_row used row stamp in
    let object : ObjectStands used row clock = stands_there used rows row clock stand there in
    let s : Same used held row clock stamp = same laws used held rows row clock stamp ascend holds there object.versions in
    let leads : (p : Place) → Contains (pointers_used used row) (Some p) → LeadsTo used held o p = leads_to used held rows row clock holds there object in
    let inodes : (t : ℕ) → inode_of held o kept t ≡ inode_used used row t = λ t. same_inode used held row clock stamp t s in
    let pointers : pointers_of held o kept ≡ pointers_used used row = same_pointers used held row stamp s.checkpoint s.entries in
    let agree : (t : ℕ) → AgreeAt (contents_of used) (contents_of held) (inode_used used row t) = λ t n p at. (leads p (laws.points used row t n p at)).contents in
    let lead : (t : ℕ) → PointersHeld held o (inode_used used row t) = λ t n p at. (leads p (laws.points used row t n p at)).there in
    let matter = λ (t : ℕ). laws.matter (contents_of used) (contents_of held) (inode_used used row t) (agree t) in
    record {
      entries = s.entries;
      first = same_first used held row clock stamp s;
      inodes = inodes;
      versions = λ t. ap (meaning (contents_of held)) (inodes t) ∙ (matter t).0;
      present = same_present laws used held row clock stamp s;
      stands = s.stands;
      orderly = s.orderly;
      object = record {
        stands = s.stands;
        by = laws.by held o kept clock s.stands s.orderly;
        led = subst (λ (slots : List (Option Place)). All (IsLed held o) slots) (sym pointers) (all_led used held o (pointers_used used row) leads);
        tidy = λ t. subst (λ (i : Inode). Tidy (contents_of held) i) (sym (inodes t)) ((matter t).1 (object.tidy t));
        pointers = λ t. subst (λ (i : Inode). PointersHeld held o i) (sym (inodes t)) (lead t);
      };
      named = λ p some. subst (λ (slots : List (Option Place)). Contains slots (Some p)) (sym pointers) (data_named used held rows row clock ascend holds there p some);
    }

-- the row that is kept names no older checkpoints, so it names data by the pointers alone that the row refers to
pub named_as_used : CheckpointIsTold → (used held : Place → Option Stored) (rows : List ImageRow) (row : ImageRow) (clock stamp : ℕ) → RowsAscend clock 0 0 rows → HoldsWhatIsNamed used held rows → Contains rows row → IsHeldAsUsed used held row clock stamp
    → pointers_named held row.object (kept_row used row stamp) ≡ pointers_used used row
named_as_used told used held rows row clock stamp ascend holds there as_used =
    append-nil (pointers_of held row.object (kept_row used row stamp))
    ∙ same_pointers used held row stamp (same_checkpoint told used held row.object row.checkpoint (checkpoints_held used held rows clock row ascend holds there)) as_used.entries
