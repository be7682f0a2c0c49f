-- A row whose version chain is is a row where its blocks alone are held.
use Rattle.std.proofs.Common.{◌≡◌, ℕ, ◌≤◌, cond, true, inl, inr, List, [], ◌∷◌, Option, Some, None, IsSome, is_some, refl, sym, ap, ◌∙◌, subst}
use Rattle.std.specs.Prelude.{MatchOption}
use Rattle.std.proofs.lemmas.Bool.{cases_Bool, false≢true}
use Rattle.std.proofs.lemmas.List.{append-nil}
use Rattle.s4_types.specs.Pointer.{Place}
use Rattle.block_log.specs.Log.{Stored, of_kind}
use Rattle.block_log.specs.declared.kinds.BlockKind.TheVariants.{Journal}
use Rattle.codec.specs.Fields.{◌>>=◌}
use Rattle.codec.specs.declared.inodes.Inode.{Inode}
use Rattle.codec.specs.Entry.{EntryFields}
use Rattle.codec.specs.Checkpoint.{CheckpointFields}
use Rattle.undo_redo.specs.Redone.{undone}
use Rattle.undo_redo.specs.Runs.{Run, undone_all, entries_by, inode_after}
use Rattle.undo_redo.specs.Groups.{grouped}
use Rattle.checkpoint.specs.Held.{checkpoint_held, checkpoint_places, of_checkpoints, places_named, is_one_of}
use Rattle.journal_chain.specs.Packing.{joined, packed, KeepsTheRule}
use Rattle.journal_chain.specs.Chain.{BlockView, ChainFields, Holds, entries_held}
use Rattle.time_read.specs.Rows.{IsRow, inode_before, entries_of, checkpoint_of, first_of, inode_of}
use Rattle.time_read.specs.Orderly.{IsFromTo, BeginsDead, IsOrderlyChain, IsOrderly}
use Rattle.time_read.proofs.Reading.{inode_of_first}
use Rattle.row_changes.proofs.Fresh.{blank_made}
use Rattle.image_objects.specs.declared.rows.ImageRow.{ImageRow}
use Rattle.image_objects.specs.Chains.{entries_used, chain_fields, chain_view}
use Rattle.image_objects.specs.Inodes.{CheckpointStands, first_before, first_used, checkpoint_places_used}
use Rattle.image_objects.specs.VersionChain.{VersionChainStands, named_at, checkpoint_view, kept_row, present_used}
use Rattle.image_objects.proofs.Holding.{OneName, holds}
use Rattle.image_objects.proofs.Beginning.{first_with}

abbrev pub OnePacking : Type 0
OnePacking = (blocks : List (List EntryFields)) → KeepsTheRule blocks → packed (joined blocks) ≡ blocks

abbrev pub ItsEntries : Type 0
ItsEntries = (held : Place → Option Stored) (chain : ChainFields) (entries : List EntryFields) → Holds held chain entries → entries_held held chain ≡ entries

-- ---- checkpoints

-- A checkpoint is a matter of its own blocks.
pub record RestsOnBlocks : Type 0 where
  pub told : (held later : Place → Option Stored) (o : ℕ) (p : Place) → ((q : Place) → is_one_of (checkpoint_places held o p) q ≡ true → of_checkpoints o later q ≡ of_checkpoints o held q) → checkpoint_held later o p ≡ checkpoint_held held o p
  pub places : (held later : Place → Option Stored) (o : ℕ) (p : Place) → ((q : Place) → is_one_of (checkpoint_places held o p) q ≡ true → of_checkpoints o later q ≡ of_checkpoints o held q) → checkpoint_places later o p ≡ checkpoint_places held o p

-- of the used blocks of an object's checkpoints, those alone of the one that this pointer refers to are held
abbrev HeldAlone : (Place → Option Stored) → (Place → Option Stored) → ℕ → Option Place → Type 0
HeldAlone used held o q = (p : Place) → of_checkpoints o held p ≡ named_at (places_named (of_checkpoints o used) q) (of_checkpoints o used) p

same_blocks : (used held : Place → Option Stored) (o : ℕ) (p : Place) → HeldAlone used held o (Some p) → (q : Place) → is_one_of (checkpoint_places used o p) q ≡ true → of_checkpoints o held q ≡ of_checkpoints o used q
same_blocks used held o p only q is = only q ∙ ap (λ b. cond b (of_checkpoints o used q) None) is

same_found : RestsOnBlocks → (used held : Place → Option Stored) (o : ℕ) (q : Option Place) → HeldAlone used held o q → (q >>= checkpoint_held held o) ≡ (q >>= checkpoint_held used o)
same_found rests used held o None only = refl
same_found rests used held o (Some p) only = rests.told used held o p (same_blocks used held o p only)

same_places : RestsOnBlocks → (used held : Place → Option Stored) (o : ℕ) (q : Option Place) → HeldAlone used held o q → places_named (of_checkpoints o held) q ≡ places_named (of_checkpoints o used) q
same_places rests used held o None only = refl
same_places rests used held o (Some p) only = rests.places used held o p (same_blocks used held o p only)

named_once : (view : BlockView) (places : List Place) (p : Place) (found : Option (List ℕ)) → found ≡ named_at places view p → IsSome found → is_one_of places p ≡ true
named_once view places p found is some = elim (cases_Bool (is_one_of places p)) [
  | inl there ↦ there
  | inr ne ↦ absurd (false≢true (sym (ap is_some (is ∙ ap (λ b. cond b (view p) None) ne)) ∙ some))
]

made_checkpoint : ℕ → ℕ → Inode → CheckpointFields
made_checkpoint o m i = record { object = o; moment = m; inode = i }

pub same_fields : (c : CheckpointFields) (o m : ℕ) (i : Inode) → c.object ≡ o → c.moment ≡ m → c.inode ≡ i → c ≡ record { object = o; moment = m; inode = i }
unfolding made_checkpoint
same_fields c o m i eo em ei =
    ap (λ n. made_checkpoint n c.moment c.inode) eo ∙ ap (λ n. made_checkpoint o n c.inode) em ∙ ap (made_checkpoint o m) ei

-- ---- the making

undone_created : (e : EntryFields) (j : Inode) → (undone e j).created ≡ j.created
unfolding undone
undone_created e j = refl

all_undone_created : (entries : List EntryFields) (j : Inode) → (undone_all entries j).created ≡ j.created
all_undone_created [] j = refl
all_undone_created (e ∷ entries) j = undone_created e (undone_all entries j) ∙ all_undone_created entries j

created_none : (used : Place → Option Stored) (row : ImageRow) (entries : List EntryFields) → row.checkpoint ≡ None → (first_before used row entries).created ≡ row.created
unfolding inode_before
created_none used row entries names =
    ap (λ (o : Option CheckpointFields). (inode_before row.created row.checkpoint_moment entries o).created) (ap (λ (q : Option Place). q >>= checkpoint_held used row.object) names) ∙ blank_made row.created

-- ---- the beginning, by whether a checkpoint is named

pub first_undone : (used : Place → Option Stored) (row : ImageRow) (clock : ℕ) (entries : List EntryFields) (p : Place) (s : CheckpointStands used row clock entries p) → row.checkpoint ≡ Some p → undone_all (entries_by row.checkpoint_moment entries) s.found.inode ≡ first_before used row entries
first_undone used row clock entries p s names = first_with used row entries p s.found (undone_all (entries_by row.checkpoint_moment entries) s.found.inode) names s.decodes refl

pub created_is : (used : Place → Option Stored) (row : ImageRow) (clock : ℕ) (entries : List EntryFields) (q : Option Place) → row.checkpoint ≡ q → MatchOption q ((row.checkpoint_moment ≡ 0) × BeginsDead entries) (λ p. CheckpointStands used row clock entries p) → (first_before used row entries).created ≡ row.created
created_is used row clock entries None names h = created_none used row entries names
created_is used row clock entries (Some p) names h =
    sym (ap (λ (i : Inode). i.created) (first_undone used row clock entries p h names)) ∙ all_undone_created (entries_by row.checkpoint_moment entries) h.found.inode ∙ h.tells.created

abbrev AtItsMoment : (Place → Option Stored) → ImageRow → Inode → Option Place → Type 0
AtItsMoment held row inode q = MatchOption q (row.checkpoint_moment ≡ 0) (λ p. checkpoint_held held row.object p ≡ Some (record { object = row.object; moment = row.checkpoint_moment; inode = inode }))

at_its_moment : RestsOnBlocks → (used held : Place → Option Stored) (row : ImageRow) (clock : ℕ) (entries : List EntryFields) (q : Option Place) → row.checkpoint ≡ q → HeldAlone used held row.object q
    → MatchOption q ((row.checkpoint_moment ≡ 0) × BeginsDead entries) (λ p. CheckpointStands used row clock entries p) → AtItsMoment held row (inode_after (first_before used row entries) entries row.checkpoint_moment) q
at_its_moment rests used held row clock entries None names only h = h.0
at_its_moment rests used held row clock entries (Some p) names only h =
    let inode = inode_after (first_before used row entries) entries row.checkpoint_moment in
    let place : h.found.inode ≡ inode = sym h.place ∙ ap (λ (i : Inode). inode_after i entries row.checkpoint_moment) (first_undone used row clock entries p h names) in
    same_found rests used held row.object (Some p) only ∙ h.decodes ∙ ap Some (same_fields h.found row.object row.checkpoint_moment inode h.tells.object h.tells.moment place)

in_time : (used : Place → Option Stored) (row : ImageRow) (clock : ℕ) (entries : List EntryFields) (q : Option Place) → MatchOption q ((row.checkpoint_moment ≡ 0) × BeginsDead entries) (λ p. CheckpointStands used row clock entries p)
    → MatchOption q (BeginsDead entries) (λ p. IsFromTo row.created clock row.checkpoint_moment)
in_time used row clock entries None h = h.1
in_time used row clock entries (Some p) h = h.tells.within

-- ---- the row

-- what is the same of a row over the blocks of the image and over those that are held
record Same (used held : Place → Option Stored) (row : ImageRow) (stamp : ℕ) : Type 0 where
  chain : Holds held (chain_fields used row) (entries_used used row)
  entries : entries_of held row.object (kept_row used row stamp) ≡ entries_used used row
  first : first_of held row.object (kept_row used row stamp) ≡ first_used used row

same : OneName → RestsOnBlocks → OnePacking → ItsEntries → (used held : Place → Option Stored) (row : ImageRow) (clock stamp : ℕ) → VersionChainStands used row clock
    → ((p : Place) → of_kind Journal row.object held p ≡ chain_view used row p) → ((p : Place) → of_checkpoints row.object held p ≡ checkpoint_view used row p) → Same used held row stamp
same names rests again its used held row clock stamp h journal checkpoints =
    let chain : Holds held (chain_fields used row) (entries_used used row) = holds names again used held row clock h.chain journal in
    let entries : entries_of held row.object (kept_row used row stamp) ≡ entries_used used row = its held (chain_fields used row) (entries_used used row) chain in
    record {
      chain = chain;
      entries = entries;
      first = ap (λ (es : List EntryFields). inode_before row.created row.checkpoint_moment es (checkpoint_of held row.object (kept_row used row stamp))) entries
          ∙ ap (λ (o : Option CheckpointFields). inode_before row.created row.checkpoint_moment (entries_used used row) o) (same_found rests used held row.object row.checkpoint checkpoints);
    }

pub is_row : OneName → RestsOnBlocks → OnePacking → ItsEntries → (used held : Place → Option Stored) (row : ImageRow) (clock stamp : ℕ) → 1 ≤ row.object → VersionChainStands used row clock
    → ((p : Place) → of_kind Journal row.object held p ≡ chain_view used row p) → ((p : Place) → of_checkpoints row.object held p ≡ checkpoint_view used row p) → IsRow held row.object (kept_row used row stamp)
is_row names rests again its used held row clock stamp object h journal checkpoints =
    let s : Same used held row stamp = same names rests again its used held row clock stamp h journal checkpoints in
    let kept = kept_row used row stamp in
    let es = entries_of held row.object kept in
    let now : inode_of held row.object kept row.checkpoint_moment ≡ inode_after (first_used used row) (entries_used used row) row.checkpoint_moment =
    inode_of_first held row.object kept row.checkpoint_moment ∙ ap (λ (i : Inode). inode_after i es row.checkpoint_moment) s.first ∙ ap (λ (l : List EntryFields). inode_after (first_used used row) l row.checkpoint_moment) s.entries in
    record {
      object = object;
      chain = subst (λ (l : List EntryFields). Holds held (chain_fields used row) l) (sym s.entries) s.chain;
      last = present_used used row;
      run = subst (λ (l : List EntryFields). Run (first_of held row.object kept) l (present_used used row)) (sym s.entries) (subst (λ (i : Inode). Run i (entries_used used row) (present_used used row)) (sym s.first) h.run);
      groups = ap (λ (l : List EntryFields). grouped l) s.entries ∙ h.chain.groups;
      checkpoint = subst (λ (i : Inode). AtItsMoment held row i row.checkpoint) (sym now) (at_its_moment rests used held row clock (entries_used used row) row.checkpoint refl checkpoints h.beginning);
      sides = tt;
      ascending = tt;
      only = λ p some. ap (λ (places : List Place). is_one_of places p) (append-nil (places_named (of_checkpoints row.object held) row.checkpoint))
          ∙ ap (λ (places : List Place). is_one_of places p) (same_places rests used held row.object row.checkpoint checkpoints)
          ∙ named_once (of_checkpoints row.object used) (checkpoint_places_used used row) p (of_checkpoints row.object held p) (checkpoints p) some;
      created = ap (λ (i : Inode). i.created) s.first ∙ created_is used row clock (entries_used used row) row.checkpoint refl h.beginning;
    }

pub is_orderly : OneName → RestsOnBlocks → OnePacking → ItsEntries → (used held : Place → Option Stored) (row : ImageRow) (clock stamp : ℕ) → IsFromTo 1 clock row.created → VersionChainStands used row clock
    → ((p : Place) → of_kind Journal row.object held p ≡ chain_view used row p) → ((p : Place) → of_checkpoints row.object held p ≡ checkpoint_view used row p) → IsOrderly held row.object (kept_row used row stamp) clock
is_orderly names rests again its used held row clock stamp made h journal checkpoints =
    let s : Same used held row stamp = same names rests again its used held row clock stamp h journal checkpoints in
    let first : IsOrderlyChain row.created clock (first_of held row.object (kept_row used row stamp)) (entries_used used row) = subst (λ (i : Inode). IsOrderlyChain row.created clock i (entries_used used row)) (sym s.first) h.order in
    record {
      made = made;
      chain = subst (λ (l : List EntryFields). IsOrderlyChain row.created clock (first_of held row.object (kept_row used row stamp)) l) (sym s.entries) first;
      checkpoint = subst (λ (l : List EntryFields). MatchOption row.checkpoint (BeginsDead l) (λ p. IsFromTo row.created clock row.checkpoint_moment)) (sym s.entries) (in_time used row clock (entries_used used row) row.checkpoint h.beginning);
    }
