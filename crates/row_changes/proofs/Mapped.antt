-- What an object's row tells can be written, and so can what is mapped.
use Rattle.std.proofs.Common.{◌≡◌, ◌⊎◌, inl, inr, ℕ, ◌≤◌, Bool, true, List, [], ◌∷◌, Option, Some, None, IfSome, MatchOption, option_map, refl, sym, ap, subst, ◌∙◌}
use Rattle.s4_types.specs.Pointer.{Place}
use Rattle.s4_types.specs.declared.limits.TheConstants.{CHAIN_ENTRY_BYTES}
use Rattle.block_log.specs.Log.{Stored}
use Rattle.codec.specs.Fields.{◌>>=◌}
use Rattle.codec.specs.declared.inodes.Inode.{Inode}
use Rattle.codec.specs.Entry.{EntryFields}
use Rattle.codec.specs.Checkpoint.{CheckpointFields, checkpoint_rules}
use Rattle.undo_redo.specs.Runs.{Run, inode_after, redone_all}
use Rattle.checkpoint.specs.Held.{checkpoint_held}
use Rattle.object_map.specs.declared.map.Row.{Row}
use Rattle.time_read.specs.Rows.{IsRow, checkpoint_of, entries_of, first_of, inode_before, inode_of}
use Rattle.time_read.specs.Orderly.{IsFromTo, IsOrderlyChain, BeginsDead}
use Rattle.inode.specs.Contents.{meaning}
use Rattle.inode.specs.Tidiness.{Tidy}
use Rattle.chain_rewriting.specs.Apart.{Passes}
use Rattle.chain_rewriting.specs.Mapping.{mapped_checkpoint, mapped_entries, mapped_inode}
use Rattle.chain_rewriting.specs.MappingLaws.{MappingCommutesWithRedoOfAll, AMappedRunIsARun, AMappedChainShowsMappedInodes, AMappedChainBeginsMapped, MappedEntriesStayInGroups, MappedEntriesStayInOrder, AMappedChainShowsTheSame, AMappedChainTakesAsManyBytes, AMappedCheckpointKeepsTheRules}
use Rattle.row_changes.specs.Laws.{WhatARowTellsCanBeWritten, ARowBeginsWithWhatIsKept, AMappedChainCanBeWritten, ItsFirstInodeIsMapped, told_mapped, first_mapped, AMappedRowIsInOrder, AMappedRowShowsTheSame}
use Rattle.row_changes.specs.Moving.{checkpoint_kept, checkpoint_made, first_kept, inode_kept}

abbrev pub RunsEnd : Type 0
RunsEnd = (i j : Inode) (entries : List EntryFields) → Run i entries j → j ≡ redone_all entries i

-- ---- what a row tells

-- a row tells no checkpoint, and its moment is 0; or it tells this one
abbrev pub IsTold : ℕ → ℕ → Inode → Option CheckpointFields → Type 0
IsTold o m i c = ((c ≡ None) × (m ≡ 0)) ⊎ (c ≡ Some (checkpoint_made o m i))

told_of : (o m : ℕ) (i : Inode) (place : Option Place) (read : Place → Option CheckpointFields) → MatchOption place (m ≡ 0) (λ p. read p ≡ Some (checkpoint_made o m i)) → IsTold o m i (place >>= read)
told_of o m i None read is = inl (refl, is)
told_of o m i (Some p) read is = inr is

row_told : (held : Place → Option Stored) (o : ℕ) (row : Row) → IsRow held o row → IsTold o row.checkpoint_moment (inode_of held o row row.checkpoint_moment) (checkpoint_of held o row)
row_told held o row r = told_of o row.checkpoint_moment (inode_of held o row row.checkpoint_moment) row.checkpoint (checkpoint_held held o) r.checkpoint

-- what is kept of a checkpoint that is told tells it
kept_again : (o m : ℕ) (i : Inode) (c : Option CheckpointFields) → IsTold o m i c → checkpoint_kept o m (option_map (λ k. k.inode) c) ≡ c
kept_again o m i c told = elim told [
  | inl none ↦ subst (λ (x : Option CheckpointFields). checkpoint_kept o m (option_map (λ k. k.inode) x) ≡ x) (sym none.0) refl
  | inr is ↦ subst (λ (x : Option CheckpointFields). checkpoint_kept o m (option_map (λ k. k.inode) x) ≡ x) (sym is) refl
]

rules_kept : (o m : ℕ) (i : Inode) (c : Option CheckpointFields) → IsTold o m i c → IfSome c (λ k. checkpoint_rules k ≡ true) → MatchOption (option_map (λ k. k.inode) c) (m ≡ 0) (λ j. checkpoint_rules (checkpoint_made o m j) ≡ true)
rules_kept o m i None told rules = elim told [
  | inl none ↦ none.1
  | inr is ↦ absurd (cc)
]
rules_kept o m i (Some c) told rules = elim told [
  | inl none ↦ absurd (cc)
  | inr is ↦ (let same : c ≡ checkpoint_made o m i = cc in
      subst (λ (k : CheckpointFields). checkpoint_rules (checkpoint_made o m k.inode) ≡ true) (sym same) (subst (λ (k : CheckpointFields). checkpoint_rules k ≡ true) same rules))
]

current_kept : (o m : ℕ) (i j : Inode) (c : Option CheckpointFields) → IsTold o m i c → i ≡ j → IfSome (option_map (λ k. k.inode) c) (λ k. k ≡ j)
current_kept o m i j None told now = tt
current_kept o m i j (Some c) told now = elim told [
  | inl none ↦ absurd (cc)
  | inr is ↦ (let same : c ≡ checkpoint_made o m i = cc in ap (λ (k : CheckpointFields). k.inode) same ∙ now)
]

pub row_begins : ARowBeginsWithWhatIsKept
row_begins held o row r =
    ap (inode_before row.created row.checkpoint_moment (entries_of held o row)) (kept_again o row.checkpoint_moment (inode_of held o row row.checkpoint_moment) (checkpoint_of held o row) (row_told held o row r))

pub row_can : RunsEnd → WhatARowTellsCanBeWritten
unfolding inode_of
row_can end held o row r rules =
    let entries : List EntryFields = entries_of held o row in
    let m = row.checkpoint_moment in
    let i : Inode = inode_of held o row m in
    let c : Option CheckpointFields = checkpoint_of held o row in
    let told : IsTold o m i c = row_told held o row r in
    let first : first_kept o row.created m (inode_kept held o row) entries ≡ first_of held o row = row_begins held o row r in
    let run : Run (first_of held o row) entries (redone_all entries (first_of held o row)) = subst (λ (j : Inode). Run (first_of held o row) entries j) (end (first_of held o row) r.last entries r.run) r.run in
    record {
      rules = rules_kept o m i c told rules;
      current = current_kept o m i (inode_after (first_kept o row.created m (inode_kept held o row) entries) entries m) c told (ap (λ (k : Inode). inode_after k entries m) (sym first));
      run = subst (λ (k : Inode). Run k entries (redone_all entries k)) (sym first) run;
      groups = r.groups;
      bytes = r.chain.limit;
      created = ap (λ (k : Inode). k.created) first ∙ r.created;
    }

-- ---- what is mapped

-- The laws of mapped chains.
pub record Maps : Type 0 where
  pub redo : (f : Place → Place) → MappingCommutesWithRedoOfAll f
  pub run : (f : Place → Place) → AMappedRunIsARun f
  pub shown : (f : Place → Place) → AMappedChainShowsMappedInodes f
  pub first : (f : Place → Place) → AMappedChainBeginsMapped f
  pub groups : (f : Place → Place) → MappedEntriesStayInGroups f
  pub bytes : (f : Place → Place) → AMappedChainTakesAsManyBytes f
  pub rules : (f : Place → Place) → AMappedCheckpointKeepsTheRules f

kept_mapped : (f : Place → Place) (o m : ℕ) (kept : Option Inode) → checkpoint_kept o m (option_map (mapped_inode f) kept) ≡ option_map (mapped_checkpoint f) (checkpoint_kept o m kept)
kept_mapped f o m None = refl
kept_mapped f o m (Some i) = refl

pub begins_mapped : Maps → ItsFirstInodeIsMapped
begins_mapped laws f o making m kept entries =
    ap (inode_before making m (mapped_entries f entries)) (kept_mapped f o m kept) ∙ laws.first f making m entries (checkpoint_kept o m kept)

rules_mapped : Maps → (f : Place → Place) (o m : ℕ) (kept : Option Inode) → MatchOption kept (m ≡ 0) (λ i. checkpoint_rules (checkpoint_made o m i) ≡ true) → MatchOption (option_map (mapped_inode f) kept) (m ≡ 0) (λ i. checkpoint_rules (checkpoint_made o m i) ≡ true)
rules_mapped laws f o m None rules = rules
rules_mapped laws f o m (Some i) rules = laws.rules f (checkpoint_made o m i) ∙ rules

current_mapped : (f : Place → Place) (kept : Option Inode) (j k : Inode) → IfSome kept (λ i. i ≡ j) → mapped_inode f j ≡ k → IfSome (option_map (mapped_inode f) kept) (λ i. i ≡ k)
current_mapped f None j k is same = tt
current_mapped f (Some i) j k is same = ap (mapped_inode f) is ∙ same

pub mapped_can : Maps → AMappedChainCanBeWritten
mapped_can laws f o making m kept entries can =
    let first : Inode = first_kept o making m kept entries in
    let next : Option Inode = option_map (mapped_inode f) kept in
    let later : List EntryFields = mapped_entries f entries in
    let begins : first_kept o making m next later ≡ mapped_inode f first = begins_mapped laws f o making m kept entries in
    let run : Run (mapped_inode f first) later (redone_all later (mapped_inode f first)) =
    subst (λ (j : Inode). Run (mapped_inode f first) later j) (sym (laws.redo f first entries)) (laws.run f first (redone_all entries first) entries can.run) in
    record {
      rules = rules_mapped laws f o m kept can.rules;
      current = current_mapped f kept (inode_after first entries m) (inode_after (first_kept o making m next later) later m) can.current
          (sym (laws.shown f first entries m) ∙ ap (λ (k : Inode). inode_after k later m) (sym begins));
      run = subst (λ (k : Inode). Run k later (redone_all later k)) (sym begins) run;
      groups = laws.groups f entries ∙ can.groups;
      bytes = subst (λ n. n ≤ CHAIN_ENTRY_BYTES) (sym (laws.bytes f entries)) can.bytes;
      created = ap (λ (k : Inode). k.created) begins ∙ can.created;
    }

-- ---- a row that is mapped

row_begins_mapped : ARowBeginsWithWhatIsKept → ItsFirstInodeIsMapped → (f : Place → Place) (held : Place → Option Stored) (o : ℕ) (row : Row) → IsRow held o row → first_mapped f held o row ≡ mapped_inode f (first_of held o row)
row_begins_mapped first begins f held o row r =
    begins f o row.created row.checkpoint_moment (inode_kept held o row) (entries_of held o row) ∙ ap (mapped_inode f) (first held o row r)

pub begins_dead : (f : Place → Place) (entries : List EntryFields) → BeginsDead entries → BeginsDead (mapped_entries f entries)
begins_dead f [] dead = dead
begins_dead f (e ∷ entries) dead = dead

order_kept : (f : Place → Place) (o m : ℕ) (i : Inode) (entries : List EntryFields) (A : Type 0) (place : Option Place) (read : Place → Option CheckpointFields) → MatchOption place (m ≡ 0) (λ p. read p ≡ Some (checkpoint_made o m i))
    → MatchOption place (BeginsDead entries) (λ p. A) → MatchOption (option_map (mapped_inode f) (option_map (λ c. c.inode) (place >>= read))) (BeginsDead (mapped_entries f entries)) (λ j. A)
order_kept f o m i entries A None read is at = begins_dead f entries at
order_kept f o m i entries A (Some p) read is at = subst (λ (c : Option CheckpointFields). MatchOption (option_map (mapped_inode f) (option_map (λ k. k.inode) c)) (BeginsDead (mapped_entries f entries)) (λ j. A)) (sym is) at

pub row_in_order : ARowBeginsWithWhatIsKept → ItsFirstInodeIsMapped → ((f : Place → Place) → MappedEntriesStayInOrder f) → AMappedRowIsInOrder
row_in_order first begins order f held o row latest r orderly =
    let m = row.checkpoint_moment in
    let start = row_begins_mapped first begins f held o row r in (
      subst (λ (i : Inode). IsOrderlyChain row.created latest i (told_mapped f held o row)) (sym start) (order f row.created latest (first_of held o row) (entries_of held o row) orderly.chain),
      order_kept f o m (inode_of held o row m) (entries_of held o row) (IsFromTo row.created latest m) row.checkpoint (checkpoint_held held o) r.checkpoint orderly.checkpoint,
    )

pub row_shows : ARowBeginsWithWhatIsKept → ItsFirstInodeIsMapped → ((test : Place → Bool) (f : Place → Place) → AMappedChainShowsTheSame (Passes test) f) → AMappedRowShowsTheSame
unfolding inode_of
row_shows first begins shows test f held o row contents others t r keeps told =
    let start = row_begins_mapped first begins f held o row r in
    let same = shows test f contents others (first_of held o row) (entries_of held o row) t keeps told in (
      ap (λ (i : Inode). meaning others (inode_after i (told_mapped f held o row) t)) start ∙ same.0,
      λ tidy. subst (λ (i : Inode). Tidy others (inode_after i (told_mapped f held o row) t)) (sym start) (same.1 tidy),
    )
