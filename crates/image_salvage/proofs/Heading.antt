-- The rows that blocks make: each block makes one.
use Rattle.std.proofs.Common.{◌≡◌, ◌⊎◌, inl, inr, ℕ, List, [], ◌∷◌, ◌++◌, Option, Some, None, refl, sym, ap, subst, ◌∙◌}
use Rattle.std.specs.Option.{option_to_list}
use Rattle.std.specs.Prelude.{IfNone, MatchOption}
use Rattle.s4_types.specs.Pointer.{Place}
use Rattle.lemmas.proofs.Option.{one_value, some_not_none}
use Rattle.block_log.specs.Log.{Stored, seen_as}
use Rattle.block_log.specs.declared.kinds.BlockKind.{BlockKind}
use Rattle.block_log.specs.declared.kinds.BlockKind.TheVariants.{Journal, Checkpoint, Data, Pointers}
use Rattle.codec.specs.Fields.{◌>>=◌, all_of}
use Rattle.codec.specs.Checkpoint.{CheckpointFields}
use Rattle.codec.specs.Entry.{EntryFields}
use Rattle.codec.specs.FirstBlock.{first_at}
use Rattle.codec.specs.Journal.{JournalFields}
use Rattle.journal_chain.specs.Chain.{journal_of, journal_held}
use Rattle.checkpoint.specs.Held.{seen_of, of_checkpoints, checkpoint_in, checkpoint_of, checkpoint_held}
use Rattle.image_objects.specs.declared.rows.ImageRow.{ImageRow}
use Rattle.image_salvage.specs.declared.newest.Note.{Note}
use Rattle.image_salvage.specs.Heads.{checkpoint_note, MakesByCheckpoint, row_from, row_alone, LeadsOn, blocks_kept, CountsKept, MakesRow, head_note, last_of, MakesByJournal, MakesHead}

-- ---- checkpoints

pub checkpoint_used : (used : Place → Option Stored) (p : Place) (note : Note) → MakesByCheckpoint used p note → (block : Stored) × (used p ≡ Some block)
checkpoint_used used p note makes = (makes.block, makes.held)

pub one_checkpoint : (used : Place → Option Stored) (p : Place) (note other : Note) → MakesByCheckpoint used p note → MakesByCheckpoint used p other → other ≡ note
one_checkpoint used p note other a b =
    let block : b.block ≡ a.block = one_value a.block b.block (used p) a.held b.held in
    let object : b.block.object ≡ a.block.object = ap (λ (s : Stored). s.object) block in
    let found : b.found ≡ a.found = one_value a.found b.found (checkpoint_held used a.block.object p) a.decodes (subst (λ (o : ℕ). checkpoint_held used o p ≡ Some b.found) object b.decodes) in
    b.is ∙ ap (λ (o : ℕ). checkpoint_note used o p b.found) object ∙ ap (λ (c : CheckpointFields). checkpoint_note used a.block.object p c) found ∙ sym a.is

pub no_owner : (used : Place → Option Stored) (p : Place) → used p ≡ None → (note : Note) → MakesByCheckpoint used p note → ⊥
no_owner used p none note makes = some_not_none makes.block (used p) makes.held none

pub no_checkpoint : (used : Place → Option Stored) (p : Place) (object : ℕ) (block : Stored) → used p ≡ Some block → block.object ≡ object → checkpoint_held used object p ≡ None → (note : Note) → MakesByCheckpoint used p note → ⊥
no_checkpoint used p object block held of none note makes =
    let same : makes.block ≡ block = one_value block makes.block (used p) held makes.held in
    let own : makes.block.object ≡ object = ap (λ (s : Stored). s.object) same ∙ of in
    some_not_none makes.found (checkpoint_held used object p) (subst (λ (o : ℕ). checkpoint_held used o p ≡ Some makes.found) own makes.decodes) none

pub makes_checkpoint : (used : Place → Option Stored) (p : Place) (object : ℕ) (block : Stored) (found : CheckpointFields) (note : Note) → used p ≡ Some block → block.object ≡ object → Some found ≡ checkpoint_held used object p
    → note ≡ checkpoint_note used object p found → MakesByCheckpoint used p note
makes_checkpoint used p object block found note held of decodes is = record {
  block = block;
  held = held;
  found = found;
  decodes = subst (λ (o : ℕ). checkpoint_held used o p ≡ Some found) (sym of) (sym decodes);
  is = is ∙ ap (λ (o : ℕ). checkpoint_note used o p found) (sym of);
}

-- ---- the rows of journal blocks

keeps_once : (used : Place → Option Stored) (row : ImageRow) (kept other : ℕ) → CountsKept used row kept → CountsKept used row other → other ≡ kept
keeps_once used row kept other (inl a) (inl b) = b.1 ∙ sym a.1
keeps_once used row kept other (inl a) (inr b) = absurd (b.0 a.0)
keeps_once used row kept other (inr a) (inl b) = absurd (a.0 b.0)
keeps_once used row kept other (inr a) (inr b) = b.1 ∙ sym a.1

alone_once : (used : Place → Option Stored) (o : ℕ) (p : Place) (row later : ImageRow) (kept other : ℕ) → (row ≡ row_alone o p) × CountsKept used row kept → (later ≡ row_alone o p) × CountsKept used later other → (later ≡ row) × (other ≡ kept)
alone_once used o p row later kept other a b =
    let same : later ≡ row = b.0 ∙ sym a.0 in
    (same, keeps_once used row kept other a.1 (subst (λ (r : ImageRow). CountsKept used r other) same b.1))

made_once : (used : Place → Option Stored) (checkpoint : Option Note) (o : ℕ) (p : Place) (row later : ImageRow) (kept other : ℕ) → MakesRow used checkpoint o p row kept → MakesRow used checkpoint o p later other → (later ≡ row) × (other ≡ kept)
made_once used None o p row later kept other a b = alone_once used o p row later kept other a b
made_once used (Some c) o p row later kept other (inl a) (inl b) =
    let same : later ≡ row = b.0 ∙ sym a.0 in
    (same, b.2 ∙ ap (blocks_kept used) same ∙ sym a.2)
made_once used (Some c) o p row later kept other (inl a) (inr b) = absurd (b.0 (subst (LeadsOn used) a.0 a.1))
made_once used (Some c) o p row later kept other (inr a) (inl b) = absurd (a.0 (subst (LeadsOn used) b.0 b.1))
made_once used (Some c) o p row later kept other (inr a) (inr b) = alone_once used o p row later kept other (a.1, a.2) (b.1, b.2)

-- without a checkpoint
pub made_alone : (used : Place → Option Stored) (checkpoint : Option Note) (o : ℕ) (p : Place) (row : ImageRow) (kept : ℕ) → checkpoint ≡ None → row ≡ row_alone o p → CountsKept used row kept → MakesRow used checkpoint o p row kept
made_alone used None o p row kept none is keeps = (is, keeps)
made_alone used (Some c) o p row kept none is keeps = absurd (cc)

-- with one whose row gives none
pub made_lost : (used : Place → Option Stored) (checkpoint : Option Note) (c : Note) (o : ℕ) (p : Place) (first row : ImageRow) (kept : ℕ) → checkpoint ≡ Some c → first ≡ row_from c.row p → (LeadsOn used first → ⊥) → row ≡ row_alone o p
    → CountsKept used row kept → MakesRow used checkpoint o p row kept
made_lost used checkpoint c o p first row kept has of lost is keeps =
    subst (λ (found : Option Note). MakesRow used found o p row kept) (sym has) (inr ((λ leads. lost (subst (LeadsOn used) (sym of) leads)), is, keeps))

-- with one whose row gives an inode
pub made_from : (used : Place → Option Stored) (checkpoint : Option Note) (c : Note) (o : ℕ) (p : Place) (row : ImageRow) (kept : ℕ) → checkpoint ≡ Some c → row ≡ row_from c.row p → LeadsOn used row → kept ≡ blocks_kept used row
    → MakesRow used checkpoint o p row kept
made_from used checkpoint c o p row kept has of leads keeps = subst (λ (found : Option Note). MakesRow used found o p row kept) (sym has) (inl (of, leads, keeps))

-- ---- journal blocks

last_push : (entries : List EntryFields) (e : EntryFields) → last_of (entries ++ e ∷ []) ≡ Some e
last_push [] e = refl
last_push (x ∷ []) e = refl
last_push (x ∷ y ∷ entries) e = last_push (y ∷ entries) e

pub popped_last : (old new : List EntryFields) (found : Option EntryFields) → old ≡ new ++ option_to_list found → IfNone found (old ≡ []) → found ≡ last_of old
popped_last old new None is none = sym (ap last_of none)
popped_last old new (Some e) is none = sym (ap last_of is ∙ last_push new e)

pub journal_used : (used : Place → Option Stored) (checkpoints : ℕ → Option Note) (p : Place) (note : Note) → MakesByJournal used checkpoints p note → (block : Stored) × (used p ≡ Some block)
journal_used used checkpoints p note makes = (makes.block, makes.held)

same_journal : (used : Place → Option Stored) (checkpoints : ℕ → Option Note) (p : Place) (object : ℕ) (block : Stored) (found : JournalFields) (note : Note) (makes : MakesByJournal used checkpoints p note) → used p ≡ Some block → block.object ≡ object
    → journal_held used object p ≡ Some found → makes.found ≡ found
same_journal used checkpoints p object block found note makes held of decodes =
    let same : makes.block ≡ block = one_value block makes.block (used p) held makes.held in
    let own : makes.block.object ≡ object = ap (λ (s : Stored). s.object) same ∙ of in
    one_value found makes.found (journal_held used object p) decodes (subst (λ (o : ℕ). journal_held used o p ≡ Some makes.found) own makes.decodes)

pub one_journal : (used : Place → Option Stored) (checkpoints : ℕ → Option Note) (p : Place) (note other : Note) → MakesByJournal used checkpoints p note → MakesByJournal used checkpoints p other → other ≡ note
one_journal used checkpoints p note other a b =
    let block : b.block ≡ a.block = one_value a.block b.block (used p) a.held b.held in
    let found : b.found ≡ a.found = same_journal used checkpoints p a.block.object a.block a.found other b a.held refl a.decodes in
    let newest : b.newest ≡ a.newest = one_value a.newest b.newest (last_of a.found.entries) a.last (subst (λ (j : JournalFields). last_of j.entries ≡ Some b.newest) found b.last) in
    let both = made_once used (checkpoints a.block.object) a.block.object p a.row b.row a.kept b.kept a.makes (subst (λ (s : Stored). MakesRow used (checkpoints s.object) s.object p b.row b.kept) block b.makes) in
    b.is ∙ ap (λ (e : EntryFields). head_note p e b.row b.kept) newest ∙ ap (λ (r : ImageRow). head_note p a.newest r b.kept) both.0 ∙ ap (λ (k : ℕ). head_note p a.newest a.row k) both.1 ∙ sym a.is

pub no_journal_owner : (used : Place → Option Stored) (checkpoints : ℕ → Option Note) (p : Place) → used p ≡ None → (note : Note) → MakesByJournal used checkpoints p note → ⊥
no_journal_owner used checkpoints p none note makes = some_not_none makes.block (used p) makes.held none

pub no_journal : (used : Place → Option Stored) (checkpoints : ℕ → Option Note) (p : Place) (object : ℕ) (block : Stored) → used p ≡ Some block → block.object ≡ object → journal_held used object p ≡ None
    → (note : Note) → MakesByJournal used checkpoints p note → ⊥
no_journal used checkpoints p object block held of none note makes =
    let same : makes.block ≡ block = one_value block makes.block (used p) held makes.held in
    let own : makes.block.object ≡ object = ap (λ (s : Stored). s.object) same ∙ of in
    some_not_none makes.found (journal_held used object p) (subst (λ (o : ℕ). journal_held used o p ≡ Some makes.found) own makes.decodes) none

pub no_entry : (used : Place → Option Stored) (checkpoints : ℕ → Option Note) (p : Place) (object : ℕ) (block : Stored) (found : JournalFields) → used p ≡ Some block → block.object ≡ object → journal_held used object p ≡ Some found
    → last_of found.entries ≡ None → (note : Note) → MakesByJournal used checkpoints p note → ⊥
no_entry used checkpoints p object block found held of decodes none note makes =
    let same : makes.found ≡ found = same_journal used checkpoints p object block found note makes held of decodes in
    some_not_none makes.newest (last_of found.entries) (subst (λ (j : JournalFields). last_of j.entries ≡ Some makes.newest) same makes.last) none

pub makes_journal : (used : Place → Option Stored) (checkpoints : ℕ → Option Note) (p : Place) (object : ℕ) (block : Stored) (found : JournalFields) (newest : EntryFields) (row : ImageRow) (kept : ℕ) (note : Note) → used p ≡ Some block
    → block.object ≡ object → journal_held used object p ≡ Some found → last_of found.entries ≡ Some newest → MakesRow used (checkpoints object) object p row kept → note ≡ head_note p newest row kept → MakesByJournal used checkpoints p note
makes_journal used checkpoints p object block found newest row kept note held of decodes last makes is = record {
  block = block;
  held = held;
  found = found;
  decodes = subst (λ (o : ℕ). journal_held used o p ≡ Some found) (sym of) decodes;
  newest = newest;
  last = last;
  row = row;
  kept = kept;
  makes = subst (λ (o : ℕ). MakesRow used (checkpoints o) o p row kept) (sym of) makes;
  is = is;
}

-- ---- both

kinds : (kind : BlockKind) (o : ℕ) (block : Stored) → (seen_as Journal o (Some (record block { kind = kind })) ≡ None) ⊎ (seen_of o (Some (record block { kind = kind })) ≡ None)
kinds Journal o block = inr refl
kinds Checkpoint o block = inl refl
kinds Data o block = inl refl
kinds Pointers o block = inl refl

-- a block is seen as a journal block, or as one of a checkpoint, or as neither
seen_once : (o : ℕ) (found : Option Stored) → (seen_as Journal o found ≡ None) ⊎ (seen_of o found ≡ None)
seen_once o None = inl refl
seen_once o (Some block) = kinds block.kind o block

-- a block isn't both a journal block and a checkpoint
one_kind : {P : Type 0} → (used : Place → Option Stored) (o : ℕ) (p : Place) (journal : JournalFields) (checkpoint : CheckpointFields) → journal_held used o p ≡ Some journal → checkpoint_held used o p ≡ Some checkpoint → P
unfolding checkpoint_in
one_kind used o p journal checkpoint one other = elim (seen_once o (used p)) [
  | inl none ↦ some_not_none journal (journal_held used o p) one (ap (λ (bytes : Option (List ℕ)). bytes >>= journal_of o) none)
  | inr none ↦ some_not_none checkpoint (checkpoint_held used o p) other (ap (λ (bytes : Option (List ℕ)). (bytes >>= all_of first_at) >>= checkpoint_of (of_checkpoints o used)) none)
]

pub head_used : (used : Place → Option Stored) (checkpoints : ℕ → Option Note) (p : Place) (note : Note) → MakesHead used checkpoints p note → (block : Stored) × (used p ≡ Some block)
head_used used checkpoints p note (inl makes) = checkpoint_used used p note makes
head_used used checkpoints p note (inr makes) = journal_used used checkpoints p note makes

both_kinds : {P : Type 0} → (used : Place → Option Stored) (checkpoints : ℕ → Option Note) (p : Place) (note other : Note) → MakesByCheckpoint used p note → MakesByJournal used checkpoints p other → P
both_kinds used checkpoints p note other a b =
    let block : b.block ≡ a.block = one_value a.block b.block (used p) a.held b.held in
    one_kind used a.block.object p b.found a.found (subst (λ (s : Stored). journal_held used s.object p ≡ Some b.found) block b.decodes) a.decodes

pub one_head : (used : Place → Option Stored) (checkpoints : ℕ → Option Note) (p : Place) (note other : Note) → MakesHead used checkpoints p note → MakesHead used checkpoints p other → other ≡ note
one_head used checkpoints p note other (inl a) (inl b) = one_checkpoint used p note other a b
one_head used checkpoints p note other (inl a) (inr b) = both_kinds used checkpoints p note other a b
one_head used checkpoints p note other (inr a) (inl b) = both_kinds used checkpoints p other note b a
one_head used checkpoints p note other (inr a) (inr b) = one_journal used checkpoints p note other a b

-- what is found where no checkpoint is
pub either_note : (used : Place → Option Stored) (checkpoints : ℕ → Option Note) (p : Place) (found : Option Note) → ((note : Note) → MakesByCheckpoint used p note → ⊥)
    → MatchOption found ((note : Note) → MakesByJournal used checkpoints p note → ⊥) (MakesByJournal used checkpoints p)
    → MatchOption found ((note : Note) → MakesHead used checkpoints p note → ⊥) (MakesHead used checkpoints p)
either_note used checkpoints p None none made = λ note makes. elim makes [
  | inl it ↦ none note it
  | inr it ↦ made note it
]
either_note used checkpoints p (Some note) none made = inr made
