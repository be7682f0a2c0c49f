-- What a table shows where all blocks of an object are dropped.
use Rattle.std.proofs.Common.{◌≡◌, inl, inr, ℕ, true, false, ◌==◌, not, cond, Bool, List, [], ◌++◌, Option, Some, None, IsSome, refl, sym, ap, subst, ◌∙◌, arith}
use Rattle.std.proofs.lemmas.Bool.{cases_Bool, and_right, false≢true}
use Rattle.std.proofs.lemmas.List.{append-nil}
use Rattle.s4_types.specs.Pointer.{Place}
use Rattle.block_log.specs.declared.kinds.BlockKind.{BlockKind}
use Rattle.block_log.specs.declared.kinds.BlockKind.TheVariants.{Journal, Checkpoint, Data, Pointers}
use Rattle.block_log.specs.Log.{Log, NamesAreOfData, Stored, of_kind, seen_as, same_kind}
use Rattle.journal_chain.specs.Chain.{OnlyJournalChanged}
use Rattle.checkpoint.specs.Held.{is_checkpoint_kind, HasBytes, seen_of, of_checkpoints, places_named, is_one_of, HasItsBlocks, OnlyCheckpointChanged, DropsCheckpoint}
use Rattle.checkpoint.proofs.OwnBlocks.{same_checkpoints, seen_none}
use Rattle.object_map.specs.declared.map.Row.{Row}
use Rattle.object_map.specs.declared.sides.Side.{Side}
use Rattle.time_read.specs.Rows.{IsRow, checkpoint_places_of, side_places}
use Rattle.version_store.specs.Store.{HasNothing, IsNamedBy, times_led}
use Rattle.version_store.specs.Replacing.{OnlyDataChanged, OtherObjectsStay}
use Rattle.version_store.specs.private.Recounting.{Recounts, Uncounts}
use Rattle.version_store.specs.private.Below.{CheckpointsHaveBlocks}
use Rattle.version_store.proofs.Named.{named_alike, named_there}
use Rattle.version_store.proofs.Naming.{checkpoint_there}

-- what is seen where some places are emptied
pub seen_cond : (kind : BlockKind) (o : ℕ) (gone : Bool) (there : Option Stored) → seen_as kind o (cond gone None there) ≡ cond gone None (seen_as kind o there)
seen_cond kind o true there = refl
seen_cond kind o false there = refl

pub none_either : (gone : Bool) (seen : Option (List ℕ)) → (gone ≡ true → seen ≡ None) → cond gone None seen ≡ seen
none_either true seen none = sym (none refl)
none_either false seen none = refl

-- ---- all blocks of an object are dropped: first its data, then its journal, then its checkpoint

-- the blocks of the checkpoint are where they were, once the journal was dropped
pub checkpoint_stands : CheckpointsHaveBlocks → (held later : Place → Option Stored) (o : ℕ) (row : Row) → IsRow held o row → OnlyJournalChanged o held later → HasItsBlocks later o row.checkpoint
checkpoint_stands law held later o row stands only =
    subst (λ (view : Place → Option (List ℕ)). (q : Place) → is_one_of (places_named view row.checkpoint) q ≡ true → HasBytes (view q)) (sym (same_checkpoints o held later (only Checkpoint o refl) (only Pointers o refl))) (checkpoint_there law held o row stands)

checkpoint_only : (held later : Place → Option Stored) (o : ℕ) (row : Row) → IsRow held o row → row.sides ≡ [] → OnlyJournalChanged o held later → (p : Place) → IsSome (of_checkpoints o later p) → is_one_of (places_named (of_checkpoints o later) row.checkpoint) p ≡ true
checkpoint_only held later o row stands alone only =
    let places : checkpoint_places_of held o row ++ side_places (of_checkpoints o held) row.sides ≡ checkpoint_places_of held o row =
    ap (λ (sides : List Side). checkpoint_places_of held o row ++ side_places (of_checkpoints o held) sides) alone ∙ append-nil (checkpoint_places_of held o row) in
    let was : (p : Place) → IsSome (of_checkpoints o held p) → is_one_of (places_named (of_checkpoints o held) row.checkpoint) p ≡ true =
    λ p there. sym (ap (λ (all : List Place). is_one_of all p) places) ∙ stands.only p there in
    subst (λ (view : Place → Option (List ℕ)). (p : Place) → IsSome (view p) → is_one_of (places_named view row.checkpoint) p ≡ true) (sym (same_checkpoints o held later (only Checkpoint o refl) (only Pointers o refl))) was

none_there : (seen : Option (List ℕ)) → (IsSome seen → ⊥) → seen ≡ None
none_there None not = refl
none_there (Some bytes) not = absurd (not refl)

-- no checkpoint is left, once that of a row with no older ones was dropped
pub checkpoint_gone : (held first second : Place → Option Stored) (o : ℕ) (row : Row) → IsRow held o row → row.sides ≡ [] → OnlyJournalChanged o held first → DropsCheckpoint first o row.checkpoint second
    → (p : Place) → of_checkpoints o second p ≡ None
checkpoint_gone held first second o row stands alone journal dropped p = elim (cases_Bool (is_one_of (places_named (of_checkpoints o first) row.checkpoint) p)) [
  | inl is ↦ ap (seen_of o) (dropped.gone p is)
  | inr beside ↦
      let same : of_checkpoints o second p ≡ of_checkpoints o first p = ap (seen_of o) (dropped.kept p beside) in
      none_there (of_checkpoints o second p) (λ there. false≢true (sym beside ∙ checkpoint_only held first o row stands alone journal p (subst (λ b. IsSome b) same there)))
]

pub nothing_left : (o : ℕ) (counted bared first second : Place → Option Stored) → ((p : Place) → of_kind Data o counted p ≡ None) → OnlyCheckpointChanged o counted bared → ((p : Place) → of_kind Journal o first p ≡ None) → OnlyJournalChanged o bared first
    → ((p : Place) → of_checkpoints o second p ≡ None) → OnlyCheckpointChanged o first second → HasNothing second o
nothing_left o counted bared first second data_none sides journal_none journal checkpoint_none checkpoint Journal p = ap (λ (view : Place → Option (List ℕ)). view p) (checkpoint Journal o refl) ∙ journal_none p
nothing_left o counted bared first second data_none sides journal_none journal checkpoint_none checkpoint Checkpoint p = (seen_none o (second p) (checkpoint_none p)).0
nothing_left o counted bared first second data_none sides journal_none journal checkpoint_none checkpoint Pointers p = (seen_none o (second p) (checkpoint_none p)).1
nothing_left o counted bared first second data_none sides journal_none journal checkpoint_none checkpoint Data p =
    ap (λ (view : Place → Option (List ℕ)). view p) (checkpoint Data o refl ∙ journal Data o refl ∙ sides Data o refl) ∙ data_none p

-- views of other objects, and of data, after all was dropped
pub others_left : (o : ℕ) (held counted bared first second : Place → Option Stored) → OnlyDataChanged o held counted → OnlyCheckpointChanged o counted bared → OnlyJournalChanged o bared first → OnlyCheckpointChanged o first second → OtherObjectsStay o held second
others_left o held counted bared first second names sides journal checkpoint kind other beside =
    checkpoint kind other (and_right (is_checkpoint_kind kind) (o == other) beside) ∙ journal kind other (and_right (same_kind Journal kind) (o == other) beside)
    ∙ sides kind other (and_right (is_checkpoint_kind kind) (o == other) beside) ∙ names kind other (and_right (same_kind Data kind) (o == other) beside)

-- no data is left once no name is
pub data_gone : (before after : Log) (o : ℕ) (named : List (Option Place)) → IsNamedBy o before named → Recounts o before [] named after → (p : Place) → of_kind Data o after.held p ≡ None
data_gone before after o names counted counts p = none_there (of_kind Data o after.held p) (λ some.
    let least = named_there o after p counts.names some in
    let now = counts.here p in
    let was = counted p in
    let none : times_led p [] ≡ 0 = refl in
    omega (arith, least, now, was, none))

-- and the names of all other data are as they were
pub uncounted_all : (before counted bared first second : Log) (o : ℕ) (named : List (Option Place)) → Recounts o before [] named counted → OnlyCheckpointChanged o counted.held bared.held → OnlyJournalChanged o bared.held first.held
    → OnlyCheckpointChanged o first.held second.held → second.named ≡ counted.named → NamesAreOfData second → Uncounts before second o
uncounted_all before counted bared first second o given counts sides journal checkpoint named names = record {
  names = names;
  beside = λ q p beside.
      named_alike q counted second p (ap (λ (view : Place → Option (List ℕ)). view p) (checkpoint Data q refl ∙ journal Data q refl ∙ sides Data q refl)) (ap (λ (n : Place → ℕ). n p) named)
      ∙ counts.beside q p beside;
}
