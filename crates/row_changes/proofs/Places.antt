-- What a table shows where a checkpoint is put, the object's journal changes, and the older checkpoint is dropped.
use Rattle.std.proofs.Common.{◌≡◌, inl, inr, ℕ, ◌+◌, arith, Bool, true, false, List, [], ◌++◌, take, Option, Some, None, IsSome, MatchOption, is_some, refl, sym, ap, subst, ◌∙◌}
use Rattle.std.specs.List.{Contains}
use Rattle.std.specs.List.{AllByRecursion}
use Rattle.std.proofs.lemmas.Bool.{cases_Bool, both_ways, false≢true}
use Rattle.std.proofs.lemmas.List.{append-nil}
use Rattle.s4_types.specs.Pointer.{Place}
use Rattle.block_log.specs.declared.kinds.BlockKind.TheVariants.{Journal, Checkpoint, Pointers}
use Rattle.block_log.specs.Log.{Log, Stored, of_kind}
use Rattle.block_log.specs.Taken.{TakesPlaces}
use Rattle.codec.specs.Checkpoint.{CheckpointFields}
use Rattle.checkpoint.specs.Held.{seen_of, checkpoint_held, checkpoint_in, checkpoint_places, places_in, places_named, of_checkpoints, is_one_of, HasBytes, HasItsBlocks, OnlyCheckpointChanged, PutsCheckpoint, DropsCheckpoint}
use Rattle.checkpoint.proofs.OwnBlocks.{has_some, same_checkpoints}
use Rattle.journal_chain.specs.Chain.{BlockView, OnlyJournalChanged}
use Rattle.object_map.specs.declared.map.Row.{Row}
use Rattle.object_map.specs.declared.sides.Side.{Side}
use Rattle.time_read.specs.Rows.{IsRow, IsSide, checkpoint_places_of, side_places, inode_of}
use Rattle.row_changes.specs.Moved.{IsMoved}

-- ---- what is known of checkpoints

-- the blocks of a checkpoint are as they were
abbrev pub BlocksStay : (Place → Option Stored) → (Place → Option Stored) → ℕ → Place → Type 0
BlocksStay held later o p = (q : Place) → is_one_of (checkpoint_places held o p) q ≡ true → of_checkpoints o later q ≡ of_checkpoints o held q

-- A checkpoint is a matter of its own blocks, and each of them is held.
pub record CheckpointLaws : Type 0 where
  pub told : (held later : Place → Option Stored) (o : ℕ) (p : Place) → BlocksStay held later o p → checkpoint_held later o p ≡ checkpoint_held held o p
  pub places : (held later : Place → Option Stored) (o : ℕ) (p : Place) → BlocksStay held later o p → checkpoint_places later o p ≡ checkpoint_places held o p
  pub held : (held : Place → Option Stored) (o : ℕ) (p : Place) → IsSome (checkpoint_held held o p) → HasItsBlocks held o (Some p)

told_there : CheckpointLaws → (N : Type 0) (held : Place → Option Stored) (o : ℕ) (c : CheckpointFields) (older : Option Place) → MatchOption older N (λ p. checkpoint_held held o p ≡ Some c) → HasItsBlocks held o older
told_there laws N held o c None h q is = absurd (false≢true is)
told_there laws N held o c (Some p) h q is = laws.held held o p (ap is_some h) q is

-- each block of the checkpoint that a row names is held
pub older_there : CheckpointLaws → (held : Place → Option Stored) (o : ℕ) (row : Row) → IsRow held o row → HasItsBlocks held o row.checkpoint
older_there laws held o row r =
    told_there laws (row.checkpoint_moment ≡ 0) held o (record { object = o; moment = row.checkpoint_moment; inode = inode_of held o row row.checkpoint_moment }) row.checkpoint r.checkpoint

-- ---- a row that names no older checkpoints

-- the blocks of its checkpoints are those of one
places_alone : (view : BlockView) (places : List Place) (sides : List Side) → sides ≡ [] → places ++ side_places view sides ≡ places
places_alone view places sides none = ap (λ (ss : List Side). places ++ side_places view ss) none ∙ append-nil places

pub checkpoint_alone : (held : Place → Option Stored) (o : ℕ) (row : Row) → IsRow held o row → row.sides ≡ []
    → (q : Place) → IsSome (of_checkpoints o held q) → is_one_of (places_named (of_checkpoints o held) row.checkpoint) q ≡ true
checkpoint_alone held o row r none q there =
    sym (ap (λ (places : List Place). is_one_of places q) (places_alone (of_checkpoints o held) (checkpoint_places_of held o row) row.sides none)) ∙ r.only q there

pub alone_of_all : (view : BlockView) (places : List Place) (sides : List Side) (q : Place) → sides ≡ [] → is_one_of places q ≡ true → is_one_of (places ++ side_places view sides) q ≡ true
alone_of_all view places sides q none is = ap (λ (all : List Place). is_one_of all q) (places_alone view places sides none) ∙ is

pub no_sides : (held : Place → Option Stored) (o : ℕ) (row : Row) (sides : List Side) → sides ≡ [] → AllByRecursion (IsSide held o row) sides
no_sides held o row sides none = subst (λ (ss : List Side). AllByRecursion (IsSide held o row) ss) (sym none) tt

-- where a checkpoint is seen, something is held
pub held_there : (o : ℕ) (there : Option Stored) → IsSome (seen_of o there) → there ≡ None → ⊥
held_there o there seen none = both_ways false refl (sym (ap (λ x. is_some (seen_of o x)) none) ∙ seen)

-- ---- a checkpoint was put, and the journal has changed

-- A checkpoint of the object was put, and then its journal alone has changed; the older one that this pointer refers to, if it
-- leads to one, was there.
pub record Put (log between chained : Place → Option Stored) (o : ℕ) (p : Place) (older : Option Place) : Type 0 where
  pub laws : CheckpointLaws
  pub there : HasItsBlocks log o older
  pub put : PutsCheckpoint log o p between
  pub journal : OnlyJournalChanged o between chained

-- the journal is as it was where a checkpoint is put
pub put_journal : (log between : Place → Option Stored) (o : ℕ) (p : Place) → PutsCheckpoint log o p between → of_kind Journal o between ≡ of_kind Journal o log
put_journal log between o p put = put.others Journal o refl

-- checkpoints are as they were where a journal alone changes
pub journal_views : (o : ℕ) (held later : Place → Option Stored) → OnlyJournalChanged o held later → of_checkpoints o later ≡ of_checkpoints o held
journal_views o held later only = same_checkpoints o held later (only Checkpoint o refl) (only Pointers o refl)

-- the places of the new checkpoint, where nothing was held, are none of a block that was there
pub not_new : (log between : Place → Option Stored) (o : ℕ) (p q : Place) → PutsCheckpoint log o p between → IsSome (of_checkpoints o log q) → is_one_of (checkpoint_places between o p) q ≡ false
not_new log between o p q put there = elim (cases_Bool (is_one_of (checkpoint_places between o p) q)) [
  | inl new ↦ absurd (held_there o (log q) there (put.fresh q new))
  | inr beside ↦ beside
]

apart : (log between chained : Place → Option Stored) (o : ℕ) (p : Place) (older : Option Place) → Put log between chained o p older
    → (q : Place) → is_one_of (places_named (of_checkpoints o log) older) q ≡ true → is_one_of (checkpoint_places between o p) q ≡ false
apart log between chained o p older s q old = not_new log between o p q s.put (has_some (of_checkpoints o log q) (s.there q old))

places_stay : CheckpointLaws → (log between : Place → Option Stored) (o : ℕ) (older : Option Place) → ((q : Place) → is_one_of (places_named (of_checkpoints o log) older) q ≡ true → between q ≡ log q)
    → places_named (of_checkpoints o between) older ≡ places_named (of_checkpoints o log) older
places_stay laws log between o None kept = refl
places_stay laws log between o (Some r) kept = laws.places log between o r (λ q is. ap (seen_of o) (kept q is))

-- the older one is where it was
pub older_places : (log between chained : Place → Option Stored) (o : ℕ) (p : Place) (older : Option Place) → Put log between chained o p older
    → places_named (of_checkpoints o chained) older ≡ places_named (of_checkpoints o log) older
older_places log between chained o p older s =
    ap (λ (v : BlockView). places_named v older) (journal_views o between chained s.journal)
    ∙ places_stay s.laws log between o older (λ q old. s.put.kept q (apart log between chained o p older s q old))

pub older_is : (log between chained : Place → Option Stored) (o : ℕ) (p : Place) (older : Option Place) → Put log between chained o p older
    → (q : Place) (b : Bool) → is_one_of (places_named (of_checkpoints o chained) older) q ≡ b → is_one_of (places_named (of_checkpoints o log) older) q ≡ b
older_is log between chained o p older s q b is = sym (ap (λ (places : List Place). is_one_of places q) (older_places log between chained o p older s)) ∙ is

-- a block of a checkpoint beside the new one is as it was
beside_new : (log between chained : Place → Option Stored) (o : ℕ) (p q : Place) (older : Option Place) → Put log between chained o p older → is_one_of (checkpoint_places between o p) q ≡ false → of_checkpoints o chained q ≡ of_checkpoints o log q
beside_new log between chained o p q older s other =
    ap (λ (v : BlockView). v q) (journal_views o between chained s.journal) ∙ ap (seen_of o) (s.put.kept q other)

-- the blocks of the older checkpoint are still there
pub older_still : (log between chained : Place → Option Stored) (o : ℕ) (p : Place) (older : Option Place) → Put log between chained o p older → HasItsBlocks chained o older
older_still log between chained o p older s q is =
    let old = older_is log between chained o p older s q true is in
    subst HasBytes (sym (beside_new log between chained o p q older s (apart log between chained o p older s q old))) (s.there q old)

-- ---- the older one was dropped

-- a place of the new checkpoint is none that was let go
kept_new : (log between chained : Place → Option Stored) (o : ℕ) (p : Place) (older : Option Place) → Put log between chained o p older
    → (q : Place) → is_one_of (checkpoint_places between o p) q ≡ true → is_one_of (places_named (of_checkpoints o chained) older) q ≡ false
kept_new log between chained o p older s q new = elim (cases_Bool (is_one_of (places_named (of_checkpoints o chained) older) q)) [
  | inl old ↦ absurd (false≢true (sym (apart log between chained o p older s q (older_is log between chained o p older s q true old)) ∙ new))
  | inr other ↦ other
]

chained_places : (log between chained : Place → Option Stored) (o : ℕ) (p : Place) (older : Option Place) → Put log between chained o p older → checkpoint_places chained o p ≡ checkpoint_places between o p
chained_places log between chained o p older s = ap (λ (v : BlockView). places_in v p) (journal_views o between chained s.journal)

new_stays : (log between chained after : Place → Option Stored) (o : ℕ) (p : Place) (older : Option Place) → Put log between chained o p older → DropsCheckpoint chained o older after → BlocksStay chained after o p
new_stays log between chained after o p older s d q is =
    let new = sym (ap (λ (places : List Place). is_one_of places q) (chained_places log between chained o p older s)) ∙ is in
    ap (seen_of o) (d.kept q (kept_new log between chained o p older s q new))

-- what is read of the new checkpoint stays
pub told_on : (log between chained after : Place → Option Stored) (o : ℕ) (p : Place) (older : Option Place) (c : CheckpointFields) → Put log between chained o p older → DropsCheckpoint chained o older after
    → checkpoint_held between o p ≡ Some c → checkpoint_held after o p ≡ Some c
told_on log between chained after o p older c s d told =
    s.laws.told chained after o p (new_stays log between chained after o p older s d) ∙ ap (λ (v : BlockView). checkpoint_in v p) (journal_views o between chained s.journal) ∙ told

-- and so do its places
pub new_places : (log between chained after : Place → Option Stored) (o : ℕ) (p : Place) (older : Option Place) → Put log between chained o p older → DropsCheckpoint chained o older after → checkpoint_places after o p ≡ checkpoint_places between o p
new_places log between chained after o p older s d = s.laws.places chained after o p (new_stays log between chained after o p older s d) ∙ chained_places log between chained o p older s

pub new_is : (log between chained after : Place → Option Stored) (o : ℕ) (p : Place) (older : Option Place) → Put log between chained o p older → DropsCheckpoint chained o older after
    → (q : Place) (b : Bool) → is_one_of (checkpoint_places after o p) q ≡ b → is_one_of (checkpoint_places between o p) q ≡ b
new_is log between chained after o p older s d q b is = sym (ap (λ (places : List Place). is_one_of places q) (new_places log between chained after o p older s d)) ∙ is

-- no block of a checkpoint of the object is held but those of the older one
abbrev pub OnlyOlder : (Place → Option Stored) → ℕ → Option Place → Type 0
OnlyOlder log o older = (q : Place) → IsSome (of_checkpoints o log q) → is_one_of (places_named (of_checkpoints o log) older) q ≡ true

-- no block of a checkpoint but those of the new one is left
pub new_alone : (log between chained after : Place → Option Stored) (o : ℕ) (p : Place) (older : Option Place) → Put log between chained o p older → DropsCheckpoint chained o older after → OnlyOlder log o older
    → (q : Place) → IsSome (of_checkpoints o after q) → is_one_of (checkpoint_places after o p) q ≡ true
new_alone log between chained after o p older s d only q there = elim (cases_Bool (is_one_of (checkpoint_places after o p) q)) [
  | inl new ↦ new
  | inr other ↦ elim (cases_Bool (is_one_of (places_named (of_checkpoints o chained) older) q)) [
    | inl old ↦ absurd (held_there o (after q) there (d.gone q old))
    | inr beside ↦
        let was : of_checkpoints o after q ≡ of_checkpoints o log q =
        ap (seen_of o) (d.kept q beside) ∙ beside_new log between chained o p q older s (new_is log between chained after o p older s d q false other) in
        absurd (false≢true (sym (older_is log between chained o p older s q false beside) ∙ only q (subst (λ b. IsSome b) was there)))
  ]
]

-- where that was dropped, and none put, none is left
pub none_left : (log after : Place → Option Stored) (o : ℕ) (older : Option Place) → DropsCheckpoint log o older after → OnlyOlder log o older → (q : Place) → of_checkpoints o after q ≡ None
none_left log after o older d only q = elim (cases_Bool (is_one_of (places_named (of_checkpoints o log) older) q)) [
  | inl old ↦ ap (seen_of o) (d.gone q old)
  | inr beside ↦ ap (seen_of o) (d.kept q beside) ∙ unseen (of_checkpoints o log q) (λ there. both_ways false refl (sym beside ∙ only q there))
]
  where
    unseen : (seen : Option (List ℕ)) → (IsSome seen → ⊥) → seen ≡ None
    unseen None none = refl
    unseen (Some bytes) none = absurd (none refl)

-- each of its blocks is at a place that was taken
pub new_among : (n : ℕ) (log between after : Log) (o : ℕ) (p : Place) (older : Option Place) → Put log.held between.held between.held o p older → DropsCheckpoint between.held o older after.held → OnlyOlder log.held o older → TakesPlaces n log between
    → (q : Place) → IsSome (of_checkpoints o after.held q) → Contains (take n log.ahead) q
new_among n log between after o p older s d only takes q there =
    let new = new_is log.held between.held between.held after.held o p older s d q true (new_alone log.held between.held between.held after.held o p older s d only q there) in
    let same : after.held q ≡ between.held q = d.kept q (kept_new log.held between.held between.held o p older s q new) in
    takes.among q (s.put.fresh q new) (subst (λ (x : Option Stored). IsSome x) same (something o (after.held q) there))
  where
    something : (o : ℕ) (there : Option Stored) → IsSome (seen_of o there) → IsSome there
    something o None seen = seen
    something o (Some block) seen = refl

-- the checkpoint was moved, where nothing else has changed
pub moved : (log between after : Place → Option Stored) (o : ℕ) (p : Place) (older : Option Place) → Put log between between o p older → DropsCheckpoint between o older after
    → IsMoved log (places_named (of_checkpoints o log) older) (checkpoint_places after o p) after
moved log between after o p older s d =
    let still : (q : Place) (b : Bool) → is_one_of (places_named (of_checkpoints o log) older) q ≡ b → is_one_of (places_named (of_checkpoints o between) older) q ≡ b =
    λ q b is. ap (λ (places : List Place). is_one_of places q) (older_places log between between o p older s) ∙ is in
    record {
      fresh = λ q new. s.put.fresh q (new_is log between between after o p older s d q true new);
      gone = λ q old. d.gone q (still q true old);
      kept = λ q old new. d.kept q (still q false old) ∙ s.put.kept q (new_is log between between after o p older s d q false new);
    }

-- a checkpoint that is put, and then one that is dropped, change checkpoints alone
pub put_only : (before between after : Place → Option Stored) (o : ℕ) (p : Place) → PutsCheckpoint before o p between → OnlyCheckpointChanged o between after → OnlyCheckpointChanged o before after
put_only before between after o p put only k other h = only k other h ∙ put.others k other h

-- ---- places that are taken

-- Two changes in turn take as many places as both together.
abbrev pub AddUp : Type 0
AddUp = (n m : ℕ) (first second third : Log) → TakesPlaces n first second → TakesPlaces m second third → TakesPlaces (n + m) first third

-- the checkpoint takes its places, and the drop none
pub taken_first : (log between after : Log) (n : ℕ) → AddUp → TakesPlaces n log between → TakesPlaces 0 between after → TakesPlaces n log after
taken_first log between after n law put dropped = subst (λ k. TakesPlaces k log after) (let same : n + 0 ≡ n = omega arith in same) (law n 0 log between after put dropped)
