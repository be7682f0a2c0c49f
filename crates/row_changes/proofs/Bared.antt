-- What is left of a row where its older checkpoints are dropped, one after another.
use Rattle.std.proofs.Common.{◌≡◌, inl, inr, ℕ, ◌+◌, ◌<◌, ◌||◌, true, false, List, [], ◌∷◌, ◌++◌, length, take, get_or, Option, Some, None, IsSome, MatchOption, is_some, refl, sym, ap, subst, ◌∙◌}
use Rattle.std.specs.List.{AllByRecursion}
use Rattle.std.proofs.lemmas.Bool.{cases_Bool, or_cases, or_parts, or_left, false≢true}
use Rattle.std.proofs.lemmas.List.{take_more, append-nil}
use Rattle.s4_types.specs.Pointer.{Place}
use Rattle.block_log.specs.declared.kinds.BlockKind.TheVariants.{Journal}
use Rattle.block_log.specs.Log.{Stored, of_kind}
use Rattle.codec.specs.Fields.{◌>>=◌}
use Rattle.codec.specs.Checkpoint.{CheckpointFields}
use Rattle.codec.specs.Entry.{EntryFields}
use Rattle.codec.specs.declared.inodes.Inode.{Inode}
use Rattle.undo_redo.specs.Runs.{Run, AllBy, inode_after}
use Rattle.undo_redo.specs.Groups.{grouped}
use Rattle.checkpoint.specs.Held.{seen_of, checkpoint_held, checkpoint_places, places_in, places_named, of_checkpoints, is_one_of, HasItsBlocks, DropsCheckpoint}
use Rattle.journal_chain.specs.Chain.{BlockView, IsChain, Holds}
use Rattle.object_map.specs.declared.map.Row.{Row}
use Rattle.object_map.specs.declared.sides.Side.{Side}
use Rattle.time_read.specs.Rows.{IsRow, SidesAscend, chain_of, entries_of, checkpoint_of, checkpoint_places_of, side_places, inode_before, first_of, inode_of}
use Rattle.time_read.specs.Orderly.{BeginsDead, IsFromTo, IsOrderlyChain, IsOrderly}
use Rattle.time_read.proofs.Staying.{same_entries}
use Rattle.row_changes.specs.Recent.{IsBy}
use Rattle.row_changes.specs.Moved.{DropsSides}
use Rattle.row_changes.proofs.Places.{CheckpointLaws, BlocksStay, held_there}
use Rattle.row_changes.proofs.Sides.{OneMoment, IsTold, at_index, before_index, first_of_all, one_append, side_append, sides_told, sides_older, beside_earlier}

-- ---- one after another

-- before the first nothing has changed
pub none_dropped : (o : ℕ) (held : Place → Option Stored) → DropsSides held o [] held
none_dropped o held = record { gone = λ q is. absurd (false≢true is); kept = λ q is. refl; others = λ k other h. refl }

-- a checkpoint of a later moment than those that were dropped is as it was
pub later_stays : OneMoment → (held now : Place → Option Stored) (o : ℕ) (row : Row) (front : List Side) (p : Place) (c : CheckpointFields) → checkpoint_held held o p ≡ Some c → AllByRecursion (IsTold held o row) front → AllByRecursion (λ s. s.moment < c.moment) front
    → DropsSides held o front now → BlocksStay held now o p
later_stays law held now o row front p c told all earlier drops q is = ap (seen_of o) (drops.kept q (beside_earlier law held o row p c told front all earlier q is))

-- those before a place of the list were dropped, and the one there is as it was
pub record Dropping (held now : Place → Option Stored) (o : ℕ) (front : List Side) (s : Side) : Type 0 where
  pub drops : DropsSides held o front now
  pub there : HasItsBlocks now o (Some s.place)
  pub places : checkpoint_places now o s.place ≡ checkpoint_places held o s.place

dropping_at : CheckpointLaws → OneMoment → (held now : Place → Option Stored) (o : ℕ) (row : Row) (sides : List Side) (i : ℕ) (d : Side) → IsRow held o row → sides ≡ row.sides → i < length sides → DropsSides held o (take i sides) now
    → Dropping held now o (take i sides) (get_or sides i d)
dropping_at laws law held now o row sides i d r is lt drops =
    let s = get_or sides i d in
    let all : AllByRecursion (IsTold held o row) sides = subst (λ (xs : List Side). AllByRecursion (IsTold held o row) xs) (sym is) (sides_told held o row r) in
    let ascend : SidesAscend sides = subst SidesAscend (sym is) r.ascending in
    let told = at_index (IsTold held o row) sides i d lt all in
    let stay : BlocksStay held now o s.place =
    later_stays law held now o row (take i sides) s.place (record { object = o; moment = s.moment; inode = inode_of held o row s.moment }) told (first_of_all (IsTold held o row) i sides all) (before_index sides i d lt ascend) drops in
    let places : checkpoint_places now o s.place ≡ checkpoint_places held o s.place = laws.places held now o s.place stay in
    record {
      drops = drops;
      there = laws.held now o s.place (ap is_some (laws.told held now o s.place stay ∙ told));
      places = places;
    }

pub dropping : CheckpointLaws → OneMoment → (held now : Place → Option Stored) (o : ℕ) (row : Row) (sides : List Side) (i : ℕ) (s d : Side) → IsRow held o row → sides ≡ row.sides → i < length sides → s ≡ get_or sides i d → DropsSides held o (take i sides) now
    → Dropping held now o (take i sides) s
dropping laws law held now o row sides i s d r is lt at drops = subst (Dropping held now o (take i sides)) (sym at) (dropping_at laws law held now o row sides i d r is lt drops)

pub one_more : (held now next : Place → Option Stored) (o : ℕ) (front : List Side) (s : Side) → Dropping held now o front s → DropsCheckpoint now o (Some s.place) next → DropsSides held o (front ++ s ∷ []) next
one_more held now next o front s d drop =
    let view = of_checkpoints o held in
    let both : (q : Place) → is_one_of (side_places view (front ++ s ∷ [])) q ≡ (is_one_of (side_places view front) q || is_one_of (side_places view (s ∷ [])) q) = λ q. side_append view front (s ∷ []) q in
    let one : (q : Place) → is_one_of (side_places view (s ∷ [])) q ≡ is_one_of (checkpoint_places held o s.place) q = λ q. ap (λ (places : List Place). is_one_of places q) (append-nil (places_in view s.place)) in
    let now_is : (q : Place) → is_one_of (checkpoint_places now o s.place) q ≡ is_one_of (checkpoint_places held o s.place) q = λ q. ap (λ (places : List Place). is_one_of places q) d.places in
    record {
      gone = λ q is. elim (cases_Bool (is_one_of (checkpoint_places now o s.place) q)) [
        | inl here ↦ drop.gone q here
        | inr beside ↦ elim (or_cases (is_one_of (side_places view front) q) (is_one_of (side_places view (s ∷ [])) q) (sym (both q) ∙ is)) [
          | inl before ↦ drop.kept q beside ∙ d.drops.gone q before
          | inr at ↦ absurd (false≢true (sym beside ∙ now_is q ∙ sym (one q) ∙ at))
        ]
      ];
      kept = λ q is.
          let parts = or_parts (is_one_of (side_places view front) q) (is_one_of (side_places view (s ∷ [])) q) (sym (both q) ∙ is) in
          drop.kept q (now_is q ∙ sym (one q) ∙ parts.1) ∙ d.drops.kept q parts.0;
      others = λ k other h. drop.others k other h ∙ d.drops.others k other h;
    }

pub next_dropped : (held now next : Place → Option Stored) (o : ℕ) (sides : List Side) (i : ℕ) (s d : Side) → i < length sides → s ≡ get_or sides i d → Dropping held now o (take i sides) s → DropsCheckpoint now o (Some s.place) next
    → DropsSides held o (take (i + 1) sides) next
next_dropped held now next o sides i s d lt at was drop =
    subst (λ (xs : List Side). DropsSides held o xs next) (sym (take_more sides i d lt ∙ ap (λ (x : Side). take i sides ++ x ∷ []) (sym at))) (one_more held now next o (take i sides) s was drop)

-- ---- the row

-- the row without older checkpoints
abbrev pub bare : Row → Row
bare row = record row { sides = [] }

-- Its newest checkpoint is where it was, and its journal too.
pub record Bares (held later : Place → Option Stored) (o : ℕ) (row : Row) : Type 0 where
  pub stands : IsRow held o row
  pub drops : DropsSides held o row.sides later
  pub journal : of_kind Journal o later ≡ of_kind Journal o held
  pub found : checkpoint_of later o row ≡ checkpoint_of held o row
  pub places : checkpoint_places_of later o row ≡ checkpoint_places_of held o row

newest_found : CheckpointLaws → (N : Type 0) (held later : Place → Option Stored) (o : ℕ) (k : CheckpointFields) (c : Option Place) → ((p : Place) → checkpoint_held held o p ≡ Some k → BlocksStay held later o p) → MatchOption c N (λ p. checkpoint_held held o p ≡ Some k)
    → ((c >>= checkpoint_held later o) ≡ (c >>= checkpoint_held held o)) × (places_named (of_checkpoints o later) c ≡ places_named (of_checkpoints o held) c)
newest_found laws N held later o k None stay told = (refl, refl)
newest_found laws N held later o k (Some p) stay told = (laws.told held later o p (stay p told), laws.places held later o p (stay p told))

pub bares : CheckpointLaws → OneMoment → (held later : Place → Option Stored) (o : ℕ) (row : Row) → IsRow held o row → DropsSides held o row.sides later → Bares held later o row
bares laws law held later o row r drops =
    let k : CheckpointFields = record { object = o; moment = row.checkpoint_moment; inode = inode_of held o row row.checkpoint_moment } in
    let newest = newest_found laws (row.checkpoint_moment ≡ 0) held later o k row.checkpoint
    (λ p told. later_stays law held later o row row.sides p k told (sides_told held o row r) (sides_older held o row r) drops) r.checkpoint in
    record {
      stands = r;
      drops = drops;
      journal = drops.others Journal o refl;
      found = newest.0;
      places = newest.1;
    }

pub bare_entries : (held later : Place → Option Stored) (o : ℕ) (row : Row) → Bares held later o row → entries_of later o (bare row) ≡ entries_of held o row
bare_entries held later o row b = same_entries held later o (bare row) b.journal

bare_first : (held later : Place → Option Stored) (o : ℕ) (row : Row) → Bares held later o row → first_of later o (bare row) ≡ first_of held o row
bare_first held later o row b =
    ap (λ (es : List EntryFields). inode_before row.created row.checkpoint_moment es (checkpoint_of later o row)) (bare_entries held later o row b)
    ∙ ap (λ (c : Option CheckpointFields). inode_before row.created row.checkpoint_moment (entries_of held o row) c) b.found

pub bare_inode : (held later : Place → Option Stored) (o : ℕ) (row : Row) (t : ℕ) → Bares held later o row → inode_of later o (bare row) t ≡ inode_of held o row t
unfolding inode_of
bare_inode held later o row t b =
    ap (λ (es : List EntryFields). inode_after (first_of later o (bare row)) es t) (bare_entries held later o row b)
    ∙ ap (λ (i : Inode). inode_after i (entries_of held o row) t) (bare_first held later o row b)

pub bare_by : (held later : Place → Option Stored) (o : ℕ) (row : Row) (t : ℕ) → Bares held later o row → IsBy held o row t → IsBy later o (bare row) t
bare_by held later o row t b by = record {
  entries = subst (λ (es : List EntryFields). AllBy t es) (sym (bare_entries held later o row b)) by.entries;
  checkpoint = by.checkpoint;
}

told_same : (N : Type 0) (held later : Place → Option Stored) (o m : ℕ) (i j : Inode) (c : Option Place) → (c >>= checkpoint_held later o) ≡ (c >>= checkpoint_held held o) → j ≡ i
    → MatchOption c N (λ p. checkpoint_held held o p ≡ Some (record { object = o; moment = m; inode = i })) → MatchOption c N (λ p. checkpoint_held later o p ≡ Some (record { object = o; moment = m; inode = j }))
told_same N held later o m i j None same is told = told
told_same N held later o m i j (Some p) same is told = same ∙ told ∙ ap (λ (k : Inode). Some (record { object = o; moment = m; inode = k })) (sym is)

-- a block of a checkpoint that is still held is one of the newest
newest_alone : (held later : Place → Option Stored) (o : ℕ) (row : Row) → Bares held later o row → (q : Place) → IsSome (of_checkpoints o later q) → is_one_of (checkpoint_places_of later o row ++ []) q ≡ true
newest_alone held later o row b q there = elim (cases_Bool (is_one_of (side_places (of_checkpoints o held) row.sides) q)) [
  | inl old ↦ absurd (held_there o (later q) there (b.drops.gone q old))
  | inr beside ↦
      let was : of_checkpoints o later q ≡ of_checkpoints o held q = ap (seen_of o) (b.drops.kept q beside) in
      let split : (is_one_of (checkpoint_places_of held o row) q || is_one_of (side_places (of_checkpoints o held) row.sides) q) ≡ true =
      sym (one_append (checkpoint_places_of held o row) (side_places (of_checkpoints o held) row.sides) q) ∙ b.stands.only q (subst (λ x. IsSome x) was there) in
      one_append (checkpoint_places_of later o row) [] q
      ∙ elim (or_cases (is_one_of (checkpoint_places_of held o row) q) (is_one_of (side_places (of_checkpoints o held) row.sides) q) split) [
        | inl here ↦ or_left (is_one_of (checkpoint_places_of later o row) q) false (ap (λ (places : List Place). is_one_of places q) b.places ∙ here)
        | inr old ↦ absurd (false≢true (sym beside ∙ old))
      ]
]

pub bare_row : (held later : Place → Option Stored) (o : ℕ) (row : Row) → Bares held later o row → IsRow later o (bare row)
bare_row held later o row b =
    let next : Row = bare row in
    let entries : entries_of later o next ≡ entries_of held o row = bare_entries held later o row b in
    let first : first_of later o next ≡ first_of held o row = bare_first held later o row b in
    let run : Run (first_of later o next) (entries_of held o row) b.stands.last = subst (λ (k : Inode). Run k (entries_of held o row) b.stands.last) (sym first) b.stands.run in
    let chain : Holds later (chain_of o next) (entries_of held o row) = subst (λ (v : BlockView). IsChain v (chain_of o row) (entries_of held o row)) (sym b.journal) b.stands.chain in
    record {
      object = b.stands.object;
      chain = subst (λ (es : List EntryFields). Holds later (chain_of o next) es) (sym entries) chain;
      last = b.stands.last;
      run = subst (λ (es : List EntryFields). Run (first_of later o next) es b.stands.last) (sym entries) run;
      groups = ap grouped entries ∙ b.stands.groups;
      checkpoint = told_same (row.checkpoint_moment ≡ 0) held later o row.checkpoint_moment (inode_of held o row row.checkpoint_moment) (inode_of later o next row.checkpoint_moment) row.checkpoint b.found (bare_inode held later o row row.checkpoint_moment b) b.stands.checkpoint;
      sides = tt;
      ascending = tt;
      only = newest_alone held later o row b;
      created = ap (λ (k : Inode). k.created) first ∙ b.stands.created;
    }

pub bare_orderly : (held later : Place → Option Stored) (o : ℕ) (row : Row) (latest : ℕ) → Bares held later o row → IsOrderly held o row latest → IsOrderly later o (bare row) latest
bare_orderly held later o row latest b was =
    let next : Row = bare row in
    let entries : entries_of later o next ≡ entries_of held o row = bare_entries held later o row b in
    let first : first_of later o next ≡ first_of held o row = bare_first held later o row b in
    let chain : IsOrderlyChain row.created latest (first_of held o row) (entries_of later o next) = subst (λ (es : List EntryFields). IsOrderlyChain row.created latest (first_of held o row) es) (sym entries) was.chain in
    record {
      made = was.made;
      chain = subst (λ (k : Inode). IsOrderlyChain row.created latest k (entries_of later o next)) (sym first) chain;
      checkpoint = subst (λ (es : List EntryFields). MatchOption row.checkpoint (BeginsDead es) (λ p. IsFromTo row.created latest row.checkpoint_moment)) (sym entries) was.checkpoint;
    }
