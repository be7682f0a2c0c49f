-- What a checkpoint that is put before others makes of those: the newest becomes an older one, and the first may go.
use Rattle.std.proofs.Common.{◌≡◌, inl, inr, ℕ, ◌<◌, ◌≤◌, ◌||◌, true, false, List, [], ◌∷◌, ◌++◌, Option, Some, None, IsSome, IfSome, is_some, refl, sym, ap, subst, ◌∙◌}
use Rattle.std.specs.List.{AllByRecursion}
use Rattle.std.specs.Option.{option_to_list}
use Rattle.std.proofs.lemmas.Bool.{cases_Bool, or_cases, or_left, or_right, false≢true}
use Rattle.s4_types.specs.Pointer.{Place}
use Rattle.block_log.specs.Log.{Stored}
use Rattle.checkpoint.specs.Held.{seen_of, checkpoint_held, checkpoint_places, places_in, places_named, of_checkpoints, is_one_of, HasItsBlocks, DropsCheckpoint}
use Rattle.checkpoint.proofs.OwnBlocks.{has_some}
use Rattle.object_map.specs.declared.map.Row.{Row}
use Rattle.object_map.specs.declared.sides.Side.{Side}
use Rattle.object_map.specs.Sides.{sides_named, sides_after, place_of}
use Rattle.time_read.specs.Rows.{IsRow, SidesAscend, side_places, inode_of}
use Rattle.row_changes.proofs.Places.{CheckpointLaws, BlocksStay, Put, not_new, held_there, older_is, new_is}
use Rattle.row_changes.proofs.Sides.{OneMoment, IsTold, one_append, side_append, of_one, named_all, sides_older, ascend_all, all_before, beside_earlier, each_side_decodes}

-- ---- the parts

-- a checkpoint is of a later moment than the one that goes
abbrev pub IsBehind : Option Side → Side → Type 0
IsBehind None side = Unit {0}
IsBehind (Some d) side = d.moment < side.moment

-- All checkpoints of a row are the one that goes, if one goes, and those that are kept.
pub record Parted (held : Place → Option Stored) (o : ℕ) (row : Row) (m : ℕ) (gone : Option Side) (kept : List Side) : Type 0 where
  pub goes : IfSome gone (IsTold held o row)
  pub told : AllByRecursion (IsTold held o row) kept
  pub ascending : SidesAscend kept
  pub earlier : AllByRecursion (λ s. s.moment < m) kept
  pub behind : AllByRecursion (IsBehind gone) kept
  pub all : option_to_list gone ++ kept ≡ sides_named row

nothing_goes : (kept : List Side) → AllByRecursion (IsBehind None) kept
nothing_goes [] = tt
nothing_goes (s ∷ kept) = (tt, nothing_goes kept)

split : (held : Place → Option Stored) (o : ℕ) (row : Row) (m : ℕ) (gone : Option Side) (kept : List Side) → option_to_list gone ++ kept ≡ sides_named row
    → AllByRecursion (IsTold held o row) (option_to_list gone ++ kept) → SidesAscend (option_to_list gone ++ kept) → AllByRecursion (λ s. s.moment < m) (option_to_list gone ++ kept) → Parted held o row m gone kept
split held o row m None kept all told ascend earlier = record { goes = tt; told = told; ascending = ascend; earlier = earlier; behind = nothing_goes kept; all = all }
split held o row m (Some d) kept all told ascend earlier = record { goes = told.0; told = told.1; ascending = ascend.1; earlier = earlier.1; behind = ascend.0; all = all }

pub parted : (held : Place → Option Stored) (o : ℕ) (row : Row) (m : ℕ) (gone : Option Side) (kept : List Side) → IsRow held o row → row.checkpoint_moment ≤ m → IfSome row.checkpoint (λ _. row.checkpoint_moment < m) → option_to_list gone ++ kept ≡ sides_named row
    → Parted held o row m gone kept
parted held o row m gone kept r le newer all =
    split held o row m gone kept all
    (subst (λ (sides : List Side). AllByRecursion (IsTold held o row) sides) (sym all) (each_side_decodes held o row r))
    (subst SidesAscend (sym all) (ascend_all row.sides row.checkpoint row.checkpoint_moment r.ascending (sides_older held o row r)))
    (subst (λ (sides : List Side). AllByRecursion (λ s. s.moment < m) sides) (sym all) (all_before row.sides row.checkpoint row.checkpoint_moment m (sides_older held o row r) le newer))

pub parted_aside : (held : Place → Option Stored) (o : ℕ) (row aside : Row) (m : ℕ) (gone : Option Side) → IsRow held o row → row.checkpoint_moment ≤ m → IfSome row.checkpoint (λ _. row.checkpoint_moment < m)
    → aside ≡ record row { sides = sides_after row } → option_to_list gone ++ aside.sides ≡ sides_named row → Parted held o row m gone (sides_after row)
parted_aside held o row aside m gone r le newer is all =
    parted held o row m gone (sides_after row) r le newer (sym (ap (λ (x : Row). option_to_list gone ++ x.sides) is) ∙ all)

-- the one that goes is there
pub goes_there : CheckpointLaws → (held : Place → Option Stored) (o : ℕ) (row : Row) (gone : Option Side) → IfSome gone (IsTold held o row) → HasItsBlocks held o (place_of gone)
goes_there laws held o row None told q is = absurd (false≢true is)
goes_there laws held o row (Some d) told q is = laws.held held o d.place (ap is_some told) q is

-- a checkpoint of a later moment has no block of the one that goes
beside_gone : OneMoment → (held : Place → Option Stored) (o : ℕ) (row : Row) (gone : Option Side) (s : Side) → IfSome gone (IsTold held o row) → IsTold held o row s → IsBehind gone s
    → (q : Place) → is_one_of (checkpoint_places held o s.place) q ≡ true → is_one_of (places_named (of_checkpoints o held) (place_of gone)) q ≡ false
beside_gone law held o row None s goes told behind q is = refl
beside_gone law held o row (Some d) s goes told behind q is =
    sym (of_one (of_checkpoints o held) (Some d) q)
    ∙ beside_earlier law held o row s.place (record { object = o; moment = s.moment; inode = inode_of held o row s.moment }) told (d ∷ []) (goes, tt) (behind, tt) q is

-- ---- the blocks

-- those that are kept are as they were
kept_stays : OneMoment → (log between after : Place → Option Stored) (o : ℕ) (row : Row) (p : Place) (gone : Option Side) (s : Side) → Put log between between o p (place_of gone) → DropsCheckpoint between o (place_of gone) after
    → IfSome gone (IsTold log o row) → IsTold log o row s → IsBehind gone s → BlocksStay log after o s.place
kept_stays law log between after o row p gone s put d goes told behind q is =
    let there : IsSome (of_checkpoints o log q) = has_some (of_checkpoints o log q) (put.laws.held log o s.place (ap is_some told) q is) in
    let beside : is_one_of (places_named (of_checkpoints o log) (place_of gone)) q ≡ false = beside_gone law log o row gone s goes told behind q is in
    ap (seen_of o) (d.kept q (older_still_not log between after o p gone put q beside) ∙ put.put.kept q (not_new log between o p q put.put there))
  where
    older_still_not : (log between after : Place → Option Stored) (o : ℕ) (p : Place) (gone : Option Side) → Put log between between o p (place_of gone) → (q : Place) → is_one_of (places_named (of_checkpoints o log) (place_of gone)) q ≡ false → is_one_of (places_named (of_checkpoints o between) (place_of gone)) q ≡ false
    older_still_not log between after o p gone put q is = elim (cases_Bool (is_one_of (places_named (of_checkpoints o between) (place_of gone)) q)) [
      | inl old ↦ absurd (false≢true (sym is ∙ older_is log between between o p (place_of gone) put q true old))
      | inr beside ↦ beside
    ]

all_stay : OneMoment → (log between after : Place → Option Stored) (o : ℕ) (row : Row) (p : Place) (gone : Option Side) → Put log between between o p (place_of gone) → DropsCheckpoint between o (place_of gone) after → IfSome gone (IsTold log o row)
    → (kept : List Side) → AllByRecursion (IsTold log o row) kept → AllByRecursion (IsBehind gone) kept → AllByRecursion (λ s. BlocksStay log after o s.place) kept
all_stay law log between after o row p gone put d goes [] told behind = tt
all_stay law log between after o row p gone put d goes (s ∷ kept) told behind =
    (kept_stays law log between after o row p gone s put d goes told.0 behind.0, all_stay law log between after o row p gone put d goes kept told.1 behind.1)

same_places : CheckpointLaws → (held later : Place → Option Stored) (o : ℕ) (kept : List Side) → AllByRecursion (λ s. BlocksStay held later o s.place) kept → side_places (of_checkpoints o later) kept ≡ side_places (of_checkpoints o held) kept
same_places laws held later o [] stay = refl
same_places laws held later o (s ∷ kept) stay =
    ap (λ (places : List Place). places ++ side_places (of_checkpoints o later) kept) (laws.places held later o s.place stay.0)
    ∙ ap (λ (places : List Place). places_in (of_checkpoints o held) s.place ++ places) (same_places laws held later o kept stay.1)

-- A checkpoint that is kept tells later what it told, of a moment before this one.
abbrev pub IsKept : (Place → Option Stored) → (Place → Option Stored) → ℕ → Row → ℕ → Side → Type 0
IsKept held later o row m s = (checkpoint_held later o s.place ≡ Some (record { object = o; moment = s.moment; inode = inode_of held o row s.moment })) × (s.moment < m)

all_kept : CheckpointLaws → (held later : Place → Option Stored) (o : ℕ) (row : Row) (m : ℕ) (kept : List Side) → AllByRecursion (IsTold held o row) kept → AllByRecursion (λ s. s.moment < m) kept → AllByRecursion (λ s. BlocksStay held later o s.place) kept
    → AllByRecursion (IsKept held later o row m) kept
all_kept laws held later o row m [] told earlier stay = tt
all_kept laws held later o row m (s ∷ kept) told earlier stay = ((laws.told held later o s.place stay.0 ∙ told.0, earlier.0), all_kept laws held later o row m kept told.1 earlier.1 stay.1)

-- What became of all: those that are kept tell what they told, and no block of another but the new one is held.
pub record Keeps (held later : Place → Option Stored) (o : ℕ) (row : Row) (p : Place) (m : ℕ) (kept : List Side) : Type 0 where
  pub sides : AllByRecursion (IsKept held later o row m) kept
  pub ascending : SidesAscend kept
  pub only : (q : Place) → IsSome (of_checkpoints o later q) → is_one_of (checkpoint_places later o p ++ side_places (of_checkpoints o later) kept) q ≡ true

-- a block of those that a row names, but of the one that goes, is of one that is kept
among_kept : (held : Place → Option Stored) (o : ℕ) (row : Row) (m : ℕ) (gone : Option Side) (kept : List Side) → Parted held o row m gone kept → IsRow held o row → (q : Place) → IsSome (of_checkpoints o held q)
    → is_one_of (places_named (of_checkpoints o held) (place_of gone)) q ≡ false → is_one_of (side_places (of_checkpoints o held) kept) q ≡ true
among_kept held o row m gone kept parts r q there beside =
    let view = of_checkpoints o held in
    let named : is_one_of (side_places view (sides_named row)) q ≡ true = named_all view row.sides row.checkpoint row.checkpoint_moment q (r.only q there) in
    let split : (is_one_of (side_places view (option_to_list gone)) q || is_one_of (side_places view kept) q) ≡ true =
    sym (side_append view (option_to_list gone) kept q) ∙ ap (λ (sides : List Side). is_one_of (side_places view sides) q) parts.all ∙ named in
    elim (or_cases (is_one_of (side_places view (option_to_list gone)) q) (is_one_of (side_places view kept) q) split) [
      | inl old ↦ absurd (false≢true (sym beside ∙ sym (of_one view gone q) ∙ old))
      | inr here ↦ here
    ]

pub keeps : OneMoment → (log between after : Place → Option Stored) (o : ℕ) (row : Row) (p : Place) (m : ℕ) (gone : Option Side) (kept : List Side) → IsRow log o row → Parted log o row m gone kept
    → Put log between between o p (place_of gone) → DropsCheckpoint between o (place_of gone) after → Keeps log after o row p m kept
keeps law log between after o row p m gone kept r parts put d =
    let stay = all_stay law log between after o row p gone put d parts.goes kept parts.told parts.behind in
    let places : side_places (of_checkpoints o after) kept ≡ side_places (of_checkpoints o log) kept = same_places put.laws log after o kept stay in
    record {
      sides = all_kept put.laws log after o row m kept parts.told parts.earlier stay;
      ascending = parts.ascending;
      only = λ q there. one_append (checkpoint_places after o p) (side_places (of_checkpoints o after) kept) q ∙ elim (cases_Bool (is_one_of (checkpoint_places after o p) q)) [
        | inl new ↦ or_left (is_one_of (checkpoint_places after o p) q) (is_one_of (side_places (of_checkpoints o after) kept) q) new
        | inr other ↦ elim (cases_Bool (is_one_of (places_named (of_checkpoints o between) (place_of gone)) q)) [
          | inl old ↦ absurd (held_there o (after q) there (d.gone q old))
          | inr beside ↦
              let was : of_checkpoints o after q ≡ of_checkpoints o log q =
              ap (seen_of o) (d.kept q beside ∙ put.put.kept q (new_is log between between after o p (place_of gone) put d q false other)) in
              let here : is_one_of (side_places (of_checkpoints o log) kept) q ≡ true =
              among_kept log o row m gone kept parts r q (subst (λ b. IsSome b) was there) (older_is log between between o p (place_of gone) put q false beside) in
              or_right (is_one_of (checkpoint_places after o p) q) (is_one_of (side_places (of_checkpoints o after) kept) q) (ap (λ (all : List Place). is_one_of all q) places ∙ here)
        ]
      ];
    }
