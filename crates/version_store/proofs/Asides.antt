-- The names that older checkpoints give, and those of a row where a newer checkpoint is written.
use Rattle.std.proofs.Common.{◌≡◌, inl, inr, ℕ, ◌+◌, ◌-◌, ◌≤◌, ◌<◌, ◌++◌, List, [], ◌∷◌, length, Option, Some, None, IsSome, MatchOption, refl, sym, ap, subst, ◌∙◌, arith}
use Rattle.std.specs.List.{All, AllByRecursion, Contains, flat_map}
use Rattle.std.proofs.lemmas.List.{append-nil, length-append, length-drop}
use Rattle.std.proofs.lemmas.List.Concat.{flat_map-append}
use Rattle.std.proofs.lemmas.List.Elements.{All-from_get_or, Contains-append_cases, Contains-append_left, Contains-append_right}
use Rattle.s4_types.specs.Pointer.{Place}
use Rattle.s4_types.specs.declared.limits.TheConstants.{ROW_POINTERS, SIDES}
use Rattle.block_log.specs.Taken.{TakesPlaces}
use Rattle.block_log.specs.Log.{Log, Stored, of_kind}
use Rattle.block_log.specs.declared.kinds.BlockKind.TheVariants.{Data}
use Rattle.codec.specs.Checkpoint.{CheckpointFields}
use Rattle.codec.specs.Fields.{◌>>=◌}
use Rattle.codec.specs.declared.inodes.Inode.{Inode}
use Rattle.checkpoint.specs.Held.{checkpoint_blocks, checkpoint_held}
use Rattle.inode.specs.Tidiness.{PointersHeld}
use Rattle.object_map.specs.declared.map.Row.{Row}
use Rattle.object_map.specs.declared.sides.Side.{Side}
use Rattle.object_map.specs.Rows.{row_of}
use Rattle.object_map.specs.Sides.{newest_side, sides_after, sides_grown, sides_named}
use Rattle.time_read.specs.Rows.{IsRow, IsSide, entries_of, checkpoint_of, inode_of}
use Rattle.row_changes.proofs.Sides.{each_side_decodes}
use Rattle.version_store.specs.Store.{IsLed, IsStore, StoreFields, named_of, pointers_aside, pointers_kept, pointers_named, pointers_of, pointers_of_sides, sides_told, times_led}
use Rattle.version_store.specs.private.Below.{OnePlace, PlacesAddUp}
use Rattle.version_store.specs.private.Recounting.{Counts, Recounts}
use Rattle.version_store.proofs.Telling.{inode_led, led_there, moved_leads_to}
use Rattle.version_store.proofs.Named.{contained_times, named_alike, recounts_all, times_few, times_joined}
use Rattle.version_store.proofs.Recounted.{data_is_named, named_leads, names_few, pointers_few, recounted_takes, told_led}
use Rattle.version_store.proofs.CheckpointSteps.{Rewrites, rewritten_moves, some_place}

-- ---- how many names a place has

pub store_few : (s : StoreFields) → IsStore s → (p : Place) → s.log.named p ≤ ROW_POINTERS
store_few s store p = names_few s.log s.rows ROW_POINTERS store.names store.nothing (λ q row e r.
    let counted = store.counted q row e r in
    let few = times_few r (pointers_named s.log.held q row) in
    let most = pointers_few s.log.held q row s.latest (store.objects q row e) (store.few q row e) in
    omega (arith, counted, few, most))
    p

-- ---- the pointers of older checkpoints are those of inodes

-- an older checkpoint tells the inode of its moment
abbrev pub Tells : (Place → Option Stored) → ℕ → Row → Side → Type 0
Tells held o row side = checkpoint_held held o side.place ≡ Some (record { object = o; moment = side.moment; inode = inode_of held o row side.moment })

points_are : (held : Place → Option Stored) (o : ℕ) (row : Row) (sides : List Side) → AllByRecursion (Tells held o row) sides → pointers_of_sides held o sides ≡ flat_map (λ side. (inode_of held o row side.moment).pointers) sides
points_are held o row [] all = refl
points_are held o row (side ∷ sides) all =
    ap (λ (c : Option CheckpointFields). pointers_kept c ++ pointers_of_sides held o sides) all.0
    ∙ ap (λ (slots : List (Option Place)). (inode_of held o row side.moment).pointers ++ slots) (points_are held o row sides all.1)

same_points : (held later : Place → Option Stored) (o : ℕ) (row next : Row) → ((t : ℕ) → inode_of later o next t ≡ inode_of held o row t) → (sides : List Side)
    → flat_map (λ side. (inode_of later o next side.moment).pointers) sides ≡ flat_map (λ side. (inode_of held o row side.moment).pointers) sides
same_points held later o row next same [] = refl
same_points held later o row next same (side ∷ sides) =
    ap (λ (i : Inode). i.pointers ++ flat_map (λ side. (inode_of later o next side.moment).pointers) sides) (same side.moment)
    ∙ ap (λ (slots : List (Option Place)). (inode_of held o row side.moment).pointers ++ slots) (same_points held later o row next same sides)

sides_tell : (held : Place → Option Stored) (o : ℕ) (row : Row) (sides : List Side) → AllByRecursion (IsSide held o row) sides → AllByRecursion (Tells held o row) sides
sides_tell held o row [] all = tt
sides_tell held o row (side ∷ sides) all = (all.0.told, sides_tell held o row sides all.1)

front_tells : (held : Place → Option Stored) (o : ℕ) (row : Row) (sides others : List Side) → AllByRecursion (Tells held o row) (sides ++ others) → AllByRecursion (Tells held o row) sides
front_tells held o row [] others all = tt
front_tells held o row (side ∷ sides) others all = (all.0, front_tells held o row sides others all.1)

-- the pointers of the newest checkpoint, as one of the older ones
newest_points : (held : Place → Option Stored) (o moment : ℕ) (place : Option Place) → pointers_of_sides held o (newest_side place moment) ≡ pointers_kept (place >>= checkpoint_held held o)
newest_points held o moment None = refl
newest_points held o moment (Some p) = append-nil (pointers_kept (checkpoint_held held o p))

-- ---- what goes where a newer checkpoint is written

pub gone_leads : (held : Place → Option Stored) (o : ℕ) (row : Row) (gone : List Side) → IsRow held o row → gone ++ sides_after row ≡ sides_named row → (p : Place) → Contains (pointers_of_sides held o gone) (Some p) → Contains (pointers_of held o row) (Some p)
gone_leads held o row gone stands all p there =
    let more : Contains (pointers_of_sides held o (sides_named row)) (Some p) =
    subst (λ (sides : List Side). Contains (pointers_of_sides held o sides) (Some p)) all
    (subst (λ (slots : List (Option Place)). Contains slots (Some p)) (sym (flat_map-append (λ (side : Side). pointers_kept (checkpoint_held held o side.place)) gone (sides_after row)))
    (Contains-append_left (pointers_of_sides held o gone) (pointers_of_sides held o (sides_after row)) (Some p) there)) in
    let parts : Contains (pointers_of_sides held o row.sides ++ pointers_of_sides held o (newest_side row.checkpoint row.checkpoint_moment)) (Some p) =
    subst (λ (slots : List (Option Place)). Contains slots (Some p)) (flat_map-append (λ (side : Side). pointers_kept (checkpoint_held held o side.place)) row.sides (newest_side row.checkpoint row.checkpoint_moment)) more in
    elim (Contains-append_cases (pointers_of_sides held o row.sides) (pointers_of_sides held o (newest_side row.checkpoint row.checkpoint_moment)) (Some p) parts) [
      | inl aside ↦ named_leads held o row stands p (Contains-append_right (pointers_of held o row) (pointers_aside held o row) (Some p) aside)
      | inr newest ↦ Contains-append_left (pointers_kept (checkpoint_of held o row)) (sides_told (entries_of held o row)) (Some p)
          (subst (λ (slots : List (Option Place)). Contains slots (Some p)) (newest_points held o row.checkpoint_moment row.checkpoint) newest)
    ]

pub gone_led : (held : Place → Option Stored) (o : ℕ) (row : Row) (gone : List Side) → IsRow held o row → All (IsLed held o) (pointers_of held o row) → gone ++ sides_after row ≡ sides_named row → All (IsLed held o) (pointers_of_sides held o gone)
gone_led held o row gone stands led all = told_led held o (pointers_of_sides held o gone) (λ p there. led_there held o (pointers_of held o row) p led (gone_leads held o row gone stands all p there))

pub inode_pointers_led : (held : Place → Option Stored) (o : ℕ) (i : Inode) → PointersHeld held o i → All (IsLed held o) i.pointers
inode_pointers_led held o i leads = All-from_get_or (IsLed held o) i.pointers None (λ n below. inode_led held o i n leads)

-- ---- how often the next row names a place

-- What was written before the names were counted.
pub record Written (s : StoreFields) (log : Log) (o : ℕ) (row next : Row) (i : Inode) (m : ℕ) (gone : List Side) : Type 0 where
  pub store : IsStore s
  pub there : row_of s.rows o ≡ Some row
  pub writes : Rewrites s log o row next m
  pub inode : i ≡ inode_of s.log.held o row m
  pub named : log.named ≡ s.log.named
  pub all : gone ++ sides_after row ≡ sides_named row

module _ (s : StoreFields) (log : Log) (o : ℕ) (row next : Row) (i : Inode) (m : ℕ) (gone : List Side) (is : Written s log o row next i m gone) where
  stands : IsRow s.log.held o row
  stands = (is.store.objects o row is.there).stands

  next_sides : next.sides ≡ sides_after row
  next_sides = ap (λ (r : Row). r.sides) is.writes.fields

  -- the pointers of the next row's older checkpoints, with those that went, are those of the row's, with those of its newest
  asides_times : (p : Place) → times_led p (pointers_of_sides s.log.held o gone) + times_led p (pointers_aside log.held o next) ≡ times_led p (pointers_aside s.log.held o row) + times_led p (pointers_kept (checkpoint_of s.log.held o row))
  asides_times p =
      let held = s.log.held in
      let f : Side → List (Option Place) = λ side. (inode_of held o row side.moment).pointers in
      let later : pointers_aside log.held o next ≡ flat_map f next.sides =
      points_are log.held o next next.sides (sides_tell log.held o next next.sides is.writes.stands.sides) ∙ same_points held log.held o row next is.writes.inode next.sides in
      let tell : AllByRecursion (Tells held o row) (gone ++ sides_after row) = subst (AllByRecursion (Tells held o row)) (sym is.all) (each_side_decodes held o row stands) in
      let went : pointers_of_sides held o gone ≡ flat_map f gone = points_are held o row gone (front_tells held o row gone (sides_after row) tell) in
      let both : flat_map f (gone ++ sides_after row) ≡ flat_map f gone ++ flat_map f (sides_after row) = flat_map-append f gone (sides_after row) in
      let named : flat_map f (gone ++ sides_after row) ≡ pointers_of_sides held o row.sides ++ pointers_of_sides held o (newest_side row.checkpoint row.checkpoint_moment) =
      ap (flat_map f) is.all ∙ sym (points_are held o row (sides_named row) (each_side_decodes held o row stands))
      ∙ flat_map-append (λ (side : Side). pointers_kept (checkpoint_held held o side.place)) row.sides (newest_side row.checkpoint row.checkpoint_moment) in
      let a : times_led p (pointers_aside log.held o next) ≡ times_led p (flat_map f (sides_after row)) = ap (times_led p) (later ∙ ap (flat_map f) next_sides) in
      let b : times_led p (pointers_of_sides held o gone) ≡ times_led p (flat_map f gone) = ap (times_led p) went in
      let c : times_led p (flat_map f gone ++ flat_map f (sides_after row)) ≡ times_led p (pointers_of_sides held o row.sides ++ pointers_of_sides held o (newest_side row.checkpoint row.checkpoint_moment)) = ap (times_led p) (sym both ∙ named) in
      let d = times_joined p (flat_map f gone) (flat_map f (sides_after row)) in
      let e = times_joined p (pointers_of_sides held o row.sides) (pointers_of_sides held o (newest_side row.checkpoint row.checkpoint_moment)) in
      let g : times_led p (pointers_of_sides held o (newest_side row.checkpoint row.checkpoint_moment)) ≡ times_led p (pointers_kept (checkpoint_of held o row)) = ap (times_led p) (newest_points held o row.checkpoint_moment row.checkpoint) in
      omega (arith, a, b, c, d, e, g)

  -- the newest checkpoint is that of the inode
  newest_is : pointers_kept (checkpoint_of log.held o next) ≡ i.pointers
  newest_is =
      let (p, at) = some_place next.checkpoint is.writes.some in
      let told = subst (λ (c : Option Place). MatchOption c (next.checkpoint_moment ≡ 0) (λ q. checkpoint_held log.held o q ≡ Some (record { object = o; moment = next.checkpoint_moment; inode = inode_of log.held o next next.checkpoint_moment }))) at is.writes.stands.checkpoint in
      let moment : next.checkpoint_moment ≡ m = ap (λ (r : Row). r.checkpoint_moment) is.writes.fields in
      ap (λ (c : Option Place). pointers_kept (c >>= checkpoint_held log.held o)) at
      ∙ ap pointers_kept told
      ∙ ap (λ (k : Inode). k.pointers) (is.writes.inode next.checkpoint_moment ∙ ap (inode_of s.log.held o row) moment ∙ sym is.inode)

  next_times : (p : Place) → times_led p (pointers_named log.held o next) + times_led p (pointers_of_sides s.log.held o gone) ≡ times_led p i.pointers + times_led p (pointers_named s.log.held o row)
  next_times p =
      let kept : List (Option Place) = pointers_kept (checkpoint_of s.log.held o row) in
      let told : List (Option Place) = sides_told (entries_of s.log.held o row) in
      let entries = (rewritten_moves s log o row next m is.writes stands).entries in
      let whole : times_led p (pointers_named log.held o next) ≡ times_led p ((i.pointers ++ told) ++ pointers_aside log.held o next) =
      ap (λ (slots : List (Option Place)). times_led p ((slots ++ sides_told (entries_of log.held o next)) ++ pointers_aside log.held o next)) newest_is
      ∙ ap (λ es. times_led p ((i.pointers ++ sides_told es) ++ pointers_aside log.held o next)) entries in
      let a = times_joined p (i.pointers ++ told) (pointers_aside log.held o next) in
      let b = times_joined p i.pointers told in
      let c = times_joined p (kept ++ told) (pointers_aside s.log.held o row) in
      let d = times_joined p kept told in
      let e = asides_times p in
      omega (arith, whole, a, b, c, d, e)

  -- the checkpoints alone were changed, so data has the names that it had
  named_still : (q : ℕ) (p : Place) → named_of q log p ≡ named_of q s.log p
  named_still q p = named_alike q s.log log p (ap (λ (view : Place → Option (List ℕ)). view p) (is.writes.others Data q refl)) (ap (λ (named : Place → ℕ). named p) is.named)

  still_named : OnePlace → (p : Place) → IsSome (of_kind Data o log.held p) → 0 < (times_led p i.pointers + named_of o log p) - times_led p (pointers_of_sides s.log.held o gone)
  still_named one p some =
      let was : IsSome (of_kind Data o s.log.held p) = subst (λ (view : Place → Option (List ℕ)). IsSome (view p)) (is.writes.others Data o refl) some in
      let named = data_is_named one s.log o row is.store.names stands (is.store.counted o row is.there) p was in
      let leads = contained_times p (pointers_of log.held o next) (moved_leads_to s.log.held log.held o row next p (rewritten_moves s log o row next m is.writes stands) named) in
      let parts = times_joined p (pointers_of log.held o next) (pointers_aside log.held o next) in
      let times = next_times p in
      let same = named_still o p in
      let counted = is.store.counted o row is.there p in
      omega (arith, leads, parts, times, same, counted)

  pub checkpointed_held : (after : Log) → OnePlace → Recounts o log i.pointers (pointers_of_sides s.log.held o gone) after → after.held ≡ log.held
  checkpointed_held after one counts = recounts_all o log after i.pointers (pointers_of_sides s.log.held o gone) counts (still_named one)

  few_after : length (sides_after row) ≤ SIDES
  few_after = few_grown row.sides row.checkpoint row.checkpoint_moment (is.store.few o row is.there)
    where
      few_grown : (sides : List Side) (place : Option Place) (moment : ℕ) → length sides ≤ SIDES → length (sides_grown sides place moment) ≤ SIDES
      few_grown sides None moment few = few
      few_grown sides (Some p) moment few =
          let side : Side = record { moment = moment; place = p } in
          let dropped = length-drop (length sides + 1 - SIDES) (sides ++ side ∷ []) in
          let joined = length-append sides (side ∷ []) in
          omega (arith, dropped, joined)

  pub checkpointed_counts : (after : Log) → OnePlace → Recounts o log i.pointers (pointers_of_sides s.log.held o gone) after → Counts s.log after o next
  checkpointed_counts after one counts = record {
    names = counts.names;
    here = λ p.
        let now = counts.here p in
        let same = named_still o p in
        let counted = is.store.counted o row is.there p in
        let times = next_times p in
        let here : times_led p (pointers_named after.held o next) ≡ times_led p (pointers_named log.held o next) = ap (λ (view : Place → Option Stored). times_led p (pointers_named view o next)) (checkpointed_held after one counts) in
        omega (arith, now, same, counted, times, here);
    beside = λ q p beside. counts.beside q p beside ∙ named_still q p;
    few = subst (λ (sides : List Side). length sides ≤ SIDES) (sym next_sides) few_after;
  }

-- what was written is where the names were counted
pub rewrites_on : PlacesAddUp → (s : StoreFields) (log after : Log) (o : ℕ) (row next : Row) (m : ℕ) → after.held ≡ log.held → TakesPlaces 0 log after → Rewrites s log o row next m → Rewrites s after o row next m
rewrites_on add_up s log after o row next m held takes writes =
    subst (λ (view : Place → Option Stored). Rewrites s (record after { held = view }) o row next m) (sym held) (record {
      stands = writes.stands;
      by = writes.by;
      inode = writes.inode;
      orderly = writes.orderly;
      fields = writes.fields;
      moved = writes.moved;
      some = writes.some;
      others = writes.others;
      takes = subst (λ (view : Place → Option Stored). TakesPlaces (checkpoint_blocks (inode_of s.log.held o row m)) s.log (record after { held = view })) held (recounted_takes add_up (checkpoint_blocks (inode_of s.log.held o row m)) s.log log after writes.takes takes);
    })
