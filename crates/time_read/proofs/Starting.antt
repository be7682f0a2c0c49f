-- The nearest checkpoint: which one it is, how far it is, and which inode it has.
use Rattle.std.proofs.Common.{◌≡◌, inl, inr, ltb, ℕ, ◌<◌, ◌≤◌, true, List, [], ◌∷◌, ◌++◌, length, map, min, Option, Some, None, IsSome, IfSome, refl, sym, ap, subst, ◌∙◌, arith}
use Rattle.std.specs.List.{AllByRecursion}
use Rattle.std.proofs.lemmas.Bool.{cases_Bool, cond-true, cond-false, ltb-true, ltb-false}
use Rattle.s4_types.specs.Pointer.{Place}
use Rattle.s4_types.specs.declared.limits.TheConstants.{CHAIN_ENTRIES, CHAIN_ENTRY_BYTES}
use Rattle.block_log.specs.Log.{Stored}
use Rattle.codec.specs.Fields.{◌>>=◌}
use Rattle.codec.specs.declared.inodes.Inode.{Inode}
use Rattle.codec.specs.Entry.{EntryFields, entries_length}
use Rattle.codec.specs.Checkpoint.{CheckpointFields}
use Rattle.undo_redo.specs.Runs.{Run, blank, entries_by, entries_past, moments_ascend_from}
use Rattle.undo_redo.specs.Groups.{grouped}
use Rattle.checkpoint.specs.Held.{checkpoint_held}
use Rattle.object_map.specs.declared.map.Row.{Row}
use Rattle.object_map.specs.declared.sides.Side.{Side}
use Rattle.time_read.specs.declared.starts.Start.{Start}
use Rattle.time_read.specs.Orderly.{inode_behind}
use Rattle.time_read.specs.Rows.{entries_of, first_of, inode_before, inode_of, IsRow, IsSide}
use Rattle.time_read.specs.Starts.{apart, place_of, moments_named, starts_of, least_with, least_over, least_distance}
use Rattle.time_read.specs.private.Nearest.{start_at, nearer, nearest_with, IsNamed, IsStart}
use Rattle.time_read.proofs.Leading.{few_by}
use Rattle.time_read.proofs.Ordering.{is_behind}
use Rattle.time_read.proofs.Reading.{is_checkpoint, read_is}

-- ---- the nearest

-- one more after the others is looked at first
pub push_nearest : (entries : List EntryFields) (to : ℕ) (best : Start) (sides : List Side) (side : Side) → nearest_with entries to best (sides ++ side ∷ []) ≡ nearest_with entries to (nearer to best (start_at entries side)) sides
push_nearest entries to best [] side = refl
push_nearest entries to best (s ∷ sides) side = ap (λ (b : Start). nearer to b (start_at entries s)) (push_nearest entries to best sides side)

-- what holds of two starts holds of the nearer
one_of : (P : Start → Type 0) (to : ℕ) (best other : Start) → P best → P other → P (nearer to best other)
one_of P to best other of_best of_other = elim (cases_Bool (ltb (apart other.place to) (apart best.place to))) [
  | inl less ↦ subst P (sym (cond-true (ltb (apart other.place to) (apart best.place to)) other best less)) of_other
  | inr more ↦ subst P (sym (cond-false (ltb (apart other.place to) (apart best.place to)) other best more)) of_best
]

-- what holds of all holds of the nearest
pub holds_of_nearest : (P : Start → Type 0) (entries : List EntryFields) (to : ℕ) (best : Start) (sides : List Side) → P best → AllByRecursion (λ side. P (start_at entries side)) sides → P (nearest_with entries to best sides)
holds_of_nearest P entries to best [] of_best of_sides = of_best
holds_of_nearest P entries to best (s ∷ sides) of_best of_sides = one_of P to (nearest_with entries to best sides) (start_at entries s) (holds_of_nearest P entries to best sides of_best of_sides.1) of_sides.0

first_is_less : (m n : ℕ) → m < n → m ≡ min m n
first_is_less m n lt = omega (arith, lt)

second_is_less : (m n : ℕ) → n ≤ m → n ≡ min m n
second_is_less m n le = omega (arith, le)

-- the nearer of two is as far as the less far of them
less_far : (to : ℕ) (best other : Start) → apart (nearer to best other).place to ≡ min (apart other.place to) (apart best.place to)
less_far to best other = elim (cases_Bool (ltb (apart other.place to) (apart best.place to))) [
  | inl less ↦ ap (λ (s : Start). apart s.place to) (cond-true (ltb (apart other.place to) (apart best.place to)) other best less)
      ∙ first_is_less (apart other.place to) (apart best.place to) (ltb-true (apart other.place to) (apart best.place to) less)
  | inr more ↦ ap (λ (s : Start). apart s.place to) (cond-false (ltb (apart other.place to) (apart best.place to)) other best more)
      ∙ second_is_less (apart other.place to) (apart best.place to) (ltb-false (apart other.place to) (apart best.place to) more)
]

-- the nearest is as far as the least far of all
pub least_is : (entries : List EntryFields) (to : ℕ) (best : Start) (sides : List Side) → apart (nearest_with entries to best sides).place to ≡ least_with entries to (apart best.place to) (map (λ side. side.moment) sides)
least_is entries to best [] = refl
least_is entries to best (s ∷ sides) =
    less_far to (nearest_with entries to best sides) (start_at entries s)
    ∙ ap (λ (n : ℕ). min (apart (place_of entries s.moment) to) n) (least_is entries to best sides)

-- ---- the starts of a row

newest_of : (held : Place → Option Stored) (o : ℕ) (row : Row) (entries : List EntryFields) (p : Place) → IsRow held o row → row.checkpoint ≡ Some p → IsStart held o row entries (start_at entries (record { moment = row.checkpoint_moment; place = p }))
newest_of held o row entries p r is = record {
  named = record { told = is_checkpoint held o row p r is; by = omega arith };
  place = refl;
}

older_of : (held : Place → Option Stored) (o : ℕ) (row : Row) (entries : List EntryFields) (sides : List Side) → AllByRecursion (IsSide held o row) sides → AllByRecursion (λ side. IsStart held o row entries (start_at entries side)) sides
older_of held o row entries [] all = tt
older_of held o row entries (s ∷ sides) all =
    let older : s.moment < row.checkpoint_moment = all.0.older in
    (record { named = record { told = all.0.told; by = omega (arith, older) }; place = refl }, older_of held o row entries sides all.1)

-- the nearest of all checkpoints that a row names
abbrev pub nearest_of : List EntryFields → ℕ → Row → Place → Start
nearest_of entries to row p = nearest_with entries to (start_at entries (record { moment = row.checkpoint_moment; place = p })) row.sides

pub nearest_is : (row : Row) (entries : List EntryFields) (to : ℕ) (p : Place) (start newest : Start) (sides : List Side) → start ≡ nearest_with entries to newest sides → newest ≡ start_at entries (record { moment = row.checkpoint_moment; place = p }) → sides ≡ row.sides → start ≡ nearest_of entries to row p
nearest_is row entries to p start newest sides chosen first rest =
    chosen
    ∙ ap (λ (b : Start). nearest_with entries to b sides) first
    ∙ ap (λ (ss : List Side). nearest_with entries to (start_at entries (record { moment = row.checkpoint_moment; place = p })) ss) rest

-- it is one of the row's
pub is_start : (held : Place → Option Stored) (o : ℕ) (row : Row) (entries : List EntryFields) (to : ℕ) (p : Place) (start : Start) → IsRow held o row → row.checkpoint ≡ Some p → start ≡ nearest_of entries to row p → IsStart held o row entries start
is_start held o row entries to p start r is nearest =
    subst (IsStart held o row entries) (sym nearest)
    (holds_of_nearest (IsStart held o row entries) entries to (start_at entries (record { moment = row.checkpoint_moment; place = p })) row.sides (newest_of held o row entries p r is) (older_of held o row entries row.sides r.sides))

-- a checkpoint is there
pub named_is_told : (held : Place → Option Stored) (o : ℕ) (row : Row) (side : Side) → IsNamed held o row side → IsSome (checkpoint_held held o side.place)
named_is_told held o row side n = subst (λ (c : Option CheckpointFields). IsSome c) (sym n.told) refl

pub newest_is_told : (held : Place → Option Stored) (o : ℕ) (row : Row) (p : Place) → IsRow held o row → row.checkpoint ≡ Some p → IsSome (checkpoint_held held o p)
newest_is_told held o row p r is = subst (λ (c : Option CheckpointFields). IsSome c) (sym (is_checkpoint held o row p r is)) refl

-- what is read there is the inode of its moment
pub named_is_read : (held : Place → Option Stored) (o : ℕ) (row : Row) (side : Side) (i : Inode) → IsNamed held o row side → IfSome (checkpoint_held held o side.place) (λ c. i ≡ c.inode) → i ≡ inode_of held o row side.moment
named_is_read held o row side i n read = read_is (checkpoint_held held o side.place) (record { object = o; moment = side.moment; inode = inode_of held o row side.moment }) i n.told read

-- the inode of the newest is that of a moment that isn't before it
pub newest_is_read : (held : Place → Option Stored) (o : ℕ) (row : Row) (p : Place) (side : Side) (i : Inode) → IsRow held o row → row.checkpoint ≡ Some p → IsNamed held o row side → row.checkpoint_moment ≤ side.moment
    → IfSome (checkpoint_held held o p) (λ c. i ≡ c.inode) → i ≡ inode_of held o row side.moment
newest_is_read held o row p side i r is n past read =
    read_is (checkpoint_held held o p) (record { object = o; moment = row.checkpoint_moment; inode = inode_of held o row row.checkpoint_moment }) i (is_checkpoint held o row p r is) read
    ∙ ap (λ (t : ℕ). inode_of held o row t) (let by : side.moment ≤ row.checkpoint_moment = n.by in omega (arith, past, by))

-- there are as many entries before it at most as there are
pub start_is_inside : (held : Place → Option Stored) (o : ℕ) (row : Row) (entries : List EntryFields) (start : Start) → IsStart held o row entries start → start.place ≤ length entries
start_is_inside held o row entries start s =
    let few : place_of entries start.side.moment ≤ length entries = few_by start.side.moment entries in
    omega (arith, few, s.place)

-- how far it is
pub start_is_least : (row : Row) (entries : List EntryFields) (to : ℕ) (p : Place) (start : Start) → row.checkpoint ≡ Some p → start ≡ nearest_of entries to row p → apart start.place to ≡ least_over entries to (starts_of row)
start_is_least row entries to p start is nearest =
    ap (λ (s : Start). apart s.place to) nearest
    ∙ least_is entries to (start_at entries (record { moment = row.checkpoint_moment; place = p })) row.sides
    ∙ ap (λ (c : Option Place). least_over entries to (moments_named c row.checkpoint_moment row.sides)) (sym is)

abbrev pub Ascend : Type 0
Ascend = (entries : List EntryFields) → grouped entries ≡ true → moments_ascend_from 0 entries ≡ true

abbrev pub Parts : Type 0
Parts = (entries : List EntryFields) (low t : ℕ) → moments_ascend_from low entries ≡ true → entries ≡ entries_by t entries ++ entries_past t entries

-- the inode that is current at a moment is at the moment's place
pub stands_at : Ascend → Parts → (held : Place → Option Stored) (o : ℕ) (row : Row) (entries : List EntryFields) (t : ℕ) → IsRow held o row → entries ≡ entries_of held o row → inode_of held o row t ≡ inode_behind (first_of held o row) entries (place_of entries t)
stands_at ascend parts held o row entries t r is =
    is_behind ascend parts held o row t r
    ∙ ap (λ (es : List EntryFields). inode_behind (first_of held o row) es (place_of es t)) (sym is)

-- so does the inode of a start at its place
pub start_stands : Ascend → Parts → (held : Place → Option Stored) (o : ℕ) (row : Row) (entries : List EntryFields) (start : Start) (i : Inode) → IsRow held o row → entries ≡ entries_of held o row → IsStart held o row entries start
    → i ≡ inode_of held o row start.side.moment → i ≡ inode_behind (first_of held o row) entries start.place
start_stands ascend parts held o row entries start i r is s read =
    read
    ∙ stands_at ascend parts held o row entries start.side.moment r is
    ∙ ap (λ (n : ℕ). inode_behind (first_of held o row) entries n) (sym s.place)

-- ---- without a checkpoint

pub blank_stands : (held : Place → Option Stored) (o : ℕ) (row : Row) (entries : List EntryFields) → row.checkpoint ≡ None → blank row.created ≡ inode_behind (first_of held o row) entries 0
unfolding inode_before
blank_stands held o row entries is = sym (ap (λ (c : Option Place). inode_before row.created row.checkpoint_moment (entries_of held o row) (c >>= checkpoint_held held o)) is)

pub blank_is_least : (row : Row) (entries : List EntryFields) (to : ℕ) → row.checkpoint ≡ None → apart 0 to ≡ least_over entries to (starts_of row)
blank_is_least row entries to is = ap (λ (c : Option Place). least_over entries to (moments_named c row.checkpoint_moment row.sides)) (sym is)

-- ---- the inode at a moment

-- what is led to from a start is the inode at the moment
pub led_there : Ascend → Parts → (held : Place → Option Stored) (o : ℕ) (row : Row) (entries : List EntryFields) (at to from : ℕ) (old new : Inode) → IsRow held o row → entries ≡ entries_of held o row → to ≡ place_of entries at
    → old ≡ inode_behind (first_of held o row) entries from
    → ((first last : Inode) → Run first entries last → old ≡ inode_behind first entries from → new ≡ inode_behind first entries to)
    → new ≡ inode_of held o row at
led_there ascend parts held o row entries at to from old new r is place stands lead =
    lead (first_of held o row) r.last (subst (λ (es : List EntryFields). Run (first_of held o row) es r.last) (sym is) r.run) stands
    ∙ ap (λ (n : ℕ). inode_behind (first_of held o row) entries n) place
    ∙ sym (stands_at ascend parts held o row entries at r is)

pub counted_is : (held : Place → Option Stored) (o : ℕ) (row : Row) (entries : List EntryFields) (at to n : ℕ) → entries ≡ entries_of held o row → to ≡ place_of entries at → n ≡ least_over entries to (starts_of row) → n ≡ least_distance held o row at
counted_is held o row entries at to n is place count =
    count
    ∙ ap (λ (k : ℕ). least_over entries k (starts_of row)) place
    ∙ ap (λ (es : List EntryFields). least_over es (place_of es at) (starts_of row)) is

-- a row's entries are few
pub few_entries : (held : Place → Option Stored) (o : ℕ) (row : Row) (entries : List EntryFields) → IsRow held o row → entries ≡ entries_of held o row
    → ((es : List EntryFields) → entries_length es ≤ CHAIN_ENTRY_BYTES → length es ≤ CHAIN_ENTRIES) → length entries ≤ CHAIN_ENTRIES
few_entries held o row entries r is short = subst (λ (es : List EntryFields). length es ≤ CHAIN_ENTRIES) (sym is) (short (entries_of held o row) r.chain.limit)
