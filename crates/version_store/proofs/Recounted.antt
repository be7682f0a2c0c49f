-- The names that a row gives: that they stay, that each data block has one, and how many there are at most.
use Rattle.std.proofs.Common.{◌≡◌, inl, inr, ℕ, ◌+◌, ◌*◌, ◌≤◌, ◌==◌, ◌&&◌, true, List, [], ◌∷◌, ◌++◌, length, Option, Some, None, IsSome, is_some, refl, sym, ap, subst, ◌∙◌, arith}
use Rattle.std.specs.List.{All, AllByRecursion, Contains, flat_map}
use Rattle.std.proofs.lemmas.Bool.{cases_Bool, cond-true, eq-eqb, ltb-false, false≢true}
use Rattle.std.proofs.lemmas.List.{length-append, get_or_default}
use Rattle.std.proofs.lemmas.List.Elements.{All-append, All-weaker, All-contains_itself, Contains-append_cases}
use Rattle.s4_types.specs.Pointer.{Place}
use Rattle.s4_types.specs.declared.limits.TheConstants.{ROW_POINTERS, OBJECT_BLOCKS, SIDES}
use Rattle.block_log.specs.Log.{Log, Stored, of_kind, seen_as, same_kind, is_data, NamesAreOfData}
use Rattle.block_log.specs.declared.kinds.BlockKind.{BlockKind}
use Rattle.block_log.specs.declared.kinds.BlockKind.TheVariants.{Journal, Checkpoint, Data, Pointers}
use Rattle.block_log.specs.Taken.{TakesPlaces}
use Rattle.codec.specs.Checkpoint.{CheckpointFields}
use Rattle.codec.specs.Entry.{EntryFields, entry_length, entries_length}
use Rattle.codec.specs.declared.entries.Triple.{Triple}
use Rattle.checkpoint.specs.Held.{of_checkpoints, checkpoint_held, checkpoint_in}
use Rattle.journal_chain.specs.Chain.{BlockView}
use Rattle.inode.specs.Contents.{contents_of}
use Rattle.inode.specs.Tidiness.{Tidy}
use Rattle.object_map.specs.declared.map.Row.{Row}
use Rattle.object_map.specs.declared.sides.Side.{Side}
use Rattle.object_map.specs.Rows.{row_of}
use Rattle.time_read.specs.Rows.{IsRow, IsSide, entries_of, checkpoint_of, inode_of}
use Rattle.version_store.specs.Store.{DataIsNamed, HasNothing, IsLed, IsNamedBy, IsObject, named_of, pointers_aside, pointers_kept, pointers_named, pointers_of, pointers_of_sides, sides_of, sides_told, times_led}
use Rattle.version_store.specs.private.Below.{OnePlace, PlacesAddUp}
use Rattle.version_store.proofs.Telling.{inode_told, led_there, row_kept, same_pointers}
use Rattle.version_store.proofs.Named.{named_some, named_there, times_contained}

-- ---- rows that stay

pub same_aside : (held later : Place → Option Stored) (o : ℕ) (row : Row) → of_checkpoints o later ≡ of_checkpoints o held → pointers_aside later o row ≡ pointers_aside held o row
same_aside held later o row same = ap (λ (v : BlockView). flat_map (λ (side : Side). pointers_kept (checkpoint_in v side.place)) row.sides) same

-- a row names what it named while its journal and checkpoints stay
pub same_named : (held later : Place → Option Stored) (o : ℕ) (row : Row) → of_kind Journal o later ≡ of_kind Journal o held → of_checkpoints o later ≡ of_checkpoints o held → pointers_named later o row ≡ pointers_named held o row
same_named held later o row journal checkpoints =
    ap (λ (slots : List (Option Place)). slots ++ pointers_aside later o row) (same_pointers held later o row journal checkpoints)
    ∙ ap (λ (slots : List (Option Place)). pointers_of held o row ++ slots) (same_aside held later o row checkpoints)

-- so the data of an object whose names stay is named as before
pub counted_beside : (before later : Log) (q : ℕ) (row : Row) → of_kind Journal q later.held ≡ of_kind Journal q before.held → of_checkpoints q later.held ≡ of_checkpoints q before.held
    → ((p : Place) → named_of q later p ≡ named_of q before p) → IsNamedBy q before (pointers_named before.held q row) → IsNamedBy q later (pointers_named later.held q row)
counted_beside before later q row journal checkpoints same counted p =
    same p ∙ counted p ∙ ap (times_led p) (sym (same_named before.held later.held q row journal checkpoints))

-- ---- older checkpoints

-- what a pointer of an older checkpoint refers to the row refers to
side_leads : (held : Place → Option Stored) (o : ℕ) (row : Row) (sides : List Side) → AllByRecursion (IsSide held o row) sides → (p : Place) → Contains (pointers_of_sides held o sides) (Some p) → Contains (pointers_of held o row) (Some p)
side_leads held o row [] all p (n, below, at) = absurd (omega (arith, below))
side_leads held o row (side ∷ sides) all p there = elim (Contains-append_cases (pointers_kept (checkpoint_held held o side.place)) (pointers_of_sides held o sides) (Some p) there) [
  | inl here ↦
      let pointers : List (Option Place) = (inode_of held o row side.moment).pointers in
      let (n, below, at) = subst (λ (c : Option CheckpointFields). Contains (pointers_kept c) (Some p)) all.0.told here in
      inode_told held o row side.moment n p (get_or_default pointers n None (Some p) below ∙ at)
  | inr later ↦ side_leads held o row sides all.1 p later
]

pub named_leads : (held : Place → Option Stored) (o : ℕ) (row : Row) → IsRow held o row → (p : Place) → Contains (pointers_named held o row) (Some p) → Contains (pointers_of held o row) (Some p)
named_leads held o row stands p there = elim (Contains-append_cases (pointers_of held o row) (pointers_aside held o row) (Some p) there) [
  | inl here ↦ here
  | inr aside ↦ side_leads held o row row.sides stands.sides p aside
]

pub pointer_is_held : (held : Place → Option Stored) (o : ℕ) (pointers : List (Option Place)) → ((p : Place) → Contains pointers (Some p) → IsSome (of_kind Data o held p)) → (x : Option Place) → Contains pointers x → IsLed held o x
pointer_is_held held o pointers leads None there = tt
pointer_is_held held o pointers leads (Some p) there = leads p there

pub told_led : (held : Place → Option Stored) (o : ℕ) (pointers : List (Option Place)) → ((p : Place) → Contains pointers (Some p) → IsSome (of_kind Data o held p)) → All (IsLed held o) pointers
told_led held o pointers leads = All-weaker (Contains pointers) (IsLed held o) (pointer_is_held held o pointers leads) pointers (All-contains_itself pointers)

-- so they refer to data of the object
pub aside_led : (held : Place → Option Stored) (o : ℕ) (row : Row) → IsRow held o row → All (IsLed held o) (pointers_of held o row) → All (IsLed held o) (pointers_aside held o row)
aside_led held o row stands led = told_led held o (pointers_aside held o row) (λ p there. led_there held o (pointers_of held o row) p led (side_leads held o row row.sides stands.sides p there))

pub all_led : (held : Place → Option Stored) (o : ℕ) (row : Row) → IsRow held o row → All (IsLed held o) (pointers_of held o row) → All (IsLed held o) (pointers_named held o row)
all_led held o row stands led = All-append (IsLed held o) (pointers_of held o row) (pointers_aside held o row) led (aside_led held o row stands led)

-- ---- each data block has a name

pub data_is_named : OnePlace → (log : Log) (o : ℕ) (row : Row) → NamesAreOfData log → IsRow log.held o row → IsNamedBy o log (pointers_named log.held o row) → DataIsNamed log.held o row
data_is_named one log o row rule stands counted p some =
    let least = named_there o log p rule some in
    let is = counted p in
    named_leads log.held o row stands p (times_contained one p (pointers_named log.held o row) (omega (arith, least, is)))

-- ---- how many names there are

sides_length : (triples : List Triple) → length (sides_of triples) ≡ 2 * length triples
sides_length [] = refl
sides_length (t ∷ triples) = let rest = sides_length triples in omega (arith, rest)

-- the triples of entries take more bytes than they have sides
pub told_few : (entries : List EntryFields) → length (sides_told entries) ≤ entries_length entries
unfolding entries_length entry_length
told_few [] = omega arith
told_few (e ∷ entries) =
    let all : length (sides_of e.triples ++ sides_told entries) ≡ length (sides_of e.triples) + length (sides_told entries) = length-append (sides_of e.triples) (sides_told entries) in
    let here = sides_length e.triples in
    let rest = told_few entries in
    omega (arith, all, here, rest)

kept_few : (held : Place → Option Stored) (o : ℕ) (row : Row) → IsRow held o row → ((t : ℕ) → Tidy (contents_of held) (inode_of held o row t)) → length (pointers_kept (checkpoint_of held o row)) ≤ OBJECT_BLOCKS
kept_few held o row stands tidy = elim (row_kept held o row stands) [
  | inl none ↦ let is : length (pointers_kept (checkpoint_of held o row)) ≡ 0 = ap (λ (c : Option CheckpointFields). length (pointers_kept c)) none in omega (arith, is)
  | inr some ↦
      let is : length (pointers_kept (checkpoint_of held o row)) ≡ length (inode_of held o row row.checkpoint_moment).pointers = ap (λ (c : Option CheckpointFields). length (pointers_kept c)) some in
      let count = (tidy row.checkpoint_moment).count in
      omega (arith, is, count)
]

aside_few : (held : Place → Option Stored) (o : ℕ) (row : Row) (sides : List Side) → AllByRecursion (IsSide held o row) sides → ((t : ℕ) → Tidy (contents_of held) (inode_of held o row t)) → length (pointers_of_sides held o sides) ≤ OBJECT_BLOCKS * length sides
aside_few held o row [] all tidy = omega arith
aside_few held o row (side ∷ sides) all tidy =
    let both : length (pointers_kept (checkpoint_held held o side.place) ++ pointers_of_sides held o sides) ≡ length (pointers_kept (checkpoint_held held o side.place)) + length (pointers_of_sides held o sides) =
    length-append (pointers_kept (checkpoint_held held o side.place)) (pointers_of_sides held o sides) in
    let is : length (pointers_kept (checkpoint_held held o side.place)) ≡ length (inode_of held o row side.moment).pointers = ap (λ (c : Option CheckpointFields). length (pointers_kept c)) all.0.told in
    let count = (tidy side.moment).count in
    let rest = aside_few held o row sides all.1 tidy in
    omega (arith, both, is, count, rest)

-- a row has this many pointers that name data at most
pub pointers_few : (held : Place → Option Stored) (o : ℕ) (row : Row) (latest : ℕ) → IsObject held o row latest → length row.sides ≤ SIDES → length (pointers_named held o row) ≤ ROW_POINTERS
pointers_few held o row latest object few =
    let kept : List (Option Place) = pointers_kept (checkpoint_of held o row) in
    let told : List (Option Place) = sides_told (entries_of held o row) in
    let aside : List (Option Place) = pointers_aside held o row in
    let all : length ((kept ++ told) ++ aside) ≡ length (kept ++ told) + length aside = length-append (kept ++ told) aside in
    let front : length (kept ++ told) ≡ length kept + length told = length-append kept told in
    let a = kept_few held o row object.stands object.tidy in
    let b = told_few (entries_of held o row) in
    let c = object.stands.chain.limit in
    let d = aside_few held o row row.sides object.stands.sides object.tidy in
    omega (arith, all, front, a, b, c, d, few)

-- so each place has so few names
data_seen : (block : Stored) → is_data (Some block) ≡ true → IsSome (seen_as Data block.object (Some block))
data_seen block is = ap is_some (cond-true (same_kind Data block.kind && block.object == block.object) (Some block.bytes) None (of_data block.kind is))
  where
    of_data : (k : BlockKind) → same_kind k Data ≡ true → (same_kind Data k && block.object == block.object) ≡ true
    of_data Journal is = absurd (false≢true is)
    of_data Checkpoint is = absurd (false≢true is)
    of_data Pointers is = absurd (false≢true is)
    of_data Data is = same
      where
        same : (block.object == block.object) ≡ true
        same = eq-eqb block.object block.object refl

few_at : (log : Log) (rows : List (ℕ × Row)) (most : ℕ) → ((o : ℕ) → row_of rows o ≡ None → HasNothing log.held o) → ((o : ℕ) (row : Row) → row_of rows o ≡ Some row → (p : Place) → named_of o log p ≤ most)
    → (p : Place) (block : Stored) (row : Option Row) → log.held p ≡ Some block → is_data (Some block) ≡ true → row_of rows block.object ≡ row → log.named p ≤ most
few_at log rows most nothing few p block None at is none =
    absurd (false≢true (sym (ap is_some (nothing block.object none Data p)) ∙ ap (λ (there : Option Stored). is_some (seen_as Data block.object there)) at ∙ data_seen block is))
few_at log rows most nothing few p block (Some row) at is there =
    let some : is_some (of_kind Data block.object log.held p) ≡ true = ap (λ (there : Option Stored). is_some (seen_as Data block.object there)) at ∙ data_seen block is in
    let named = named_some block.object log p some in
    let le = few block.object row there p in
    omega (arith, named, le)

few_by : (log : Log) (rows : List (ℕ × Row)) (most : ℕ) → NamesAreOfData log → ((o : ℕ) → row_of rows o ≡ None → HasNothing log.held o) → ((o : ℕ) (row : Row) → row_of rows o ≡ Some row → (p : Place) → named_of o log p ≤ most)
    → (p : Place) (there : Option Stored) → log.held p ≡ there → log.named p ≤ most
few_by log rows most rule nothing few p None at =
    let none = ltb-false 0 (log.named p) (rule p ∙ ap is_data at) in
    omega (arith, none)
few_by log rows most rule nothing few p (Some block) at = elim (cases_Bool (is_data (Some block))) [
  | inl is ↦ few_at log rows most nothing few p block (row_of rows block.object) at is refl
  | inr other ↦ let none = ltb-false 0 (log.named p) (rule p ∙ ap is_data at ∙ other) in omega (arith, none)
]

pub names_few : (log : Log) (rows : List (ℕ × Row)) (most : ℕ) → NamesAreOfData log → ((o : ℕ) → row_of rows o ≡ None → HasNothing log.held o) → ((o : ℕ) (row : Row) → row_of rows o ≡ Some row → (p : Place) → named_of o log p ≤ most)
    → (p : Place) → log.named p ≤ most
names_few log rows most rule nothing few p = few_by log rows most rule nothing few p (log.held p) refl

-- ---- places

pub recounted_takes : PlacesAddUp → (n : ℕ) (before between after : Log) → TakesPlaces n before between → TakesPlaces 0 between after → TakesPlaces n before after
recounted_takes add_up n before between after first second = subst (λ k. TakesPlaces k before after) (let none : n + 0 ≡ n = omega arith in none) (add_up n 0 before between after first second)
