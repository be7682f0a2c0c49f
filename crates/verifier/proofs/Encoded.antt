-- What encodes a drive is read as an image: its rows name blocks of its frames, and a table holds just these.
use Rattle.std.proofs.Common.{◌≡◌, ◌==◌, ◌&&◌, ◌||◌, ℕ, zero, suc, Bool, true, false, cond, ltb, List, [], ◌∷◌, drop, length, map, get_or, Option, Some, None, refl, sym, ap, subst, ◌∙◌, inl, inr, arith}
use Rattle.std.specs.List.{Contains, list_any, slice_get}
use Rattle.std.specs.Option.{is_some, option_map, unwrap_or}
use Rattle.std.proofs.lemmas.Bool.{and_from, and_parts, and_right, cases_Bool, cond-false, cond-true, eq-eqb, eqb-true, false≢true, lt-ltb, ltb-true}
use Rattle.std.proofs.lemmas.List.Folds.{list_any_at}
use Rattle.std.proofs.lemmas.Option.{none-some, unwrap_or-slice_get}
use Rattle.s4_types.specs.Pointer.{Place}
use Rattle.block_log.specs.Log.{Stored, of_kind, same_place}
use Rattle.block_log.specs.declared.kinds.BlockKind.{BlockKind}
use Rattle.block_log.specs.declared.kinds.BlockKind.TheVariants.{Journal, Checkpoint, Data, Pointers}
use Rattle.block_log.proofs.Places.{one_place, same_place_itself}
use Rattle.checkpoint.specs.Held.{is_one_of}
use Rattle.codec.specs.Summary.{SpellsSummary}
use Rattle.codec.specs.declared.summaries.BlockRole.{BlockRole}
use Rattle.journal_chain.specs.Chain.{times, chain_places}
use Rattle.segment_word.specs.Frames.{Frame}
use Rattle.segment_word.specs.Layout.{frame_at, block_bytes}
use Rattle.segment_table.specs.declared.slots.Slot.{Slot}
use Rattle.segment_table.specs.Slots.{no_slot}
use Rattle.segment_table.specs.Table.{Table, slots_at, stored, held_block, held_at}
use Rattle.segment_table.specs.Used.{is_named, used_slot, with_bytes, used_block, used_at}
use Rattle.version_store.specs.Opening.{OpenedFields}
use Rattle.image_parts.specs.Frames.{FrameFields, blocks_of}
use Rattle.image_parts.specs.Image.{Image}
use Rattle.image_parts.specs.declared.rows.RowPart.{RowPart}
use Rattle.image_objects.specs.declared.rows.ImageRow.{ImageRow}
use Rattle.image_objects.specs.Inodes.{checkpoint_places_used}
use Rattle.image_objects.specs.Naming.{NamesUsed, IsNamedBy, HoldsWhatIsNamed}
use Rattle.image_objects.specs.Objects.{pointers_used}
use Rattle.image_objects.specs.VersionChain.{kept_row, present_used}
use Rattle.verifier.specs.Audit.{AuditStands}
use Rattle.verifier.specs.Images.{ImageFields, IsImageOf}
use Rattle.verifier.specs.Opened.{IsReadOf}
use Rattle.verifier.specs.Grammar.{SpellsDrive}
use Rattle.verifier.specs.Reading.{AreKept}
use Rattle.verifier.specs.Rows.{ChainsStand, SpellRows}
use Rattle.verifier.specs.Tables.{IsFrameOf, IsTableOf, block_in, no_part}

-- ---- whether rows name a block

-- whether a pointer refers to a place
abbrev refers : Place → Option Place → Bool
refers p None = false
refers p (Some q) = same_place q p

some_refers : (p : Place) (pointers : List (Option Place)) → list_any (refers p) pointers ≡ true → Contains pointers (Some p)
some_refers p [] h = absurd (false≢true h)
some_refers p (None ∷ pointers) h = let rest = some_refers p pointers h in let low = rest.1 in (suc rest.0, omega (arith, low), rest.2)
some_refers p (Some q ∷ pointers) h = elim (cases_Bool (same_place q p)) [
  | inl is ↦ (0, omega arith, ap Some (one_place q p is))
  | inr ne ↦ (let rest = some_refers p pointers (subst (λ (b : Bool). (b || list_any (refers p) pointers) ≡ true) ne h) in let low = rest.1 in (suc rest.0, omega (arith, low), rest.2))
]

-- whether a row names a block of this kind at a place
abbrev names : (Place → Option Stored) → ImageRow → BlockKind → Place → Bool
names used row Journal p = ltb 0 (times p (chain_places (of_kind Journal row.object used) row.object row.head))
names used row Checkpoint p = is_one_of (checkpoint_places_used used row) p && is_some (of_kind Checkpoint row.object used p)
names used row Data p = list_any (refers p) (pointers_used used row)
names used row Pointers p = is_one_of (checkpoint_places_used used row) p && is_some (of_kind Pointers row.object used p)

names_truly : (used : Place → Option Stored) (row : ImageRow) (kind : BlockKind) (p : Place) → names used row kind p ≡ true → NamesUsed used row kind p
names_truly used row Journal p h = ltb-true 0 (times p (chain_places (of_kind Journal row.object used) row.object row.head)) h
names_truly used row Checkpoint p h = and_parts (is_one_of (checkpoint_places_used used row) p) (is_some (of_kind Checkpoint row.object used p)) h
names_truly used row Data p h = some_refers p (pointers_used used row) h
names_truly used row Pointers p h = and_parts (is_one_of (checkpoint_places_used used row) p) (is_some (of_kind Pointers row.object used p)) h

named_so : (used : Place → Option Stored) (row : ImageRow) (kind : BlockKind) (p : Place) → NamesUsed used row kind p → names used row kind p ≡ true
named_so used row Journal p n = lt-ltb 0 (times p (chain_places (of_kind Journal row.object used) row.object row.head)) n
named_so used row Checkpoint p n = and_from (is_one_of (checkpoint_places_used used row) p) (is_some (of_kind Checkpoint row.object used p)) n.0 n.1
named_so used row Data p n = list_any_at (refers p) (pointers_used used row) n.0 (Some p) n.1 (ap (refers p) n.2 ∙ same_place_itself p)
named_so used row Pointers p n = and_from (is_one_of (checkpoint_places_used used row) p) (is_some (of_kind Pointers row.object used p)) n.0 n.1

-- whether a row of its object names a block as what it is
abbrev names_block : (Place → Option Stored) → Place → Stored → ImageRow → Bool
names_block used p block row = row.object == block.object && names used row block.kind p

-- whether rows name what is at a place
abbrev is_there : (Place → Option Stored) → List ImageRow → Place → Option Stored → Bool
is_there used rows p None = false
is_there used rows p (Some block) = list_any (names_block used p block) rows

row_found : (test : ImageRow → Bool) (rows : List ImageRow) → list_any test rows ≡ true → (row : ImageRow) × Contains rows row × (test row ≡ true)
row_found test [] h = absurd (false≢true h)
row_found test (row ∷ rows) h = elim (cases_Bool (test row)) [
  | inl is ↦ (row, (0, omega arith, refl), is)
  | inr ne ↦ (let rest = row_found test rows (subst (λ (b : Bool). (b || list_any test rows) ≡ true) ne h) in let low = rest.1.1 in (rest.0, (suc rest.1.0, omega (arith, low), rest.1.2), rest.2))
]

named_by : (used : Place → Option Stored) (rows : List ImageRow) (p : Place) (block : Stored) → is_there used rows p (Some block) ≡ true → IsNamedBy used rows p block
named_by used rows p block h =
    let found = row_found (names_block used p block) rows h in
    let parts = and_parts (found.0.object == block.object) (names used found.0 block.kind p) found.2 in
    record { row = found.0; listed = found.1; object = eqb-true found.0.object block.object parts.0; names = names_truly used found.0 block.kind p parts.1 }

there_by : (used : Place → Option Stored) (rows : List ImageRow) (p : Place) (block : Stored) → IsNamedBy used rows p block → is_there used rows p (Some block) ≡ true
there_by used rows p block n =
    list_any_at (names_block used p block) rows n.listed.0 n.row n.listed.1
    (ap (names_block used p block) n.listed.2 ∙ and_from (n.row.object == block.object) (names used n.row block.kind p) (eq-eqb n.row.object block.object n.object) (named_so used n.row block.kind p n.names))

-- what is held where just that is held which rows name
abbrev held_there : (Place → Option Stored) → List ImageRow → Place → Option Stored
held_there used rows p = cond (is_there used rows p (used p)) (used p) None

holds_named : (used held : Place → Option Stored) (rows : List ImageRow) → ((p : Place) → held p ≡ held_there used rows p) → HoldsWhatIsNamed used held rows
holds_named used held rows is = record {
  kept = λ p block h. elim (cases_Bool (is_there used rows p (used p))) [
    | inl there ↦ sym (is p ∙ cond-true (is_there used rows p (used p)) (used p) None there) ∙ h
    | inr none ↦ absurd (none-some block (sym (is p ∙ cond-false (is_there used rows p (used p)) (used p) None none) ∙ h))
  ];
  named = λ p block h. elim (cases_Bool (is_there used rows p (used p))) [
    | inl there ↦
        (let same : used p ≡ Some block = sym (is p ∙ cond-true (is_there used rows p (used p)) (used p) None there) ∙ h in
        named_by used rows p block (sym (ap (is_there used rows p) same) ∙ there))
    | inr none ↦ absurd (none-some block (sym (is p ∙ cond-false (is_there used rows p (used p)) (used p) None none) ∙ h))
  ];
  all = λ p block there n. is p ∙ cond-true (is_there used rows p (used p)) (used p) None (ap (is_there used rows p) there ∙ there_by used rows p block n) ∙ there;
}

-- ---- a table in which just that is held

-- a used block with one name or none
abbrev marked_slot : Bool → Slot → Slot
marked_slot mark slot = record { role = slot.role; named = cond mark 1 0 }

-- used blocks, by the number of each of those after the first
abbrev marked : (ℕ → Bool) → List Slot → List Slot
marked test [] = []
marked test (slot ∷ slots) = marked_slot (test 0) slot ∷ marked (λ n. test (suc n)) slots

abbrev all_marked : (ℕ → ℕ → Bool) → List (List Slot) → List (List Slot)
all_marked tests [] = []
all_marked tests (slots ∷ all) = marked (tests 0) slots ∷ all_marked (λ n. tests (suc n)) all

marked_get : (test : ℕ → Bool) (slots : List Slot) (i : ℕ) → slice_get (marked test slots) i ≡ option_map (marked_slot (test i)) (slice_get slots i)
marked_get test [] i = refl
marked_get test (slot ∷ slots) zero = refl
marked_get test (slot ∷ slots) (suc i) = marked_get (λ n. test (suc n)) slots i

marked_length : (test : ℕ → Bool) (slots : List Slot) → length (marked test slots) ≡ length slots
marked_length test [] = refl
marked_length test (slot ∷ slots) = ap suc (marked_length (λ n. test (suc n)) slots)

marked_roles : (test : ℕ → Bool) (slots : List Slot) → map (λ (slot : Slot). slot.role) (marked test slots) ≡ map (λ (slot : Slot). slot.role) slots
marked_roles test [] = refl
marked_roles test (slot ∷ slots) = ap (λ (roles : List BlockRole). slot.role ∷ roles) (marked_roles (λ n. test (suc n)) slots)

marked_at : (tests : ℕ → ℕ → Bool) (all : List (List Slot)) (f : ℕ) → slots_at (all_marked tests all) f ≡ marked (tests f) (slots_at all f)
marked_at tests [] f = refl
marked_at tests (slots ∷ all) zero = refl
marked_at tests (slots ∷ all) (suc f) = marked_at (λ n. tests (suc n)) all f

all_marked_length : (tests : ℕ → ℕ → Bool) (all : List (List Slot)) → length (all_marked tests all) ≡ length all
all_marked_length tests [] = refl
all_marked_length tests (slots ∷ all) = ap suc (all_marked_length (λ n. tests (suc n)) all)

same_bytes : (bytes : List ℕ) (mark : Bool) (slot : Option Slot) → option_map (with_bytes bytes) (option_map (marked_slot mark) slot) ≡ option_map (with_bytes bytes) slot
same_bytes bytes mark None = refl
same_bytes bytes mark (Some slot) = refl

marked_used : (test : ℕ → Bool) (k : Frame) (slots : List Slot) (b g : ℕ) → used_block k (marked test slots) b g ≡ used_block k slots b g
marked_used test k slots zero g = refl
marked_used test k slots (suc i) g =
    ap (λ (found : Option Stored). cond (is_named k && k.generation == g) found None)
    (ap (λ (slot : Option Slot). option_map (with_bytes (block_bytes k.contents (suc i))) slot) (marked_get test slots i) ∙ same_bytes (block_bytes k.contents (suc i)) (test i) (slice_get slots i))

-- what is held of a block by its mark
marked_held : (named : Option Stored → Bool) → named None ≡ false → (whole : Bool) (bytes : List ℕ) (slot : Option Slot) (mark : Bool) → mark ≡ named (cond whole (option_map (with_bytes bytes) slot) None)
    → stored (unwrap_or (option_map (marked_slot mark) slot) no_slot) bytes ≡ cond mark (cond whole (option_map (with_bytes bytes) slot) None) None
marked_held named none true bytes None true is = refl
marked_held named none true bytes None false is = refl
marked_held named none false bytes None true is = refl
marked_held named none false bytes None false is = refl
marked_held named none true bytes (Some slot) true is = refl
marked_held named none true bytes (Some slot) false is = refl
marked_held named none false bytes (Some slot) true is = absurd (false≢true (sym none ∙ sym is))
marked_held named none false bytes (Some slot) false is = refl

nothing_kept : (mark : Bool) → cond {A = Option Stored} mark None None ≡ None
nothing_kept true = refl
nothing_kept false = refl

-- which blocks of a table rows name
abbrev tests_of : Table → List ImageRow → ℕ → ℕ → Bool
tests_of t rows f i =
    let p : Place = record { frame = f; block = suc i; generation = (frame_at t.seat.frames f).generation } in
    is_there (used_at t) rows p (used_at t p)

-- the table with these held
abbrev table_holding : Table → List ImageRow → Table
table_holding t rows = record { seat = t.seat; slots = all_marked (tests_of t rows) t.slots }

same_used : (t : Table) (rows : List ImageRow) (p : Place) → used_at (table_holding t rows) p ≡ used_at t p
same_used t rows p =
    ap (λ (slots : List Slot). used_block (frame_at t.seat.frames p.frame) slots p.block p.generation) (marked_at (tests_of t rows) t.slots p.frame)
    ∙ marked_used (tests_of t rows p.frame) (frame_at t.seat.frames p.frame) (slots_at t.slots p.frame) p.block p.generation

-- at a place of another life of its frame nothing is used
other_life : (t : Table) (f b g : ℕ) → ((frame_at t.seat.frames f).generation == g) ≡ false → used_at t (record { frame = f; block = b; generation = g }) ≡ None
other_life t f b g ne =
    let k = frame_at t.seat.frames f in
    cond-false (is_named k && k.generation == g) (option_map (with_bytes (block_bytes k.contents b)) (used_slot (slots_at t.slots f) b)) None (and_right (is_named k) (k.generation == g) ne)

same_held : (t : Table) (rows : List ImageRow) (f b g : ℕ)
    → held_block (frame_at t.seat.frames f) (marked (tests_of t rows f) (slots_at t.slots f)) b g ≡ held_there (used_at t) rows (record { frame = f; block = b; generation = g })
same_held t rows f zero g =
    let k = frame_at t.seat.frames f in
    let p : Place = record { frame = f; block = 0; generation = g } in
    let nothing : used_at t p ≡ None = nothing_kept (is_named k && k.generation == g) in
    nothing_kept (k.generation == g) ∙ sym (ap (λ (found : Option Stored). cond (is_there (used_at t) rows p found) found None) nothing)
same_held t rows f (suc i) g =
    let k = frame_at t.seat.frames f in
    let p : Place = record { frame = f; block = suc i; generation = g } in
    let slots = slots_at t.slots f in
    let test = tests_of t rows f in
    let bytes = block_bytes k.contents (suc i) in
    let here : Option Stored = stored (get_or (marked test slots) i no_slot) bytes in
    elim (cases_Bool (k.generation == g)) [
      | inl is ↦
          (let same : test i ≡ is_there (used_at t) rows p (used_at t p) =
          ap (λ n. is_there (used_at t) rows (record { frame = f; block = suc i; generation = n }) (used_at t (record { frame = f; block = suc i; generation = n }))) (eqb-true k.generation g is) in
          let found : get_or (marked test slots) i no_slot ≡ unwrap_or (option_map (marked_slot (test i)) (slice_get slots i)) no_slot =
          sym (unwrap_or-slice_get (marked test slots) i no_slot) ∙ ap (λ (slot : Option Slot). unwrap_or slot no_slot) (marked_get test slots i) in
          cond-true (k.generation == g) here None is
          ∙ ap (λ (slot : Slot). stored slot bytes) found
          ∙ marked_held (is_there (used_at t) rows p) refl (is_named k && k.generation == g) bytes (slice_get slots i) (test i) same
          ∙ ap (λ (mark : Bool). cond mark (used_at t p) None) same)
      | inr ne ↦
          cond-false (k.generation == g) here None ne
          ∙ sym (ap (λ (found : Option Stored). cond (is_there (used_at t) rows p found) found None) (other_life t f (suc i) g ne))
    ]

held_so : (t : Table) (rows : List ImageRow) (p : Place) → held_at (table_holding t rows) p ≡ held_there (used_at t) rows p
held_so t rows p =
    ap (λ (slots : List Slot). held_block (frame_at t.seat.frames p.frame) slots p.block p.generation) (marked_at (tests_of t rows) t.slots p.frame)
    ∙ same_held t rows p.frame p.block p.generation

frame_holding : (n : ℕ) (f : FrameFields) (k : Frame) (test : ℕ → Bool) (slots : List Slot) → IsFrameOf n f k slots → IsFrameOf n f k (marked test slots)
frame_holding n f k test slots is = record {
  phase = is.phase;
  generation = is.generation;
  free = λ e. ap (marked test) (is.free e);
  summary = λ ne. subst (λ (roles : List BlockRole). SpellsSummary (drop 1 (blocks_of f.contents)) (block_in f 0) (record { frame = n; generation = k.generation; roles = roles })) (sym (marked_roles test slots)) (is.summary ne);
  blocks = λ ne b low high. is.blocks ne b low (let same = marked_length test slots in omega (arith, same, high));
}

table_is : (frames : List FrameFields) (t : Table) (rows : List ImageRow) → IsTableOf frames t → IsTableOf frames (table_holding t rows)
table_is frames t rows is = record {
  frame_count = is.frame_count;
  slot_count = all_marked_length (tests_of t rows) t.slots ∙ is.slot_count;
  each = λ n inside. subst (λ (slots : List Slot). IsFrameOf n (get_or frames n no_part) (frame_at t.seat.frames n) slots) (sym (marked_at (tests_of t rows) t.slots n))
      (frame_holding n (get_or frames n no_part) (frame_at t.seat.frames n) (tests_of t rows n) (slots_at t.slots n) (is.each n inside));
}

-- ---- the objects, and all of it

abbrev kept_objects : (Place → Option Stored) → List ImageRow → List OpenedFields
kept_objects used [] = []
kept_objects used (row ∷ rows) = record { object = row.object; row = kept_row used row 0; inode = present_used used row; index = None } ∷ kept_objects used rows

objects_kept : (used : Place → Option Stored) (rows : List ImageRow) → AreKept used rows (kept_objects used rows)
objects_kept used [] = tt
objects_kept used (row ∷ rows) = (record { object = refl; row = refl; inode = refl; entries = tt }, objects_kept used rows)

-- the parts of an image whose chains and audit keep the rules are those of one that is read
image_of_parts : (parts : Image) → ChainsStand parts → AuditStands parts → (image : ImageFields) × IsImageOf parts image
image_of_parts parts stand audited =
    let t : Table = table_holding stand.table stand.rows in
    let used : Place → Option Stored = used_at stand.table in
    let alike : used ≡ used_at t = λ i p. sym (same_used stand.table stand.rows p) i in (
      record { clock = parts.clock; window = parts.window; floor = parts.floor; next = parts.next; table = t; objects = kept_objects (used_at t) stand.rows; spans = parts.spans; audit = audited.rows },
      record {
        clock = refl;
        window = refl;
        floor = refl;
        next = refl;
        spans = refl;
        audit = audited.spelled;
        frames = table_is parts.frames stand.table stand.rows stand.frames;
        rows = stand.rows;
        spelled = stand.spelled;
        objects = objects_kept (used_at t) stand.rows;
        held = subst (λ (u : Place → Option Stored). HoldsWhatIsNamed u (held_at t) stand.rows) alike (holds_named used (held_at t) stand.rows (held_so stand.table stand.rows));
      },
    )

-- an image has as many objects as rows
objects_counted : (used : Place → Option Stored) (rows : List ImageRow) (objects : List OpenedFields) → AreKept used rows objects → length objects ≡ length rows
objects_counted used [] [] kept = refl
objects_counted used [] (x ∷ objects) kept = absurd kept
objects_counted used (row ∷ rows) [] kept = absurd kept
objects_counted used (row ∷ rows) (x ∷ objects) kept = ap suc (objects_counted used rows objects kept.1)

rows_are : (parts : List RowPart) (rows : List ImageRow) → SpellRows parts rows → length rows ≡ length parts
rows_are [] [] spelled = refl
rows_are [] (row ∷ rows) spelled = absurd spelled
rows_are (part ∷ parts) [] spelled = absurd spelled
rows_are (part ∷ parts) (row ∷ rows) spelled = ap suc (rows_are parts rows spelled.1)

pub as_many_objects : (parts : Image) (image : ImageFields) → IsImageOf parts image → length image.objects ≡ length parts.rows
as_many_objects parts image is = objects_counted (used_at image.table) is.rows image.objects is.objects ∙ rows_are parts.rows is.rows is.spelled

-- bytes that encode a drive are read as an image
pub image_read : (bytes : List ℕ) (parts : Image) → SpellsDrive bytes parts → (image : ImageFields) × IsReadOf bytes image
image_read bytes parts spelled =
    let found = image_of_parts parts spelled.chains spelled.audit in
    (found.0, record { parts = parts; spelled = spelled; told = found.1 })
