-- Tables of the same frames of an image: what their places name is the same.
use Rattle.std.proofs.Common.{◌≡◌, ◌≢◌, ℕ, zero, suc, ◌<◌, ◌≤◌, ◌==◌, ◌||◌, ◌&&◌, if◌then◌else◌, List, [], ◌∷◌, length, map, get_or, drop, Option, Some, None, refl, sym, ap, subst, ◌∙◌, inl, inr, arith}
use Rattle.std.specs.Prelude.{option_map, slice_get}
use std.Path.{fun_ext}
use Rattle.std.proofs.lemmas.Bool.{cases_lt}
use Rattle.std.proofs.lemmas.List.{get_or_past, length-map}
use Rattle.s4_types.specs.Pointer.{Place}
use Rattle.block_log.specs.Log.{Stored}
use Rattle.codec.specs.declared.summaries.BlockRole.{BlockRole}
use Rattle.codec.specs.Summary.{SummaryFields, SpellsSummary}
use Rattle.image_parts.specs.Frames.{FrameFields, blocks_of}
use Rattle.image_parts.specs.Image.{Image}
use Rattle.image_parts.specs.declared.rows.RowPart.{RowPart}
use Rattle.segment_word.specs.Frames.{Phase, Free, Open, Sealed, Draining, Frame, no_frame, is_open, is_sealed}
use Rattle.segment_word.specs.Layout.{frame_at, block_bytes}
use Rattle.segment_table.specs.declared.slots.Slot.{Slot}
use Rattle.segment_table.specs.Table.{Table, slots_at, held_at, named_at}
use Rattle.segment_table.specs.Used.{used_slot, with_bytes, used_block, used_at}
use Rattle.segment_table.specs.Sealing.{summary_of}
use Rattle.version_store.specs.Opening.{OpenedFields}
use Rattle.image_objects.specs.declared.rows.ImageRow.{ImageRow}
use Rattle.image_objects.specs.Naming.{HoldsWhatIsNamed}
use Rattle.image_objects.specs.Rows.{RowsStand}
use Rattle.verifier.specs.Tables.{no_part, IsFrameOf, IsTableOf}
use Rattle.verifier.specs.Rows.{SpellRows, ChainsStand}
use Rattle.verifier.specs.Reading.{AreKept, NamesAreCapped, AreRead}
use Rattle.verifier.proofs.Frames.{OneSummaryASpelling}

-- ---- what a block is named for

abbrev parts_in : List Slot → List BlockRole
parts_in slots = map (λ slot. slot.role) slots

pub same_slot : (slots others : List Slot) (bytes more : List ℕ) (b : ℕ) → parts_in slots ≡ parts_in others → (b < length slots → bytes ≡ more) → option_map (with_bytes bytes) (slice_get slots b) ≡ option_map (with_bytes more) (slice_get others b)
same_slot [] [] bytes more b e h = refl
same_slot [] (y ∷ others) bytes more b e h = absurd (cc)
same_slot (x ∷ slots) [] bytes more b e h = absurd (cc)
same_slot (x ∷ slots) (y ∷ others) bytes more zero e h =
    let part : x.role ≡ y.role = cc in
    let all : bytes ≡ more = h (omega arith) in
    ap (λ (l : List ℕ). Some (with_bytes l x)) all ∙ ap (λ (q : BlockRole). Some (record { kind = q.kind; object = q.object; bytes = more })) part
same_slot (x ∷ slots) (y ∷ others) bytes more (suc b) e h =
    let rest : parts_in slots ≡ parts_in others = cc in
    same_slot slots others bytes more b rest (λ low. h (omega arith))

pub same_used_slot : (slots others : List Slot) (contents other : List ℕ) (b : ℕ) → parts_in slots ≡ parts_in others → ((n : ℕ) → 1 ≤ n → n ≤ length slots → block_bytes contents n ≡ block_bytes other n)
    → option_map (with_bytes (block_bytes contents b)) (used_slot slots b) ≡ option_map (with_bytes (block_bytes other b)) (used_slot others b)
same_used_slot slots others contents other zero e h = refl
same_used_slot slots others contents other (suc b) e h = same_slot slots others (block_bytes contents (suc b)) (block_bytes other (suc b)) b e (λ low. h (suc b) (omega arith) (omega arith))

abbrev named_by : Phase → ℕ → ℕ → Option Stored → Option Stored
named_by p n g x = if (is_open p || is_sealed p) && n == g then x else None

same_named : (p : Phase) (n g : ℕ) (x y : Option Stored) → (p ≢ Free → x ≡ y) → named_by p n g x ≡ named_by p n g y
same_named Free n g x y h = refl
same_named Open n g x y h = ap (named_by Open n g) (h (λ e. cc))
same_named Sealed n g x y h = ap (named_by Sealed n g) (h (λ e. cc))
same_named Draining n g x y h = refl

same_block : (k m : Frame) (slots others : List Slot) (b g : ℕ) → k.phase ≡ m.phase → k.generation ≡ m.generation
    → (k.phase ≢ Free → option_map (with_bytes (block_bytes k.contents b)) (used_slot slots b) ≡ option_map (with_bytes (block_bytes m.contents b)) (used_slot others b)) → used_block k slots b g ≡ used_block m others b g
same_block k m slots others b g phase generation h =
    let y : Option Stored = option_map (with_bytes (block_bytes m.contents b)) (used_slot others b) in
    same_named k.phase k.generation g (option_map (with_bytes (block_bytes k.contents b)) (used_slot slots b)) y h
    ∙ ap (λ (p : Phase). named_by p k.generation g y) phase ∙ ap (λ (n : ℕ). named_by m.phase n g y) generation

same_parts : OneSummaryASpelling → (n : ℕ) (f : FrameFields) (k m : Frame) (slots others : List Slot) → IsFrameOf n f k slots → IsFrameOf n f m others → k.phase ≢ Free → m.phase ≢ Free → parts_in slots ≡ parts_in others
same_parts one n f k m slots others a b used also = ap (λ (s : SummaryFields). s.roles) (one _ _ (summary_of n k slots) (summary_of n m others) (a.summary used) (b.summary also))

same_frame : OneSummaryASpelling → (n : ℕ) (f : FrameFields) (k m : Frame) (slots others : List Slot) (b g : ℕ) → IsFrameOf n f k slots → IsFrameOf n f m others → used_block k slots b g ≡ used_block m others b g
same_frame one n f k m slots others b g is other =
    let phase : k.phase ≡ m.phase = is.phase ∙ sym other.phase in
    same_block k m slots others b g phase (is.generation ∙ sym other.generation) (λ used.
    let also : m.phase ≢ Free = λ e. used (phase ∙ e) in
    let parts : parts_in slots ≡ parts_in others = same_parts one n f k m slots others is other used also in
    let count : length slots ≡ length others = sym (length-map slots (λ (slot : Slot). slot.role)) ∙ ap length parts ∙ length-map others (λ (slot : Slot). slot.role) in
    same_used_slot slots others k.contents m.contents b parts (λ i low high. is.blocks used i low high ∙ sym (other.blocks also i low (omega arith))))

pub no_block : (t : Table) (f b g : ℕ) → length t.seat.frames ≤ f → used_block (frame_at t.seat.frames f) (slots_at t.slots f) b g ≡ None
no_block t f b g past = ap (λ (k : Frame). used_block k (slots_at t.slots f) b g) (get_or_past t.seat.frames f no_frame past)

used_same_at : OneSummaryASpelling → (frames : List FrameFields) (t u : Table) → IsTableOf frames t → IsTableOf frames u → (p : Place) → used_at t p ≡ used_at u p
used_same_at one frames t u is other p = elim (cases_lt p.frame (length frames)) [
  | inl inside ↦ same_frame one p.frame (get_or frames p.frame no_part) (frame_at t.seat.frames p.frame) (frame_at u.seat.frames p.frame) (slots_at t.slots p.frame) (slots_at u.slots p.frame) p.block p.generation (is.each p.frame inside) (other.each p.frame inside)
  | inr past ↦ no_block t p.frame p.block p.generation (omega (arith, is.frame_count)) ∙ sym (no_block u p.frame p.block p.generation (omega (arith, other.frame_count)))
]

pub used_same : OneSummaryASpelling → (frames : List FrameFields) (t u : Table) → IsTableOf frames t → IsTableOf frames u → used_at t ≡ used_at u
used_same one frames t u is other = fun_ext (used_same_at one frames t u is other)

-- ---- a table of which more is held

none_in : (slots : List Slot) → parts_in slots ≡ [] → slots ≡ []
none_in [] e = refl
none_in (x ∷ slots) e = absurd (cc)

frame_held : (n : ℕ) (f : FrameFields) (k : Frame) (slots later : List Slot) → IsFrameOf n f k slots → parts_in later ≡ parts_in slots → IsFrameOf n f k later
frame_held n f k slots later is parts =
    let S : List BlockRole → Type 0 = λ l. SpellsSummary (drop 1 (blocks_of f.contents)) (get_or (blocks_of f.contents) 0 []) (record { frame = n; generation = k.generation; roles = l }) in
    let count : length later ≡ length slots = sym (length-map later (λ (slot : Slot). slot.role)) ∙ ap length parts ∙ length-map slots (λ (slot : Slot). slot.role) in
    record {
      phase = is.phase;
      generation = is.generation;
      free = λ e. none_in later (parts ∙ ap parts_in (is.free e));
      summary = λ used. subst S (sym parts) (is.summary used);
      blocks = λ used b low high. is.blocks used b low (omega arith);
    }

-- the same frames, for the same things, are a table of the same image
pub table_held : (frames : List FrameFields) (t u : Table) → IsTableOf frames t → u.seat.frames ≡ t.seat.frames → length u.slots ≡ length u.seat.frames
    → ((f : ℕ) → map (λ (slot : Slot). slot.role) (slots_at u.slots f) ≡ map (λ (slot : Slot). slot.role) (slots_at t.slots f)) → IsTableOf frames u
table_held frames t u is same counted parts =
    let count : length u.seat.frames ≡ length frames = ap length same ∙ is.frame_count in
    record {
      frame_count = count;
      slot_count = counted ∙ count;
      each = λ n h.
          let F : List Frame → Type 0 = λ l. IsFrameOf n (get_or frames n no_part) (frame_at l n) (slots_at u.slots n) in
          subst F (sym same) (frame_held n (get_or frames n no_part) (frame_at t.seat.frames n) (slots_at t.slots n) (slots_at u.slots n) (is.each n h) (parts n));
    }

-- ---- chains

-- where no rows that bytes encode are over one table of the frames, the chains of the image aren't
pub chains_fall : OneSummaryASpelling → (parts : Image) (t : Table) → IsTableOf parts.frames t → ((rows : List ImageRow) → SpellRows parts.rows rows → RowsStand (used_at t) rows parts.clock → ⊥) → ChainsStand parts → ⊥
chains_fall one parts t is none stand =
    let R : (Place → Option Stored) → Type 0 = λ used. RowsStand used stand.rows parts.clock in
    none stand.rows stand.spelled (subst R (used_same one parts.frames stand.table t stand.frames is) stand.stand)

-- what was read over a table was over the one of which more is held
pub read_over : (t u : Table) (parts : List RowPart) (clock : ℕ) (objects : List OpenedFields) → AreRead t parts clock u objects → ((p : Place) → used_at u p ≡ used_at t p) → AreRead u parts clock u objects
read_over t u parts clock objects are same =
    let e : used_at t ≡ used_at u = fun_ext (λ p. sym (same p)) in
    let R : (Place → Option Stored) → Type 0 = λ used. RowsStand used are.rows clock in
    let K : (Place → Option Stored) → Type 0 = λ used. AreKept used are.rows objects in
    let H : (Place → Option Stored) → Type 0 = λ used. HoldsWhatIsNamed used (held_at u) are.rows in
    let N : (Place → Option Stored) → Type 0 = λ used. NamesAreCapped used (named_at u) are.rows in
    record { rows = are.rows; spelled = are.spelled; stand = subst R e are.stand; kept = subst K e are.kept; held = subst H e are.held; named = subst N e are.named }

pub chains_stand : (parts : Image) (t : Table) (objects : List OpenedFields) → IsTableOf parts.frames t → AreRead t parts.rows parts.clock t objects → ChainsStand parts
chains_stand parts t objects is are = record { table = t; frames = is; rows = are.rows; spelled = are.spelled; stand = are.stand }
