-- What a drive that is opened from an image begins with.
use Rattle.std.proofs.Common.{◌≡◌, ℕ, List, map, Option, sym, ap, subst, ◌∙◌}
use Rattle.s4_types.specs.Pointer.{Place}
use Rattle.block_log.specs.Log.{Log, Stored}
use Rattle.object_map.specs.declared.map.Row.{Row}
use Rattle.object_map.specs.Rows.{row_of}
use Rattle.segment_word.specs.Frames.{Frame}
use Rattle.segment_table.specs.declared.slots.Slot.{Slot}
use Rattle.segment_table.specs.Table.{Table, held_at}
use Rattle.segment_table.specs.Used.{used_at}
use Rattle.segment_table.specs.Room.{log_of}
use Rattle.version_store.specs.Store.{StoreFields, fields_of, IsStore}
use Rattle.version_store.specs.Opening.{rows_opened}
use Rattle.version_store.specs.Versions.{inode_by, version_by, version_in}
use Rattle.drive.specs.Opened.{OpenedFields, base_of, NoneFrom, ABaseTellsTheStoresVersions, ABaseListsEachObjectOnce}
use Rattle.image_parts.specs.Image.{Image, header_of}
use Rattle.image_objects.specs.declared.rows.ImageRow.{ImageRow}
use Rattle.image_objects.specs.Rows.{RowsAscend, RowsStand}
use Rattle.verifier.specs.Tables.{IsTableOf}
use Rattle.verifier.specs.Rows.{SpellRows, ChainsStand}
use Rattle.verifier.specs.Audit.{audit_part}
use Rattle.verifier.specs.Grammar.{SpellsDrive}
use Rattle.verifier.specs.Images.{ImageFields, store_in, CanBeOpened, IsImageOf}
use Rattle.verifier.specs.Opened.{version_of_rows, IsOpenedOf, IsToldBy}
use Rattle.verifier.proofs.Frames.{OneSummaryASpelling}
use Rattle.verifier.proofs.Retold.{used_same}
use Rattle.verifier.proofs.KeptRows.{rows_ascend, rows_listed}
use Rattle.verifier.proofs.Verified.{AreHeldAsUsed}
use Rattle.verifier.proofs.OpenedRows.{OnePointerASpelling, rows_same, version_kept}

-- the rows that bytes encode are over whatever table the frames tell
pub rows_stand : OneSummaryASpelling → OnePointerASpelling → (parts : Image) (t : Table) (rows : List ImageRow) → IsTableOf parts.frames t → SpellRows parts.rows rows → ChainsStand parts → RowsStand (used_at t) rows parts.clock
rows_stand summary pointer parts t rows is spelled stand =
    let U : (Place → Option Stored) → Type 0 = λ used. RowsStand used rows parts.clock in
    let R : List ImageRow → Type 0 = λ l. RowsStand (used_at stand.table) l parts.clock in
    subst U (used_same summary parts.frames stand.table t stand.frames is) (subst R (rows_same pointer parts.rows stand.rows rows stand.spelled spelled) stand.stand)

-- as a log a table is its frames and what is used and held of them
log_same : (t u : Table) → t.seat.frames ≡ u.seat.frames → t.slots ≡ u.slots → log_of t ≡ log_of u
log_same t u frames slots =
    ap (λ (l : List Frame). log_of (record { seat = record { table = t.seat.table; frames = l; releases = t.seat.releases }; slots = t.slots })) frames
    ∙ ap (λ (l : List (List Slot)). log_of (record { seat = u.seat; slots = l })) slots

store_same : (image : ImageFields) (x : OpenedFields) → IsOpenedOf image x → fields_of log_of x.store ≡ store_in image
store_same image x opened =
    ap (λ (l : List (ℕ × Row)). record { rows = l; log = log_of x.store.table; latest = x.store.latest }) opened.rows
    ∙ ap (λ (l : Log). record { rows = rows_opened image.objects; log = l; latest = x.store.latest }) (log_same x.store.table image.table opened.frames opened.slots)
    ∙ ap (λ (n : ℕ). record { rows = rows_opened image.objects; log = log_of image.table; latest = n }) opened.latest

-- the version of an object in the store that a drive has of an image
version_stored : AreHeldAsUsed → OneSummaryASpelling → OnePointerASpelling → (bytes : List ℕ) (parts : Image) (image : ImageFields) (o t : ℕ) → SpellsDrive bytes parts → (is : IsImageOf parts image)
    → version_in (store_in image) o t ≡ version_of_rows (used_at image.table) is.rows o t
version_stored as_used summary pointer bytes parts image o t spells is =
    let used : Place → Option Stored = used_at image.table in
    let held : Place → Option Stored = held_at image.table in
    let ascend : RowsAscend parts.clock 0 0 is.rows = rows_ascend (header_of parts) 0 0 parts.rows is.rows spells.parts.rules.rows is.spelled in
    let stand : RowsStand used is.rows parts.clock = rows_stand summary pointer parts image.table is.rows is.frames is.spelled spells.chains in
    ap (λ (rows : List (ℕ × Row)). version_by held (inode_by held o t (row_of rows o))) (rows_listed used is.rows image.objects is.objects)
    ∙ version_kept used held is.rows parts.clock o t (λ row there. as_used used held is.rows row parts.clock 0 ascend stand is.held there)

pub begins_as_told : ABaseTellsTheStoresVersions → ABaseListsEachObjectOnce → AreHeldAsUsed → OneSummaryASpelling → OnePointerASpelling
    → (bytes : List ℕ) (parts : Image) (image : ImageFields) (x : OpenedFields) → SpellsDrive bytes parts → IsImageOf parts image → CanBeOpened image → IsOpenedOf image x
    → IsToldBy parts (base_of (fields_of log_of x.store) x.timeline x.next x.audit)
begins_as_told tells lists as_used summary pointer bytes parts image x spells is can opened =
    let s : StoreFields = fields_of log_of x.store in
    let same : s ≡ store_in image = store_same image x opened in
    let store : IsStore s = subst IsStore (sym same) can.store in
    let none : NoneFrom x.next s = subst (λ (n : ℕ). NoneFrom n s) (sym opened.next) (subst (λ (k : StoreFields). NoneFrom image.next k) (sym same) can.unborn) in
    record {
      clock = opened.clock ∙ is.clock;
      window = opened.window ∙ is.window;
      floor = opened.floor ∙ is.floor;
      next = opened.next ∙ is.next;
      spans = opened.spans ∙ is.spans;
      audit = is.audit ∙ ap (map audit_part) (sym opened.audit);
      table = image.table;
      frames = is.frames;
      rows = is.rows;
      spelled = is.spelled;
      versions = λ o t. (tells s x.timeline x.next x.audit o t store none ∙ ap (λ (k : StoreFields). version_in k o t) same
          ∙ version_stored as_used summary pointer bytes parts image o t spells is);
      listed = lists s x.timeline x.next x.audit store;
    }
