-- What a drive that was opened from an image is saved as.
use Rattle.std.proofs.Common.{◌≡◌, ℕ, ◌-◌, ◌≤◌, List, length, map, Option, refl, sym, ap, subst, ◌∙◌, arith}
use Rattle.std.specs.List.{list_any}
use Rattle.s4_types.specs.Pointer.{Place}
use Rattle.s4_model.specs.State.{State, state_of}
use Rattle.s4_types.specs.declared.audit_rows.AuditRow.{AuditRow}
use Rattle.s4_model.specs.Audit.{audit_of}
use Rattle.s4_model.specs.Visible.{spans_of}
use Rattle.block_log.specs.Log.{Stored}
use Rattle.object_map.specs.declared.map.Row.{Row}
use Rattle.segment_word.specs.AcceptViews.{Ledger}
use Rattle.segment_table.specs.declared.slots.Slot.{Slot}
use Rattle.segment_table.specs.Table.{Table, slots_at}
use Rattle.segment_table.specs.Used.{used_at}
use Rattle.segment_table.specs.Room.{log_of}
use Rattle.version_store.specs.Store.{StoreOf, StoreFields, fields_of}
use Rattle.window.specs.Runs.{covers}
use Rattle.window.specs.Timeline.{Timeline}
use Rattle.drive.specs.Fields.{DriveFields, state_in}
use Rattle.drive.specs.Opened.{OpenedFields, base_of, opened_history}
use Rattle.image_parts.specs.Image.{Image, header_of}
use Rattle.image_parts.specs.Frames.{FrameFields}
use Rattle.image_objects.specs.declared.rows.ImageRow.{ImageRow}
use Rattle.image_objects.specs.Rows.{RowsAscend, kept_rows}
use Rattle.image_objects.specs.Saved.{ObjectsAscend, saved_rows}
use Rattle.drive.proofs.Opening.{opened_spans}
use Rattle.verifier.specs.Tables.{IsTableOf}
use Rattle.verifier.specs.Rows.{SpellRows}
use Rattle.verifier.specs.Audit.{audit_part}
use Rattle.verifier.proofs.AuditRows.{begun_audit}
use Rattle.verifier.specs.Grammar.{SpellsDrive}
use Rattle.verifier.specs.Images.{ImageFields, IsImageOf}
use Rattle.verifier.specs.Saved.{SpellsSaved}
use Rattle.verifier.specs.Opened.{IsOpenedOf, IsNamedOf}
use Rattle.verifier.proofs.Retold.{table_held}
use Rattle.verifier.proofs.KeptRows.{rows_ascend, rows_listed}
use Rattle.verifier.proofs.OpenedRows.{rows_back, kept_ascend}

-- a history that is just a base has its floor and its spans, where the floor is as high as the window reaches
floor_begun : (s : StoreFields) (w : Timeline) (next : ℕ) (audit : List AuditRow) → w.clock - w.window ≤ w.floor → (state_of (opened_history s w next audit)).floor ≡ w.floor
floor_begun s w next audit reach = omega arith

-- the frames of an image are those of each table that has the same frames and slots
table_same : (frames : List FrameFields) (t u : Table) → IsTableOf frames t → u.seat.frames ≡ t.seat.frames → u.slots ≡ t.slots → IsTableOf frames u
table_same frames t u is same slots =
    table_held frames t u is same (ap length slots ∙ is.slot_count ∙ sym (ap length same ∙ is.frame_count))
    (λ f. ap (λ (l : List (List Slot)). map (λ (slot : Slot). slot.role) (slots_at l f)) slots)

pub spells_named : (bytes : List ℕ) (parts : Image) (image : ImageFields) (x : OpenedFields) (d : DriveFields) → SpellsDrive bytes parts → IsImageOf parts image → IsOpenedOf image x → IsNamedOf x d → SpellsSaved d bytes
spells_named bytes parts image x d spells is opened named =
    let used : Place → Option Stored = used_at image.table in
    let w : Timeline = x.timeline in
    let begun : State = state_of (opened_history (fields_of log_of x.store) w x.next x.audit) in
    let state : state_in d ≡ begun = ap (λ (l : Ledger). state_of l.history) named.ledger in
    let reach : parts.clock - parts.window ≤ parts.floor = spells.parts.rules.header.window in
    let clock : w.clock ≡ parts.clock = opened.clock ∙ is.clock in
    let window : w.window ≡ parts.window = opened.window ∙ is.window in
    let floor : w.floor ≡ parts.floor = opened.floor ∙ is.floor in
    let spans : spans_of (state_in d) ≡ parts.spans = ap spans_of state ∙ opened_spans (fields_of log_of x.store) w x.next x.audit ∙ opened.spans ∙ is.spans in
    let told : parts.audit ≡ map audit_part x.audit = is.audit ∙ ap (map audit_part) (sym opened.audit) in
    let rows : d.store.rows ≡ kept_rows used is.rows = ap (λ (s : StoreOf Table). s.rows) named.store ∙ opened.rows ∙ rows_listed used is.rows image.objects is.objects in
    let ascend : RowsAscend parts.clock 0 0 is.rows = rows_ascend (header_of parts) 0 0 parts.rows is.rows spells.parts.rules.rows is.spelled in
    record {
      image = parts;
      spelled = spells;
      saved = record {
        clock = sym (ap (λ (s : State). s.clock) state ∙ clock);
        window = sym (ap (λ (s : State). s.window) state ∙ window);
        floor = sym (ap (λ (s : State). s.floor) state ∙ floor_begun (fields_of log_of x.store) w x.next x.audit (omega arith) ∙ floor);
        next = sym (ap (λ (s : State). s.next) state ∙ opened.next ∙ is.next);
        frames = table_same parts.frames image.table d.store.table is.frames
            (ap (λ (s : StoreOf Table). s.table.seat.frames) named.store ∙ opened.frames) (ap (λ (s : StoreOf Table). s.table.slots) named.store ∙ opened.slots);
        rows = d.store.rows;
        ascending = subst (λ (l : List (ℕ × Row)). ObjectsAscend 1 l) (sym rows) (kept_ascend used parts.clock 0 0 is.rows ascend);
        listed = λ o. refl;
        spelled = subst (λ (l : List (ℕ × Row)). SpellRows parts.rows (saved_rows l)) (sym rows)
            (subst (λ (l : List ImageRow). SpellRows parts.rows l) (sym (rows_back used is.rows)) is.spelled);
        spans = λ list t from. ap (list_any (covers list t)) (sym spans);
        audit = told ∙ ap (map audit_part) (sym (ap audit_of state ∙ begun_audit parts (base_of (fields_of log_of x.store) w x.next x.audit) spells.audit told floor (omega arith)));
      };
    }
