-- An image whose parts keep their rules and whose chains stand can be opened.
use Rattle.std.proofs.Common.{◌≡◌, ℕ, ◌+◌, ◌^◌, ◌<◌, ◌≤◌, List, length, Option, None, refl, sym, ap, subst, ◌∙◌, arith}
use Rattle.std.specs.List.{Contains, AllByRecursion}
use Rattle.s4_types.specs.Pointer.{Place}
use Rattle.s4_types.specs.declared.audit_rows.AuditRow.{AuditRow}
use Rattle.s4_model.specs.Audit.{AreAuditRows}
use Rattle.s4_types.specs.declared.spans.Span.{Span}
use Rattle.s4_types.specs.declared.limits.TheConstants.{ROW_POINTERS, RUNS_IN_A_LIST}
use Rattle.block_log.specs.Log.{Log, Stored, NamesAreOfData}
use Rattle.object_map.specs.declared.map.Row.{Row}
use Rattle.object_map.specs.Rows.{row_of}
use Rattle.segment_table.specs.Table.{Table, held_at, named_at}
use Rattle.segment_table.specs.Used.{used_at}
use Rattle.segment_table.specs.Room.{log_of}
use Rattle.version_store.specs.Store.{IsStore}
use Rattle.version_store.specs.Opening.{OpenedFields, rows_opened}
use Rattle.image_parts.specs.Image.{Image, KeepsRules, header_of}
use Rattle.image_parts.specs.Spans.{KeepSpanRules, span_count}
use Rattle.image_parts.specs.declared.headers.Header.{Header}
use Rattle.image_objects.specs.declared.rows.ImageRow.{ImageRow}
use Rattle.image_objects.specs.Naming.{HoldsWhatIsNamed, NamesAreCounted, times_told}
use Rattle.image_objects.specs.Rows.{RowsAscend, RowsStand, kept_rows}
use Rattle.image_objects.specs.Laws.{IsHeldAsUsed}
use Rattle.verifier.specs.Reading.{AreRead}
use Rattle.verifier.specs.Images.{CanBeOpened}
use Rattle.verifier.proofs.SpanOrder.{spans_ascend, spans_from_floor, spans_past, spans_given}
use Rattle.verifier.proofs.Counting.{names_counted}
use Rattle.verifier.proofs.KeptRows.{rows_ascend, rows_given, rows_listed, numbers_ascend, all_fit}

-- ---- what laws of the layers below tell

abbrev pub RowsMakeAStore : Type 0
RowsMakeAStore = (used held : Place → Option Stored) (rows : List ImageRow) (clock : ℕ) (log : Log) → RowsAscend clock 0 0 rows → RowsStand used rows clock → HoldsWhatIsNamed used held rows
    → log.held ≡ held → NamesAreOfData log → NamesAreCounted used log.named rows → log.spent + length log.ahead < 2 ^ 46 → IsStore (record { rows = kept_rows used rows; log = log; latest = clock })

abbrev pub RowsTellFew : Type 0
RowsTellFew = (used held : Place → Option Stored) (rows : List ImageRow) (clock : ℕ) (p : Place) → RowsAscend clock 0 0 rows → RowsStand used rows clock → HoldsWhatIsNamed used held rows → times_told used rows p ≤ ROW_POINTERS

abbrev pub AreHeldAsUsed : Type 0
AreHeldAsUsed = (used held : Place → Option Stored) (rows : List ImageRow) (row : ImageRow) (clock stamp : ℕ) → RowsAscend clock 0 0 rows → RowsStand used rows clock → HoldsWhatIsNamed used held rows → Contains rows row
    → IsHeldAsUsed used held row clock stamp

abbrev pub NoneAbove : Type 0
NoneAbove = (used : Place → Option Stored) (rows : List ImageRow) (next o : ℕ) → AllByRecursion (λ row. row.object < next) rows → next ≤ o → row_of (kept_rows used rows) o ≡ None

abbrev pub AreFew : Type 0
AreFew = (h : Header) (spans : List Span) (object : ℕ) → KeepSpanRules h spans → span_count object spans ≤ RUNS_IN_A_LIST

-- ----

pub can_be_opened : RowsMakeAStore → RowsTellFew → AreHeldAsUsed → NoneAbove → AreFew → (parts : Image) (t : Table) (objects : List OpenedFields) (audit : List AuditRow) → KeepsRules parts → AreRead t parts.rows parts.clock t objects
    → NamesAreOfData (log_of t) → (log_of t).spent + length (log_of t).ahead < 2 ^ 46 → AreAuditRows parts.floor parts.clock parts.next audit
    → CanBeOpened (record { clock = parts.clock; window = parts.window; floor = parts.floor; next = parts.next; table = t; objects = objects; spans = parts.spans; audit = audit })
can_be_opened store tell_few as_used above few parts t objects audit rules are names bounded kept =
    let used : Place → Option Stored = used_at t in
    let h : Header = header_of parts in
    let ascend : RowsAscend parts.clock 0 0 are.rows = rows_ascend h 0 0 parts.rows are.rows rules.rows are.spelled in
    let listed : rows_opened objects ≡ kept_rows used are.rows = rows_listed used are.rows objects are.kept in
    let counted : NamesAreCounted used (named_at t) are.rows =
    names_counted used (named_at t) are.rows are.named (λ p. tell_few used (held_at t) are.rows parts.clock p ascend are.stand are.held) in
    let S : List (ℕ × Row) → Type 0 = λ rows. IsStore (record { rows = rows; log = log_of t; latest = parts.clock }) in
    record {
      store = subst S (sym listed) (store used (held_at t) are.rows parts.clock (log_of t) ascend are.stand are.held refl names counted bounded);
      ascending = numbers_ascend used parts.clock are.rows objects ascend are.kept;
      beside = all_fit used (held_at t) parts.clock are.rows objects are.kept (λ row there. as_used used (held_at t) are.rows row parts.clock 0 ascend are.stand are.held there);
      unborn = λ o le. ap (λ (rows : List (ℕ × Row)). row_of rows o) listed ∙ above used are.rows parts.next o (rows_given h 0 0 parts.rows are.rows rules.rows are.spelled) le;
      below = rules.header.floor;
      reach = rules.header.window;
      numbered = rules.header.next;
      given_by = omega (arith, rules.header.given);
      ordered = spans_ascend h parts.spans rules.spans.each;
      from_floor = spans_from_floor h parts.spans rules.spans.each;
      past = spans_past h parts.spans rules.spans.each;
      given = spans_given h parts.spans rules.spans.each;
      few = rules.spans.few;
      few_in_each_list = λ list. few h parts.spans list rules.spans;
      audit = kept;
    }
