-- What the bytes tell that a drive is saved as: a drive that begins with it goes on where the other ended.
use Rattle.std.proofs.Common.{◌≡◌, ℕ, ◌-◌, ◌≤◌, ◌==◌, ◌&&◌, Bool, nat_le, List, [], ◌∷◌, Option, Some, refl, sym, ap, subst, ◌∙◌, inl, inr, append-nil, arith}
use Rattle.std.proofs.lemmas.Bool.{and_left, cond-true, cond-false, cases_eq, cases_lt, eq-eqb, le-leb, lt-leb, ne_eqb}
use Rattle.s4_types.specs.Pointer.{Place}
use Rattle.s4_types.specs.History.{Base}
use Rattle.s4_types.specs.declared.spans.Span.{Span}
use Rattle.s4_model.specs.Numbers.{floor_of}
use Rattle.s4_model.specs.Runs.{is_covered}
use Rattle.s4_model.specs.State.{State, state_of}
use Rattle.s4_model.specs.VersionAt.{current_of, opening_version, versions_of, version_after, version_of}
use Rattle.s4_model.specs.Visible.{spans_of}
use Rattle.s4_model.specs.Promise.{beginning, GoesOn}
use Rattle.s4_model.specs.Audit.{audit_of}
use Rattle.verifier.proofs.AuditRows.{one_audit, begun_audit}
use Rattle.block_log.specs.Log.{Stored}
use Rattle.codec.specs.declared.inodes.Inode.{Inode}
use Rattle.inode.specs.Contents.{contents_of}
use Rattle.inode.specs.Tidiness.{AgreeAt}
use Rattle.inode.specs.Laws.{OnlyItsBlocksMatter}
use Rattle.object_map.specs.declared.map.Row.{Row}
use Rattle.object_map.specs.Rows.{row_of}
use Rattle.time_read.specs.Rows.{IsRow, inode_of}
use Rattle.segment_table.specs.Table.{held_at}
use Rattle.segment_table.specs.Used.{used_at, HoldsUsedBlocks}
use Rattle.version_store.specs.Store.{IsObject, IsStore}
use Rattle.version_store.specs.Versions.{inode_by, version_by, version_in}
use Rattle.window.specs.Timeline.{CoverAlike}
use Rattle.drive.specs.Fields.{DriveFields, history_of, state_in, store_of}
use Rattle.drive.specs.Keeping.{DecodesWhereVisible}
use Rattle.image_parts.specs.Image.{Image, image_in}
use Rattle.image_objects.specs.declared.rows.ImageRow.{ImageRow}
use Rattle.image_objects.specs.Objects.{inode_used}
use Rattle.image_objects.specs.Saved.{HoldsUsed, IsSavedAsHeld, saved_row, saved_rows}
use Rattle.image_objects.proofs.SavedObject.{same_bytes}
use Rattle.verifier.specs.Grammar.{SpellsDrive}
use Rattle.verifier.specs.Saved.{IsSavedOf, SpellsSaved}
use Rattle.verifier.specs.Opened.{inode_of_rows, version_of_rows, IsToldBy, TellsBase}
use Rattle.verifier.proofs.Frames.{OneSummaryASpelling}
use Rattle.verifier.proofs.Retold.{used_same}
use Rattle.verifier.proofs.OpenedRows.{OnePointerASpelling, rows_same}
use Rattle.verifier.proofs.ListedRows.{found_here, found_behind}

-- ---- what laws of lower crates tell

abbrev pub ASavedRowTellsTheSame : Type 0
ASavedRowTellsTheSame = (used held : Place → Option Stored) (o : ℕ) (row : Row) → HoldsUsed used held → IsRow held o row → IsSavedAsHeld used held o row

abbrev pub AnImageIsRead : Type 0
AnImageIsRead = (bytes : List ℕ) (image : Image) → SpellsDrive bytes image → image_in bytes ≡ image

-- ---- one row

same_version : ASavedRowTellsTheSame → OnlyItsBlocksMatter → (used held : Place → Option Stored) (o t latest : ℕ) (row : Row) → HoldsUsed used held → IsObject held o row latest
    → version_by used (Some (inode_used used (saved_row o row) t)) ≡ version_by held (Some (inode_of held o row t))
same_version saved matter used held o t latest row holds object =
    let i : Inode = inode_of held o row t in
    let agree : AgreeAt (contents_of held) (contents_of used) i = λ k p at. same_bytes used held o p holds (object.pointers t k p at) in
    ap (λ (j : Inode). version_by used (Some j)) ((saved used held o row holds object.stands).inodes t) ∙ (matter (contents_of held) (contents_of used) i agree).0

-- ---- all rows

-- where this holds of the row that is found, the rows of the image tell the version that the drive's do
version_listed : (used held : Place → Option Stored) (o t : ℕ) (rows : List (ℕ × Row))
    → ((row : Row) → row_of rows o ≡ Some row → version_by used (Some (inode_used used (saved_row o row) t)) ≡ version_by held (Some (inode_of held o row t)))
    → version_of_rows used (saved_rows rows) o t ≡ version_by held (inode_by held o t (row_of rows o))
version_listed used held o t [] same = refl
version_listed used held o t (e ∷ rows) same =
    let here : Option Inode = Some (inode_used used (saved_row e.0 e.1) t) in
    let rest : Option Inode = inode_of_rows used (saved_rows rows) o t in
    elim (cases_eq e.0 o) [
      | inl is ↦
          let found : row_of (e ∷ rows) o ≡ Some e.1 = subst (λ (k : ℕ). row_of (e ∷ rows) k ≡ Some e.1) is (found_here rows e.0 e.1) in
          ap (version_by used) (cond-true (e.0 == o) here rest (eq-eqb e.0 o is))
          ∙ ap (λ (k : ℕ). version_by used (Some (inode_used used (saved_row k e.1) t))) is
          ∙ same e.1 found
          ∙ sym (ap (λ (r : Option Row). version_by held (inode_by held o t r)) found)
      | inr apart ↦
          let found : row_of (e ∷ rows) o ≡ row_of rows o = found_behind rows o e.0 e.1 (λ is. apart (sym is)) in
          ap (version_by used) (cond-false (e.0 == o) here rest (ne_eqb e.0 o apart))
          ∙ version_listed used held o t rows (λ row there. same row (found ∙ there))
          ∙ sym (ap (λ (r : Option Row). version_by held (inode_by held o t r)) found)
    ]

-- the version of an object by what an image tells that the drive is saved as
version_told : OneSummaryASpelling → OnePointerASpelling → ASavedRowTellsTheSame → OnlyItsBlocksMatter → (d : DriveFields) (image : Image) (base : Base) → IsStore (store_of d) → HoldsUsedBlocks d.store.table
    → IsSavedOf d image → (told : IsToldBy image base) → (o t : ℕ) → current_of (versions_of base.versions o) t ≡ version_in (store_of d) o t
version_told summary pointer same matter d image base store holds saved told o t =
    let used : Place → Option Stored = used_at d.store.table in
    let held : Place → Option Stored = held_at d.store.table in
    told.versions o t
    ∙ ap (λ (u : Place → Option Stored). version_of_rows u told.rows o t) (used_same summary image.frames told.table d.store.table told.frames saved.frames)
    ∙ ap (λ (rows : List ImageRow). version_of_rows used rows o t) (rows_same pointer image.rows told.rows (saved_rows saved.rows) told.spelled saved.spelled)
    ∙ version_listed used held o t saved.rows (λ row there. same_version same matter used held o t d.store.latest row holds (store.objects o row (sym (saved.listed o) ∙ there)))
    ∙ ap (λ (r : Option Row). version_by held (inode_by held o t r)) (saved.listed o)

-- ---- the whole

covered : (floor : ℕ) (spans others : List Span) → CoverAlike floor spans others → (list t : ℕ) → is_covered floor spans list t ≡ is_covered floor others list t
covered floor spans others alike list t =
    elim (cases_lt t floor) [
      | inl below ↦ and_left (nat_le floor t) _ (lt-leb floor t below) ∙ sym (and_left (nat_le floor t) _ (lt-leb floor t below))
      | inr from ↦ ap (λ (b : Bool). nat_le floor t && b) (alike list t from)
    ]

floor_begun : (base : Base) → base.clock - base.window ≤ base.floor → floor_of (beginning base) ≡ base.floor
floor_begun base reach = omega arith

-- up to its clock a history that has just begun has its base's versions
begun_at : (base : Base) (o t : ℕ) → t ≤ base.clock → version_of (state_of (beginning base)) o t ≡ current_of (versions_of base.versions o) t
begun_at base o t le =
    let s : State = state_of (beginning base) in
    cond-true (nat_le t base.clock) (opening_version s o t) (version_after (opening_version s o s.opened) s.changes o t) (le-leb t base.clock le)

pub goes_on : AnImageIsRead → OneSummaryASpelling → OnePointerASpelling → ASavedRowTellsTheSame → OnlyItsBlocksMatter → (d : DriveFields) (bytes : List ℕ) (base : Base)
    → IsStore (store_of d) → HoldsUsedBlocks d.store.table → DecodesWhereVisible (store_of d) (state_in d) → SpellsSaved d bytes → TellsBase bytes base → GoesOn (history_of d) (beginning base)
goes_on read summary pointer same matter d bytes base store holds decodes spells tells =
    let image : Image = spells.image in
    let saved : IsSavedOf d image = spells.saved in
    let one : tells.parts ≡ image = sym (read bytes tells.parts tells.spelled) ∙ read bytes image spells.spelled in
    let told : IsToldBy image base = subst (λ (i : Image). IsToldBy i base) one tells.told in
    let reach : image.clock - image.window ≤ image.floor = spells.spelled.parts.rules.header.window in
    let clock : base.clock ≡ (state_in d).clock = told.clock ∙ saved.clock in
    let spans : spans_of (state_of (beginning base)) ≡ image.spans = append-nil base.spans ∙ told.spans in
    record {
      clock = clock;
      window = told.window ∙ saved.window;
      floor = floor_begun base (omega (arith, told.clock, told.window, told.floor)) ∙ told.floor ∙ saved.floor;
      next = told.next ∙ saved.next;
      hidden = λ list t. ap (λ (l : List Span). is_covered (state_in d).floor l list t) spans ∙ covered (state_in d).floor image.spans (spans_of (state_in d)) saved.spans list t;
      audit = begun_audit image base spells.spelled.audit told.audit told.floor (omega (arith, reach, told.clock, told.window, told.floor)) ∙ one_audit base.audit (audit_of (state_in d)) (sym told.audit ∙ saved.audit);
      versions = λ o t visible. begun_at base o t (omega (arith, visible.reached)) ∙ version_told summary pointer same matter d image base store holds saved told o t ∙ decodes o t visible;
    }
