-- The rows of an image as those of the drive that is opened from it.
use Rattle.std.proofs.Common.{◌≡◌, inl, inr, ℕ, ◌+◌, ◌==◌, List, [], ◌∷◌, Option, Some, refl, sym, ap, subst, ◌∙◌, arith}
use Rattle.std.specs.List.{Contains}
use Rattle.std.proofs.lemmas.Bool.{cases_eq, cond-true, cond-false, eq-eqb, ne_eqb}
use Rattle.s4_types.specs.Pointer.{Place}
use Rattle.block_log.specs.Log.{Stored}
use Rattle.codec.specs.Fields.{SpellsSlot}
use Rattle.codec.specs.declared.inodes.Inode.{Inode}
use Rattle.object_map.specs.declared.map.Row.{Row}
use Rattle.object_map.specs.Rows.{row_of}
use Rattle.version_store.specs.Versions.{inode_by, version_by}
use Rattle.image_parts.specs.declared.rows.RowPart.{RowPart}
use Rattle.image_objects.specs.declared.rows.ImageRow.{ImageRow}
use Rattle.image_objects.specs.VersionChain.{kept_row}
use Rattle.image_objects.specs.Objects.{inode_used}
use Rattle.image_objects.specs.Rows.{RowsAscend, kept_rows}
use Rattle.image_objects.specs.Laws.{IsHeldAsUsed}
use Rattle.image_objects.specs.Saved.{ObjectsAscend, saved_rows}
use Rattle.verifier.specs.Rows.{SpellsRow, SpellRows}
use Rattle.verifier.specs.Opened.{inode_of_rows, version_of_rows}
use Rattle.verifier.proofs.ListedRows.{found_here, found_behind}
use Rattle.verifier.proofs.KeptRows.{listed_first, listed_later}

-- ---- what bytes encode

-- what one_pointer_a_spelling tells
abbrev pub OnePointerASpelling : Type 0
OnePointerASpelling = (bytes : List ℕ) (p q : Option Place) → SpellsSlot bytes p → SpellsSlot bytes q → p ≡ q

pub one_row : OnePointerASpelling → (part : RowPart) (row other : ImageRow) → SpellsRow part row → SpellsRow part other → row ≡ other
one_row one part row other a b =
    ap (λ n. record { object = n; created = row.created; checkpoint = row.checkpoint; checkpoint_moment = row.checkpoint_moment; head = row.head }) (a.object ∙ sym b.object)
    ∙ ap (λ n. record { object = other.object; created = n; checkpoint = row.checkpoint; checkpoint_moment = row.checkpoint_moment; head = row.head }) (a.created ∙ sym b.created)
    ∙ ap (λ p. record { object = other.object; created = other.created; checkpoint = p; checkpoint_moment = row.checkpoint_moment; head = row.head }) (one _ row.checkpoint other.checkpoint a.checkpoint b.checkpoint)
    ∙ ap (λ n. record { object = other.object; created = other.created; checkpoint = other.checkpoint; checkpoint_moment = n; head = row.head }) (a.checkpoint_moment ∙ sym b.checkpoint_moment)
    ∙ ap (λ p. record { object = other.object; created = other.created; checkpoint = other.checkpoint; checkpoint_moment = other.checkpoint_moment; head = p }) (one _ row.head other.head a.head b.head)

-- the parts of rows encode one list of rows
pub rows_same : OnePointerASpelling → (parts : List RowPart) (rows others : List ImageRow) → SpellRows parts rows → SpellRows parts others → rows ≡ others
rows_same one [] [] [] a b = refl
rows_same one [] [] (y ∷ others) a b = absurd b
rows_same one [] (x ∷ rows) others a b = absurd a
rows_same one (part ∷ parts) [] others a b = absurd a
rows_same one (part ∷ parts) (x ∷ rows) [] a b = absurd b
rows_same one (part ∷ parts) (x ∷ rows) (y ∷ others) a b =
    ap (λ (r : ImageRow). r ∷ rows) (one_row one part x y a.0 b.0) ∙ ap (λ (l : List ImageRow). y ∷ l) (rows_same one parts rows others a.1 b.1)

-- ---- rows that are kept

-- they are saved as those of the image again
pub rows_back : (used : Place → Option Stored) (rows : List ImageRow) → saved_rows (kept_rows used rows) ≡ rows
rows_back used [] = refl
rows_back used (row ∷ rows) = ap (λ (l : List ImageRow). row ∷ l) (rows_back used rows)

pub kept_ascend : (used : Place → Option Stored) (clock low created : ℕ) (rows : List ImageRow) → RowsAscend clock low created rows → ObjectsAscend (low + 1) (kept_rows used rows)
kept_ascend used clock low created [] ascend = tt
kept_ascend used clock low created (row ∷ rows) ascend = (omega (arith, ascend.0), kept_ascend used clock row.object row.created rows ascend.3)

-- ---- versions

-- where each row's object is held as it is used, the rows that are kept tell over what is held what those of the image tell over what is used
pub version_kept : (used held : Place → Option Stored) (rows : List ImageRow) (clock o t : ℕ) → ((row : ImageRow) → Contains rows row → IsHeldAsUsed used held row clock 0)
    → version_by held (inode_by held o t (row_of (kept_rows used rows) o)) ≡ version_of_rows used rows o t
version_kept used held [] clock o t each = refl
version_kept used held (row ∷ rows) clock o t each =
    let here : Option Inode = Some (inode_used used row t) in
    elim (cases_eq row.object o) [
      | inl is ↦
          subst (λ (k : ℕ). version_by held (inode_by held k t (row_of (kept_rows used (row ∷ rows)) k)) ≡ version_of_rows used (row ∷ rows) k t) is
          (ap (λ (r : Option Row). version_by held (inode_by held row.object t r)) (found_here (kept_rows used rows) row.object (kept_row used row 0))
          ∙ (each row (listed_first row rows)).versions t
          ∙ sym (ap (version_by used) (cond-true (row.object == row.object) here (inode_of_rows used rows row.object t) (eq-eqb row.object row.object refl))))
      | inr apart ↦
          ap (λ (r : Option Row). version_by held (inode_by held o t r)) (found_behind (kept_rows used rows) o row.object (kept_row used row 0) (λ e. apart (sym e)))
          ∙ version_kept used held rows clock o t (λ other there. each other (listed_later row rows other there))
          ∙ sym (ap (version_by used) (cond-false (row.object == o) here (inode_of_rows used rows o t) (ne_eqb row.object o apart)))
    ]
