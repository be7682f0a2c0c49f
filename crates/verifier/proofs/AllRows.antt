-- The rows of an image that were read, one after another.
use Rattle.std.proofs.Common.{◌≡◌, ℕ, List, [], ◌∷◌, ◌++◌, Bool, true, false, MatchBool, Option, None, Some, IfSome, sym, ap, ◌∙◌, subst, append_assoc}
use Rattle.std.specs.List.{AllByRecursion}
use Rattle.std.proofs.lemmas.List.{append-nil}
use Rattle.std.proofs.lemmas.List.Elements.{All-contains, All-from_recursion, recursion_from_All, All-push}
use Rattle.std.proofs.lemmas.Grind.{flat_map-append}
use Rattle.s4_types.specs.Pointer.{Place}
use Rattle.block_log.specs.Log.{Stored, NamesAreOfData}
use Rattle.image_parts.specs.declared.rows.RowPart.{RowPart}
use Rattle.image_objects.specs.declared.rows.ImageRow.{ImageRow}
use Rattle.image_objects.specs.Chains.{entries_used}
use Rattle.image_objects.specs.Objects.{ObjectStands}
use Rattle.image_objects.specs.Naming.{HoldsWhatIsNamed}
use Rattle.image_objects.specs.Rows.{RowsStand, RowsShareNoMoment}
use Rattle.image_objects.specs.Moments.{moments_of_chain, moments_used, StandOnce}
use Rattle.segment_table.specs.Table.{Table, held_at, named_at}
use Rattle.segment_table.specs.Used.{used_at}
use Rattle.segment_table.specs.Room.{log_of}
use Rattle.version_store.specs.Opening.{OpenedFields}
use Rattle.verifier.specs.declared.objects.ReadRows.{ReadRows}
use Rattle.verifier.specs.Rows.{SpellRows}
use Rattle.verifier.specs.Reading.{IsKept, AreKept, NamesAreCapped, AreRead}
use Rattle.verifier.specs.private.Holding.{IsUsedAlike}
use Rattle.verifier.specs.private.OneRow.{IsRowRead, PartStands}
use Rattle.verifier.proofs.Holding.{alike_itself, alike_on, same_used, holds_none}
use Rattle.verifier.proofs.Counting.{names_none}
use Rattle.verifier.proofs.SpelledRows.{IsListed, listed, only_more, rows_push, no_rows}

-- ---- one row more

kept_more : (used : Place → Option Stored) (rows : List ImageRow) (objects : List OpenedFields) (row : ImageRow) (x : OpenedFields) → AreKept used rows objects → IsKept used row x → AreKept used (rows ++ row ∷ []) (objects ++ x ∷ [])
kept_more used [] [] row x front last = (last, tt)
kept_more used [] (y ∷ objects) row x front last = absurd front
kept_more used (r ∷ rows) [] row x front last = absurd front
kept_more used (r ∷ rows) (y ∷ objects) row x front last = (front.0, kept_more used rows objects row x front.1 last)

objects_more : (used : Place → Option Stored) (clock : ℕ) (rows : List ImageRow) (row : ImageRow) → AllByRecursion (λ r. ObjectStands used r clock) rows → ObjectStands used row clock → AllByRecursion (λ r. ObjectStands used r clock) (rows ++ row ∷ [])
objects_more used clock rows row front last =
    let P : ImageRow → Type 0 = λ r. ObjectStands used r clock in
    recursion_from_All P (rows ++ row ∷ []) (All-push P rows row (All-from_recursion P rows front) last)

moments_more : (used : Place → Option Stored) (rows : List ImageRow) (row : ImageRow) → moments_used used (rows ++ row ∷ []) ≡ moments_used used rows ++ moments_of_chain (entries_used used row)
moments_more used rows row =
    let f : ImageRow → List ℕ = λ r. moments_of_chain (entries_used used r) in
    flat_map-append f rows (row ∷ []) ∙ ap (λ (l : List ℕ). moments_used used rows ++ l) (append-nil (f row))

-- ---- what was read

-- From this table on the rows of these parts were read.
pub record HaveRead (start : Table) (clock : ℕ) (done : List RowPart) (now : ReadRows) : Type 0 where
  pub rows : List ImageRow
  pub spelled : SpellRows done rows
  pub only : (others : List ImageRow) → SpellRows done others → others ≡ rows
  pub stand : AllByRecursion (λ row. ObjectStands (used_at start) row clock) rows
  pub kept : AreKept (used_at start) rows now.objects.items
  pub held : HoldsWhatIsNamed (used_at start) (held_at now.table) rows
  pub named : NamesAreCapped (used_at start) (named_at now.table) rows
  pub moments : now.moments.items ≡ moments_used (used_at start) rows
  pub alike : IsUsedAlike start now.table

pub none_read : (start : Table) (clock : ℕ) (now : ReadRows) → ((p : Place) → held_at start p ≡ None) → NamesAreOfData (log_of start) → now.table ≡ start → now.objects.items ≡ [] → now.moments.items ≡ [] → HaveRead start clock [] now
none_read start clock now nothing names table objects moments = record {
  rows = [];
  spelled = tt;
  only = no_rows;
  stand = tt;
  kept = subst (λ (l : List OpenedFields). AreKept (used_at start) [] l) (sym objects) tt;
  held = subst (λ (t : Table). HoldsWhatIsNamed (used_at start) (held_at t) []) (sym table) (holds_none (used_at start) (held_at start) nothing);
  named = subst (λ (t : Table). NamesAreCapped (used_at start) (named_at t) []) (sym table) (names_none (used_at start) (log_of start) nothing names);
  moments = moments;
  alike = subst (λ (t : Table). IsUsedAlike start t) (sym table) (alike_itself start);
}

pub one_read : (start : Table) (clock : ℕ) (done : List RowPart) (part : RowPart) (old new : ReadRows) → HaveRead start clock done old → IsRowRead (used_at old.table) part clock old new → HaveRead start clock (done ++ part ∷ []) new
one_read start clock done part old new h read =
    let used : Place → Option Stored = used_at start in
    let r : IsRowRead used part clock old new = subst (λ (u : Place → Option Stored). IsRowRead u part clock old new) (same_used start old.table h.alike) read in
    record {
      rows = h.rows ++ r.row ∷ [];
      spelled = rows_push done h.rows part r.row h.spelled r.spelled;
      only = only_more done part h.rows r.row h.only r.only;
      stand = objects_more used clock h.rows r.row h.stand r.stands;
      kept = subst (λ (l : List OpenedFields). AreKept used (h.rows ++ r.row ∷ []) l) (sym r.objects) (kept_more used h.rows old.objects.items r.row r.opened h.kept r.kept);
      held = r.held h.rows h.held;
      named = r.named h.rows h.named;
      moments = r.moments ∙ ap (λ (l : List ℕ). l ++ moments_of_chain (entries_used used r.row)) h.moments ∙ sym (moments_more used h.rows r.row);
      alike = alike_on start old.table new.table h.alike r.alike;
    }

-- ---- what that says of an image

-- a row that isn't there
pub one_falls : (start : Table) (clock : ℕ) (done : List RowPart) (part : RowPart) (rest all : List RowPart) (now : ReadRows) → HaveRead start clock done now → (PartStands (used_at now.table) part clock → ⊥) → all ≡ done ++ part ∷ rest
    → (rows : List ImageRow) → SpellRows all rows → RowsStand (used_at start) rows clock → ⊥
one_falls start clock done part rest all now h falls whole rows spelled stand =
    let s : IsListed part rows = listed done part rest rows (subst (λ (l : List RowPart). SpellRows l rows) whole spelled) in
    let P : ImageRow → Type 0 = λ r. ObjectStands (used_at start) r clock in
    let stands : ObjectStands (used_at start) s.0 clock = All-contains P rows s.0 (All-from_recursion P rows stand.objects) s.2 in
    falls (record { row = s.0; spelled = s.1; stands = subst (λ (u : Place → Option Stored). ObjectStands u s.0 clock) (sym (same_used start now.table h.alike)) stands })

-- all rows, where no two chains share a moment
pub all_read : (start : Table) (clock : ℕ) (all : List RowPart) (now : ReadRows) (after : Table) (objects : List OpenedFields) → HaveRead start clock all now
    → ((used : Place → Option Stored) (rows : List ImageRow) → StandOnce (moments_used used rows) → RowsShareNoMoment used rows)
    → (after ≡ now.table) × (objects ≡ now.objects.items) × StandOnce now.moments.items → AreRead start all clock after objects
all_read start clock all now after objects h apart found = record {
  rows = h.rows;
  spelled = h.spelled;
  stand = record { objects = h.stand; apart = apart (used_at start) h.rows (subst StandOnce h.moments found.2) };
  kept = subst (λ (l : List OpenedFields). AreKept (used_at start) h.rows l) (sym found.1) h.kept;
  held = subst (λ (t : Table). HoldsWhatIsNamed (used_at start) (held_at t) h.rows) (sym found.0) h.held;
  named = subst (λ (t : Table). NamesAreCapped (used_at start) (named_at t) h.rows) (sym found.0) h.named;
}

-- all rows, where two chains share one
pub moments_fall : (start : Table) (clock : ℕ) (all : List RowPart) (now : ReadRows) → HaveRead start clock all now
    → ((used : Place → Option Stored) (rows : List ImageRow) (at : ℕ) → RowsStand used rows at → StandOnce (moments_used used rows))
    → (StandOnce now.moments.items → ⊥) → (rows : List ImageRow) → SpellRows all rows → RowsStand (used_at start) rows clock → ⊥
moments_fall start clock all now h standing falls rows spelled stand =
    falls (subst StandOnce (ap (moments_used (used_at start)) (h.only rows spelled) ∙ sym h.moments) (standing (used_at start) rows clock stand))

-- ---- the loop over the rows

pub row_read : (b : Bool) (used : Place → Option Stored) (part : RowPart) (clock : ℕ) (old new : ReadRows) → b ≡ true
    → MatchBool b (IsRowRead used part clock old new) (PartStands used part clock → ⊥) → IsRowRead used part clock old new
row_read b used part clock old new is h = subst (λ x. MatchBool x (IsRowRead used part clock old new) (PartStands used part clock → ⊥)) is h

pub row_falls : (b : Bool) (used : Place → Option Stored) (part : RowPart) (clock : ℕ) (old new : ReadRows) → b ≡ false
    → MatchBool b (IsRowRead used part clock old new) (PartStands used part clock → ⊥) → PartStands used part clock → ⊥
row_falls b used part clock old new is h = subst (λ x. MatchBool x (IsRowRead used part clock old new) (PartStands used part clock → ⊥)) is h

pub one_on : (all done : List RowPart) (part : RowPart) (left rest : List RowPart) → all ≡ done ++ left → left ≡ part ∷ rest → all ≡ (done ++ part ∷ []) ++ rest
one_on all done part left rest whole is = whole ∙ ap (λ (l : List RowPart). done ++ l) is ∙ sym (append_assoc done (part ∷ []) rest)

pub have_all : (start : Table) (clock : ℕ) (all done left : List RowPart) (now : ReadRows) → HaveRead start clock done now → all ≡ done ++ left → left ≡ [] → HaveRead start clock all now
have_all start clock all done left now h whole is =
    subst (λ (l : List RowPart). HaveRead start clock l now) (sym (whole ∙ ap (λ (l : List RowPart). done ++ l) is ∙ append-nil done)) h

pub all_of : {A : Type 0} (o : Option A) (P Q R : A → Type 0) → IfSome o P → IfSome o Q → IfSome o R → IfSome o (λ x. P x × Q x × R x)
all_of None P Q R p q r = tt
all_of (Some x) P Q R p q r = (p, q, r)
