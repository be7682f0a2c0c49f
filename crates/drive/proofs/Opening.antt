-- What a drive that is opened begins with.
use Rattle.std.proofs.Common.{◌≡◌, ◌≢◌, ℕ, ◌<◌, ◌≤◌, ◌==◌, ◌+◌, ◌-◌, inl, inr, List, [], Option, None, Some, refl, sym, ap, subst, ◌∙◌, append-nil, arith}
use Rattle.std.proofs.lemmas.Bool.{cases_lt, cases_eq, cond-true, cond-false, eq-eqb, ne_eqb, le-leb, lt-leb}
use Rattle.std.specs.Prelude.{nat_le, zero, suc}
use Rattle.std.specs.List.{AllByRecursion, filter_map, range_with_len, cons_option, list_any}
use Rattle.s4_types.specs.Pointer.{Place}
use Rattle.s4_types.specs.declared.audit_rows.AuditRow.{AuditRow}
use Rattle.s4_model.specs.Audit.{IsAuditRow}
use Rattle.s4_types.specs.declared.versions.Version.{Version}
use Rattle.s4_types.specs.declared.versions.Version.TheVariants.{Absent}
use Rattle.s4_model.specs.State.{State, state_of}
use Rattle.s4_model.specs.VersionAt.{current_of, versions_of, version_of}
use Rattle.s4_model.specs.Sound.{AreListedOnce, DatesAscend, EndsBefore, IsOfGiven}
use Rattle.s4_model.specs.Visible.{spans_of}
use Rattle.block_log.specs.Log.{Stored}
use Rattle.object_map.specs.declared.map.Row.{Row}
use Rattle.object_map.specs.Rows.{row_of}
use Rattle.version_store.specs.Store.{StoreFields, IsStore}
use Rattle.version_store.specs.Versions.{inode_by, version_by, version_in}
use Rattle.version_store.specs.Laws.{ThePresentStays}
use Rattle.window.specs.Runs.{covers}
use Rattle.window.specs.Timeline.{Timeline}
use Rattle.drive.specs.Keeping.{IsKeptDrive}
use Rattle.drive.specs.Opened.{versions_of_row, object_by, versions_below, opened_history, NoneFrom, IsListed, ABaseTellsTheStoresVersions, ABaseListsEachObjectOnce, AnOpenedDriveBeginsAsItsParts}
use Rattle.drive.proofs.Dating.{GroupsAscend, row_told, row_dated}

-- the objects of this many numbers from one on that have a row, each with its versions
abbrev pub objects_from : (Place → Option Stored) → (ℕ → Option Row) → ℕ → ℕ → List (ℕ × List (ℕ × Version))
objects_from held rows first count = filter_map (λ o. object_by held o (rows o)) (range_with_len first count)

-- the versions of an object by its row; none where it has no row
abbrev versions_by : (Place → Option Stored) → ℕ → Option Row → List (ℕ × Version)
versions_by held o None = []
versions_by held o (Some row) = versions_of_row held o row

-- ---- one object more

-- it is found where it has a row
found_first : (held : Place → Option Stored) (o : ℕ) (row : Option Row) (rest : List (ℕ × List (ℕ × Version))) → versions_of rest o ≡ [] → versions_of (cons_option (object_by held o row) rest) o ≡ versions_by held o row
found_first held o None rest none = none
found_first held o (Some row) rest none = cond-true (o == o) (versions_of_row held o row) (versions_of rest o) (eq-eqb o o refl)

-- another is found as before
found_past : (held : Place → Option Stored) (o q : ℕ) (row : Option Row) (rest : List (ℕ × List (ℕ × Version))) → (q ≡ o → ⊥) → versions_of (cons_option (object_by held q row) rest) o ≡ versions_of rest o
found_past held o q None rest apart = refl
found_past held o q (Some row) rest apart = cond-false (q == o) (versions_of_row held q row) (versions_of rest o) (ne_eqb q o apart)

none_below : (held : Place → Option Stored) (rows : ℕ → Option Row) (o first count : ℕ) → o < first → versions_of (objects_from held rows first count) o ≡ []
none_below held rows o first zero lt = refl
none_below held rows o first (suc count) lt =
    found_past held o first (rows first) (objects_from held rows (first + 1) count) (λ (e : first ≡ o). absurd (omega arith))
    ∙ none_below held rows o (first + 1) count (omega arith)

found : (held : Place → Option Stored) (rows : ℕ → Option Row) (o first count : ℕ) → first ≤ o → o < first + count → versions_of (objects_from held rows first count) o ≡ versions_by held o (rows o)
found held rows o first zero from to = absurd (omega arith)
found held rows o first (suc count) from to = elim (cases_eq first o) [
  | inl same ↦
      subst (λ (q : ℕ). versions_of (objects_from held rows first (suc count)) q ≡ versions_by held q (rows q)) same
      (found_first held first (rows first) (objects_from held rows (first + 1) count) (none_below held rows first (first + 1) count (omega arith)))
  | inr apart ↦
      found_past held o first (rows first) (objects_from held rows (first + 1) count) apart
      ∙ found held rows o (first + 1) count (let past : first < o = omega arith in omega arith) (omega arith)
]

-- what comes after the last of them is in none
none_past : (held : Place → Option Stored) (rows : ℕ → Option Row) (o first count : ℕ) → first + count ≤ o → versions_of (objects_from held rows first count) o ≡ []
none_past held rows o first zero past = refl
none_past held rows o first (suc count) past =
    found_past held o first (rows first) (objects_from held rows (first + 1) count) (λ (e : first ≡ o). absurd (omega arith))
    ∙ none_past held rows o (first + 1) count (omega arith)

-- ---- each once, with ascending moments

apart_one : (held : Place → Option Stored) (m o : ℕ) (row : Option Row) (rest : List (ℕ × List (ℕ × Version))) → (o ≡ m → ⊥) → AllByRecursion (λ other. other.0 ≢ m) rest
    → AllByRecursion (λ other. other.0 ≢ m) (cons_option (object_by held o row) rest)
apart_one held m o None rest apart all = all
apart_one held m o (Some row) rest apart all = (apart, all)

all_apart : (held : Place → Option Stored) (rows : ℕ → Option Row) (m first count : ℕ) → m < first → AllByRecursion (λ other. other.0 ≢ m) (objects_from held rows first count)
all_apart held rows m first zero lt = tt
all_apart held rows m first (suc count) lt =
    apart_one held m first (rows first) (objects_from held rows (first + 1) count) (λ (e : first ≡ m). absurd (omega arith)) (all_apart held rows m (first + 1) count (omega arith))

once_one : (held : Place → Option Stored) (o : ℕ) (row : Option Row) (rest : List (ℕ × List (ℕ × Version))) → AllByRecursion (λ other. other.0 ≢ o) rest → AreListedOnce rest
    → AreListedOnce (cons_option (object_by held o row) rest)
once_one held o None rest apart once = once
once_one held o (Some row) rest apart once = (apart, once)

all_once : (held : Place → Option Stored) (rows : ℕ → Option Row) (first count : ℕ) → AreListedOnce (objects_from held rows first count)
all_once held rows first zero = tt
all_once held rows first (suc count) =
    once_one held first (rows first) (objects_from held rows (first + 1) count) (all_apart held rows first (first + 1) count (omega arith)) (all_once held rows (first + 1) count)

-- the versions of each row ascend
abbrev AllDated : (Place → Option Stored) → (ℕ → Option Row) → Type 0
AllDated held rows = (o : ℕ) (row : Row) → rows o ≡ Some row → DatesAscend (versions_of_row held o row)

dated_one : (held : Place → Option Stored) (o : ℕ) (row : Option Row) (rest : List (ℕ × List (ℕ × Version))) → ((r : Row) → row ≡ Some r → DatesAscend (versions_of_row held o r))
    → AllByRecursion (λ entry. DatesAscend entry.1) rest → AllByRecursion (λ entry. DatesAscend entry.1) (cons_option (object_by held o row) rest)
dated_one held o None rest dates all = all
dated_one held o (Some row) rest dates all = (dates row refl, all)

all_dated : (held : Place → Option Stored) (rows : ℕ → Option Row) (first count : ℕ) → AllDated held rows → AllByRecursion (λ entry. DatesAscend entry.1) (objects_from held rows first count)
all_dated held rows first zero dates = tt
all_dated held rows first (suc count) dates =
    dated_one held first (rows first) (objects_from held rows (first + 1) count) (dates first) (all_dated held rows (first + 1) count dates)

-- ---- the base

-- the versions of an object in a base
based : (s : StoreFields) (next o : ℕ) → NoneFrom next s → versions_of (versions_below s next) o ≡ versions_by s.log.held o (row_of s.rows o)
unfolding versions_below
based s next o none = elim (cases_lt o next) [
  | inl lt ↦ found s.log.held (row_of s.rows) o 0 next (omega arith) (omega arith)
  | inr late ↦ none_past s.log.held (row_of s.rows) o 0 next (omega arith) ∙ sym (ap (versions_by s.log.held o) (none o late))
]

-- by a row they tell at each moment what the row's inode represents
by_row : GroupsAscend → (s : StoreFields) (o t : ℕ) (row : Option Row) → row_of s.rows o ≡ row → IsStore s → current_of (versions_by s.log.held o row) t ≡ version_by s.log.held (inode_by s.log.held o t row)
by_row law s o t None is store = refl
by_row law s o t (Some row) is store = row_told law s.log.held o t row (store.objects o row is).stands

pub base_tells : GroupsAscend → ABaseTellsTheStoresVersions
base_tells law s w next audit o t store none =
    ap (λ (pairs : List (ℕ × Version)). current_of pairs t) (based s next o none)
    ∙ by_row law s o t (row_of s.rows o) refl store

pub base_listed : GroupsAscend → ABaseListsEachObjectOnce
unfolding versions_below
base_listed law s w next audit store = record {
  once = all_once s.log.held (row_of s.rows) 0 next;
  dated = all_dated s.log.held (row_of s.rows) 0 next (λ o row is. row_dated law s.log.held o s.latest row (store.objects o row is).stands (store.orderly o row is));
}

-- ---- what holds of a drive holds of one that is opened

pub no_version : (s : StoreFields) (o t : ℕ) → row_of s.rows o ≡ None → version_in s o t ≡ Absent
no_version s o t none = ap (λ (r : Option Row). version_by s.log.held (inode_by s.log.held o t r)) none

-- an object that isn't numbered has no row
pub no_row_of_0 : (s : StoreFields) (row : Option Row) → row_of s.rows 0 ≡ row → IsStore s → row ≡ None
no_row_of_0 s None is store = refl
no_row_of_0 s (Some row) is store = let numbered : 1 ≤ 0 = (store.objects 0 row is).stands.object in absurd (omega arith)

-- at each moment the state of an opened drive tells the store's version
opened_version : ThePresentStays → ABaseTellsTheStoresVersions → (s : StoreFields) (w : Timeline) (next : ℕ) (audit : List AuditRow) (o t : ℕ) → IsStore s → NoneFrom next s → s.latest ≤ w.clock
    → version_of (state_of (opened_history s w next audit)) o t ≡ version_in s o t
opened_version stays tells s w next audit o t store none past = elim (cases_lt w.clock t) [
  | inl late ↦
      cond-false (nat_le t w.clock) (current_of (versions_of (versions_below s next) o) t) (current_of (versions_of (versions_below s next) o) w.clock) (lt-leb t w.clock late)
      ∙ tells s w next audit o w.clock store none
      ∙ (stays s o w.clock store past).1
      ∙ sym (stays s o t store (omega arith)).1
  | inr by ↦
      cond-true (nat_le t w.clock) (current_of (versions_of (versions_below s next) o) t) (current_of (versions_of (versions_below s next) o) w.clock) (le-leb t w.clock by)
      ∙ tells s w next audit o t store none
]

-- the spans of its state are its window's runs
pub opened_spans : (s : StoreFields) (w : Timeline) (next : ℕ) (audit : List AuditRow) → spans_of (state_of (opened_history s w next audit)) ≡ w.runs
opened_spans s w next audit = append-nil w.runs

-- a drive that has just begun has what its parts have
pub begins : ThePresentStays → ABaseTellsTheStoresVersions → AnOpenedDriveBeginsAsItsParts
begins stays tells s w next audit store none past reach = record {
  clock = refl;
  window = refl;
  floor = omega arith;
  next = refl;
  spans = opened_spans s w next audit;
  versions = λ o t. opened_version stays tells s w next audit o t store none past;
}

pub kept_opened : ThePresentStays → ABaseTellsTheStoresVersions → ABaseListsEachObjectOnce → (s : StoreFields) (w : Timeline) (next : ℕ) (audit : List AuditRow)
    → IsStore s → s.latest ≤ w.clock → w.floor ≤ w.clock → w.clock - w.window ≤ w.floor → 1 ≤ next → next ≤ w.clock + 1 → NoneFrom next s
    → AllByRecursion (EndsBefore w.clock) w.runs → AllByRecursion (IsOfGiven next) w.runs → AllByRecursion (IsAuditRow next) audit
    → IsKeptDrive (state_of (opened_history s w next audit)) s w next
kept_opened stays tells lists s w next audit store past below reach numbered made none ends given rows =
    let begun : State = state_of (opened_history s w next audit) in
    let spans : spans_of begun ≡ w.runs = opened_spans s w next audit in
    let floor : begun.floor ≡ w.floor = omega arith in
    let listed : IsListed (versions_below s next) = lists s w next audit store in
    record {
      window = record {
        clock = refl;
        window = refl;
        floor = sym floor;
        alike = λ list t from. ap (list_any (covers list t)) (sym spans);
        owned = given;
      };
      next = refl;
      store = store;
      versions = λ o t needed. sym (opened_version stays tells s w next audit o t store none past);
      past = past;
      unborn = none;
      sound = record {
        floor_reached = omega arith;
        reached = omega arith;
        numbered = numbered;
        given = made;
        counted = tt;
        stamped = omega arith;
        past = subst (AllByRecursion (EndsBefore w.clock)) (sym spans) ends;
        owned = subst (AllByRecursion (IsOfGiven next)) (sym spans) given;
        unborn = λ o t late. opened_version stays tells s w next audit o t store none past ∙ no_version s o t (none o late);
        nobody = λ t. opened_version stays tells s w next audit 0 t store none past ∙ no_version s 0 t (no_row_of_0 s (row_of s.rows 0) refl store);
        listed = listed.once;
        dated = listed.dated;
        audited = subst (AllByRecursion (IsAuditRow next)) (sym (append-nil audit)) rows;
      };
    }
