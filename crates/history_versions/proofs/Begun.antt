-- When versions begin, and that each is printed.
use Rattle.std.proofs.Common.{◌≡◌, ◌∙◌, All, ◌+◌, ◌<◌, ◌≤◌, ℕ, suc, List, [], ◌∷◌, None, nat_le, inl, inr, refl, ap, sym, subst, arith}
use Rattle.std.specs.List.{AllByRecursion, Contains}
use Rattle.std.proofs.lemmas.List.Elements.{All-from_recursion}
use Rattle.std.proofs.lemmas.Bool.{cases_Bool, cases_lt, cond-true, cond-false, ltb-true, le-leb}
use Rattle.lemmas.proofs.List.{all_weaker}
use Rattle.s4_model.specs.State.{State}
use Rattle.s4_model.specs.Sound.{IsSound}
use Rattle.s4_model.specs.VersionAt.{version_of}
use Rattle.s4_model.specs.Visible.{IsVisible}
use Rattle.codec.specs.Entry.{EntryFields}
use Rattle.object_map.specs.Rows.{row_of}
use Rattle.version_store.specs.Store.{StoreFields, IsStore}
use Rattle.version_store.specs.Versions.{entries_of_object}
use Rattle.history_view.specs.Listing.{seen_from}
use Rattle.history_view.proofs.Seen.{seen_found}
use Rattle.history_view.proofs.Shown.{clock_is_visible}
use Rattle.history_export.specs.Covering.{EachVersionIsRead}
use Rattle.history_export.specs.Versions.{begins, begun_behind, beginnings_of}
use Rattle.history_export.proofs.Seen.{by_row}
use Rattle.history_versions.specs.Lines.{version_text}
use Rattle.history_versions.specs.Printed.{AscendAfter, AscendStrictly, EachIsPrinted, IsBegun}

-- ---- the order of moments

begun_ascend : (s : State) (o last : ℕ) (entries : List EntryFields) → AscendAfter last (begun_behind s o last entries)
begun_ascend s o last [] = tt
begun_ascend s o last (e ∷ entries) =
    let m = seen_from s o e.moment in
    let taken = m ∷ begun_behind s o m entries in
    let passed = begun_behind s o last entries in
    elim (cases_Bool (begins s o last e)) [
      | inl is ↦ subst (AscendAfter last) (sym (cond-true (begins s o last e) taken passed is)) (ltb-true last m is, begun_ascend s o m entries)
      | inr fails ↦ subst (AscendAfter last) (sym (cond-false (begins s o last e) taken passed fails)) (begun_ascend s o last entries)
    ]

-- the moments at which versions begin ascend
pub beginnings_ascend : (s : State) (store : StoreFields) (o : ℕ) → AscendStrictly (beginnings_of s store o)
beginnings_ascend s store o = begun_ascend s o (seen_from s o s.floor) (entries_of_object store o)

-- ---- what begins then

there : (x y : EntryFields) (entries : List EntryFields) → Contains entries x → Contains (y ∷ entries) x
there x y entries among = (suc among.0, omega (arith, among.1), among.2)

-- the first moment that can be read from an entry on
begun_by : (s : State) (store : StoreFields) (o : ℕ) (e : EntryFields) → IsSound s → Contains (entries_of_object store o) e → e.moment ≤ s.clock → IsBegun s store o (seen_from s o e.moment)
begun_by s store o e sound among reached =
    let found = seen_found s o e.moment s.clock reached (clock_is_visible s o sound) in
    record {
      from = e.moment;
      changed = inr (e, among, refl);
      begun = found.from;
      visible = found.visible;
      first = λ q v from. (seen_found s o e.moment q from v).up;
    }

all_begun : (s : State) (store : StoreFields) (o last : ℕ) (entries : List EntryFields) → IsSound s → AllByRecursion (λ e. e.moment ≤ s.clock) entries → ((e : EntryFields) → Contains entries e → Contains (entries_of_object store o) e)
    → AllByRecursion (IsBegun s store o) (begun_behind s o last entries)
all_begun s store o last [] sound reached among = tt
all_begun s store o last (e ∷ entries) sound reached among =
    let m = seen_from s o e.moment in
    let taken = m ∷ begun_behind s o m entries in
    let passed = begun_behind s o last entries in
    let later : (f : EntryFields) → Contains entries f → Contains (entries_of_object store o) f = λ f is. among f (there f e entries is) in
    elim (cases_Bool (begins s o last e)) [
      | inl is ↦ subst (AllByRecursion (IsBegun s store o)) (sym (cond-true (begins s o last e) taken passed is))
          (begun_by s store o e sound (among e (0, omega arith, refl)) reached.0, all_begun s store o m entries sound reached.1 later)
      | inr fails ↦ subst (AllByRecursion (IsBegun s store o)) (sym (cond-false (begins s o last e) taken passed fails)) (all_begun s store o last entries sound reached.1 later)
    ]

-- no entry of an object is later than the clock
all_reached : (s : State) (store : StoreFields) (o : ℕ) → IsStore store → store.latest ≤ s.clock → AllByRecursion (λ e. e.moment ≤ s.clock) (entries_of_object store o)
all_reached s store o stands past =
    all_weaker (λ (e : EntryFields). e.moment ≤ store.latest) (λ (e : EntryFields). e.moment ≤ s.clock) (entries_of_object store o) (λ e up. omega (arith, up, past)) (by_row store o (row_of store.rows o) stands refl)

-- the first moment of all that can be read
earliest_begun : (s : State) (store : StoreFields) (o : ℕ) → IsSound s → IsBegun s store o (seen_from s o s.floor)
earliest_begun s store o sound =
    let found = seen_found s o s.floor s.clock sound.floor_reached (clock_is_visible s o sound) in
    record {
      from = 0;
      changed = inl refl;
      begun = omega arith;
      visible = found.visible;
      first = λ q v from. (seen_found s o s.floor q v.kept v).up;
    }

begun_in_order : (s : State) (store : StoreFields) (o : ℕ) → IsSound s → IsStore store → store.latest ≤ s.clock → AllByRecursion (IsBegun s store o) (beginnings_of s store o)
begun_in_order s store o sound stands past =
    (earliest_begun s store o sound, all_begun s store o (seen_from s o s.floor) (entries_of_object store o) sound (all_reached s store o stands past) (λ e is. is))

-- at each of the moments a version begins
pub beginnings_begun : (s : State) (store : StoreFields) (o : ℕ) → IsSound s → IsStore store → store.latest ≤ s.clock → All (IsBegun s store o) (beginnings_of s store o)
beginnings_begun s store o sound stands past = All-from_recursion (IsBegun s store o) (beginnings_of s store o) (begun_in_order s store o sound stands past)

-- so each can be read
pub beginnings_visible : (s : State) (store : StoreFields) (o : ℕ) → IsSound s → IsStore store → store.latest ≤ s.clock → All (IsVisible s o) (beginnings_of s store o)
beginnings_visible s store o sound stands past =
    All-from_recursion (IsVisible s o) (beginnings_of s store o)
    (all_weaker (IsBegun s store o) (IsVisible s o) (beginnings_of s store o) (λ t begun. begun.visible) (begun_in_order s store o sound stands past))

-- ---- what is printed

-- what is read of each version is printed
pub each_is_printed : (s : State) (store : StoreFields) → EachVersionIsRead s store → EachIsPrinted s store
each_is_printed s store each asked o t v up =
    let read = each o t v in
    let whole = version_text asked.style asked.contents read.moment (version_of s o read.moment) in
    record {
      moment = read.moment;
      among = read.among;
      not_later = read.not_later;
      printed = cond-true (nat_le read.moment asked.until) whole None (le-leb read.moment asked.until (omega (arith, read.not_later, up)))
          ∙ ap (version_text asked.style asked.contents read.moment) read.same;
    }
