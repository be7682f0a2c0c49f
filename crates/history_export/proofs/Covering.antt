-- A check reads every version that can be read.
use Rattle.std.proofs.Common.{◌≡◌, ◌∙◌, All, ◌+◌, ◌<◌, ◌≤◌, ◌==◌, ◌&&◌, ℕ, suc, Bool, true, cond, List, [], ◌∷◌, Option, Some, None, nat_lt, nat_le, inl, inr, refl, ap, ap₂, sym, subst, arith}
use Rattle.std.specs.List.{AllByRecursion, Contains}
use Rattle.std.proofs.lemmas.List.Elements.{All-from_recursion}
use Rattle.lemmas.proofs.List.{all_weaker}
use Rattle.std.proofs.lemmas.Bool.{and_parts, ltb-true, eqb-true, lt-ltb, le-ltb, le-leb, lt-leb, cond-true, cond-false, cases_Bool, cases_lt}
use Rattle.s4_types.specs.Pointer.{Place}
use Rattle.s4_types.specs.declared.limits.TheConstants.{CHANGE_ENTRIES}
use Rattle.s4_model.specs.State.{State}
use Rattle.s4_model.specs.Sound.{IsSound}
use Rattle.s4_model.specs.Visible.{IsVisible}
use Rattle.block_log.specs.Log.{Stored}
use Rattle.codec.specs.Entry.{EntryFields}
use Rattle.undo_redo.specs.Groups.{grouped, grouped_behind, continues}
use Rattle.undo_redo.specs.Runs.{entries_by, redone_all}
use Rattle.object_map.specs.declared.map.Row.{Row}
use Rattle.object_map.specs.Rows.{row_of}
use Rattle.time_read.specs.Rows.{entries_of, inode_of, first_of}
use Rattle.version_store.specs.Store.{StoreFields, IsStore}
use Rattle.version_store.specs.Versions.{entries_of_object, entries_of_row, inode_by, version_by}
use Rattle.drive.specs.Keeping.{DecodesWhereVisible}
use Rattle.history_view.specs.Listing.{seen_from}
use Rattle.history_export.specs.Versions.{begins, begun_behind, beginnings_of}
use Rattle.history_export.specs.Covering.{EachVersionIsRead}
use Rattle.history_view.proofs.Shown.{clock_is_visible}
use Rattle.history_view.proofs.Seen.{seen_found}
use Rattle.history_export.proofs.Seen.{by_row}

-- ---- moments of entries

-- the moments don't descend, from this one on
abbrev AscendFrom : ℕ → List EntryFields → Type 0
AscendFrom low [] = Unit {0}
AscendFrom low (e ∷ entries) = (low ≤ e.moment) × AscendFrom e.moment entries

behind_ascends : (count : ℕ) (e : EntryFields) (entries : List EntryFields) → grouped_behind count e entries ≡ true → AscendFrom e.moment entries
behind_ascends count e [] is = tt
behind_ascends count e (f ∷ entries) is =
    let one = (nat_lt count CHANGE_ENTRIES && continues e f) && grouped_behind (count + 1) f entries in
    let other = nat_lt e.moment f.moment && grouped_behind 1 f entries in
    elim (cases_Bool (e.moment == f.moment)) [
      | inl same ↦
          let both = and_parts (nat_lt count CHANGE_ENTRIES && continues e f) (grouped_behind (count + 1) f entries) (sym (cond-true (e.moment == f.moment) one other same) ∙ is) in
          let equal : e.moment ≡ f.moment = eqb-true e.moment f.moment same in
          (omega (arith, equal), behind_ascends (count + 1) f entries both.1)
      | inr apart ↦
          let both = and_parts (nat_lt e.moment f.moment) (grouped_behind 1 f entries) (sym (cond-false (e.moment == f.moment) one other apart) ∙ is) in
          let less : e.moment < f.moment = ltb-true e.moment f.moment both.0 in
          (omega (arith, less), behind_ascends 1 f entries both.1)
    ]

grouped_ascends : (entries : List EntryFields) → grouped entries ≡ true → AscendFrom 0 entries
grouped_ascends [] is = tt
grouped_ascends (e ∷ entries) is = (omega arith, behind_ascends 1 e entries is)

row_ascends : (store : StoreFields) (o : ℕ) (found : Option Row) → IsStore store → row_of store.rows o ≡ found → AscendFrom 0 (entries_of_row store.log.held o found)
row_ascends store o None stands is = tt
row_ascends store o (Some row) stands is = grouped_ascends (entries_of store.log.held o row) (stands.objects o row is).stands.groups

-- ---- the last moment that is read up to one

-- of the moments that are read from one on, this is none that is later than t, and no entry up to t is later
record Covers (s : State) (o t last : ℕ) (entries : List EntryFields) : Type 0 where
  moment : ℕ
  among : Contains (last ∷ begun_behind s o last entries) moment
  from : last ≤ moment
  up : moment ≤ t
  visible : IsVisible s o moment
  none : AllByRecursion (λ e. e.moment ≤ t → e.moment ≤ moment) entries

there : (x y : ℕ) (xs : List ℕ) → Contains xs x → Contains (y ∷ xs) x
there x y xs among = (suc among.0, omega (arith, among.1), among.2)

-- no entry from a later moment on is up to t
all_later : (t last low : ℕ) (entries : List EntryFields) → AscendFrom low entries → (low ≤ t → ⊥) → AllByRecursion (λ e. e.moment ≤ t → e.moment ≤ last) entries
all_later t last low [] ascend later = tt
all_later t last low (e ∷ entries) ascend later = (λ up. absurd (later (omega (arith, ascend.0, up))), all_later t last e.moment entries ascend.1 (λ up. later (omega (arith, ascend.0, up))))

module _ (s : State) (o t : ℕ) (sound : IsSound s) (v : IsVisible s o t) where
  -- an entry's version is read later than t
  stops : (last : ℕ) (e : EntryFields) (entries : List EntryFields) → AscendFrom e.moment entries → last ≤ t → IsVisible s o last → t < seen_from s o e.moment → Covers s o t last (e ∷ entries)
  stops last e entries ascend up seen past =
      let later : e.moment ≤ t → ⊥ = λ le. let found = seen_found s o e.moment t le v in omega (arith, past, found.up) in
      record {
        moment = last;
        among = (0, omega arith, refl);
        from = omega arith;
        up = up;
        visible = seen;
        none = (λ le. absurd (later le), all_later t last e.moment entries ascend later);
      }

  -- it is read up to t
  goes_on : (last : ℕ) (e : EntryFields) (entries : List EntryFields) → last < seen_from s o e.moment → e.moment ≤ seen_from s o e.moment → Covers s o t (seen_from s o e.moment) entries → Covers s o t last (e ∷ entries)
  goes_on last e entries less from c =
      let m = seen_from s o e.moment in
      let is : begun_behind s o last (e ∷ entries) ≡ m ∷ begun_behind s o m entries = cond-true (begins s o last e) (m ∷ begun_behind s o m entries) (begun_behind s o last entries) (lt-ltb last m less) in
      record {
        moment = c.moment;
        among = subst (λ ts. Contains (last ∷ ts) c.moment) (sym is) (there c.moment last (m ∷ begun_behind s o m entries) c.among);
        from = omega (arith, less, c.from);
        up = c.up;
        visible = c.visible;
        none = (λ le. omega (arith, from, c.from), c.none);
      }

  -- it was read already
  is_passed : (last : ℕ) (e : EntryFields) (entries : List EntryFields) → seen_from s o e.moment ≤ last → e.moment ≤ seen_from s o e.moment → Covers s o t last entries → Covers s o t last (e ∷ entries)
  is_passed last e entries up from c =
      let m = seen_from s o e.moment in
      let is : begun_behind s o last (e ∷ entries) ≡ begun_behind s o last entries = cond-false (begins s o last e) (m ∷ begun_behind s o m entries) (begun_behind s o last entries) (le-ltb last m up) in
      record {
        moment = c.moment;
        among = subst (λ ts. Contains (last ∷ ts) c.moment) (sym is) c.among;
        from = c.from;
        up = c.up;
        visible = c.visible;
        none = (λ le. omega (arith, from, up, c.from), c.none);
      }

  cover : (low last : ℕ) (entries : List EntryFields) → AscendFrom low entries → AllByRecursion (λ e. e.moment ≤ s.clock) entries → last ≤ t → IsVisible s o last → Covers s o t last entries
  cover low last [] ascend reached up seen = record { moment = last; among = (0, omega arith, refl); from = omega arith; up = up; visible = seen; none = tt }
  cover low last (e ∷ entries) ascend reached up seen =
      let m = seen_from s o e.moment in
      let found = seen_found s o e.moment s.clock reached.0 (clock_is_visible s o sound) in
      elim (cases_lt last m) [
        | inl less ↦ elim (cases_lt t m) [
          | inl past ↦ stops last e entries ascend.1 up seen past
          | inr to ↦ goes_on last e entries less found.from (cover e.moment m entries ascend.1 reached.1 to found.visible)
        ]
        | inr before ↦ is_passed last e entries before found.from (cover e.moment last entries ascend.1 reached.1 up seen)
      ]

-- no entry of an object is later than the clock
all_reached : (s : State) (store : StoreFields) (o : ℕ) → IsStore store → store.latest ≤ s.clock → AllByRecursion (λ e. e.moment ≤ s.clock) (entries_of_object store o)
all_reached s store o stands past =
    all_weaker (λ (e : EntryFields). e.moment ≤ store.latest) (λ (e : EntryFields). e.moment ≤ s.clock) (entries_of_object store o) (λ e up. omega (arith, up, past)) (by_row store o (row_of store.rows o) stands refl)

-- ---- what an object is between

-- where no entry up to t is later than b, the entries up to t are those up to b
by_alike : (b t : ℕ) (entries : List EntryFields) → b ≤ t → AllByRecursion (λ e. e.moment ≤ t → e.moment ≤ b) entries → entries_by t entries ≡ entries_by b entries
by_alike b t [] up none = refl
by_alike b t (e ∷ entries) up none = ap₂ (λ (is : Bool) (rest : List EntryFields). cond is (e ∷ rest) rest) (alike e none.0) (by_alike b t entries up none.1)
  where
    alike : (e : EntryFields) → (e.moment ≤ t → e.moment ≤ b) → nat_le e.moment t ≡ nat_le e.moment b
    alike e none = elim (cases_lt t e.moment) [
      | inl past ↦ lt-leb e.moment t past ∙ sym (lt-leb e.moment b (omega (arith, past)))
      | inr to ↦ le-leb e.moment t to ∙ sym (le-leb e.moment b (none to))
    ]

inode_alike : (held : Place → Option Stored) (o b t : ℕ) (row : Row) → b ≤ t → AllByRecursion (λ e. e.moment ≤ t → e.moment ≤ b) (entries_of held o row) → inode_of held o row b ≡ inode_of held o row t
unfolding inode_of
inode_alike held o b t row up none = ap (λ es. redone_all es (first_of held o row)) (sym (by_alike b t (entries_of held o row) up none))

inodes_alike : (held : Place → Option Stored) (o b t : ℕ) (found : Option Row) → b ≤ t → AllByRecursion (λ e. e.moment ≤ t → e.moment ≤ b) (entries_of_row held o found) → inode_by held o b found ≡ inode_by held o t found
inodes_alike held o b t None up none = refl
inodes_alike held o b t (Some row) up none = ap Some (inode_alike held o b t row up none)

-- each version that can be read is read
pub each_is_read : (s : State) (store : StoreFields) → IsSound s → IsStore store → store.latest ≤ s.clock → DecodesWhereVisible store s → EachVersionIsRead s store
each_is_read s store sound stands past decodes o t v =
    let first = seen_from s o s.floor in
    let entries = entries_of_object store o in
    let begun = seen_found s o s.floor t v.kept v in
    let reached = all_reached s store o stands past in
    let c : Covers s o t first entries = cover s o t sound v 0 first entries (row_ascends store o (row_of store.rows o) stands refl) reached begun.up begun.visible in
    record {
      moment = c.moment;
      among = c.among;
      not_later = c.up;
      same = sym (decodes o c.moment c.visible) ∙ ap (version_by store.log.held) (inodes_alike store.log.held o c.moment t (row_of store.rows o) c.up c.none) ∙ decodes o t v;
    }

-- ---- what is read can be

begun_visible : (s : State) (o last : ℕ) (entries : List EntryFields) → IsSound s → AllByRecursion (λ e. e.moment ≤ s.clock) entries → AllByRecursion (IsVisible s o) (begun_behind s o last entries)
begun_visible s o last [] sound reached = tt
begun_visible s o last (e ∷ entries) sound reached =
    let m = seen_from s o e.moment in
    elim (cases_Bool (begins s o last e)) [
      | inl is ↦ subst (AllByRecursion (IsVisible s o)) (sym (cond-true (begins s o last e) (m ∷ begun_behind s o m entries) (begun_behind s o last entries) is))
          ((seen_found s o e.moment s.clock reached.0 (clock_is_visible s o sound)).visible, begun_visible s o m entries sound reached.1)
      | inr fails ↦ subst (AllByRecursion (IsVisible s o)) (sym (cond-false (begins s o last e) (m ∷ begun_behind s o m entries) (begun_behind s o last entries) fails)) (begun_visible s o last entries sound reached.1)
    ]

-- each moment at which a version begins can be read
pub all_beginnings_visible : (s : State) (store : StoreFields) (o : ℕ) → IsSound s → IsStore store → store.latest ≤ s.clock → All (IsVisible s o) (beginnings_of s store o)
all_beginnings_visible s store o sound stands past =
    let first = seen_found s o s.floor s.clock sound.floor_reached (clock_is_visible s o sound) in
    All-from_recursion (IsVisible s o) (beginnings_of s store o)
    (first.visible, begun_visible s o (seen_from s o s.floor) (entries_of_object store o) sound (all_reached s store o stands past))
