-- The versions of a row, each with the moment from which it is current.
use Rattle.std.proofs.Common.{◌≡◌, ℕ, ◌<◌, ◌≤◌, Bool, true, false, cond, inl, inr, Option, List, [], ◌∷◌, fold, refl, sym, ap, subst, ◌∙◌, arith}
use Rattle.std.proofs.lemmas.Bool.{cases_Bool, cond-true, cond-false, and_parts, le-leb, leb-true, leb-false, lt-leb, eqb-true, eqb-false, false≢true}
use Rattle.std.specs.Prelude.{nat_le}
use Rattle.std.specs.List.{AllByRecursion}
use Rattle.s4_types.specs.Pointer.{Place}
use Rattle.s4_types.specs.declared.versions.Version.{Version}
use Rattle.s4_types.specs.declared.versions.Version.TheVariants.{Absent}
use Rattle.s4_model.specs.VersionAt.{current_of}
use Rattle.s4_model.specs.Sound.{DatesAscend}
use Rattle.block_log.specs.Log.{Stored}
use Rattle.codec.specs.declared.inodes.Inode.{Inode}
use Rattle.codec.specs.Entry.{EntryFields}
use Rattle.undo_redo.specs.Redone.{redone}
use Rattle.undo_redo.specs.Runs.{redone_all, entries_by, inode_after, moments_ascend_from}
use Rattle.undo_redo.specs.Groups.{grouped}
use Rattle.inode.specs.Contents.{contents_of, meaning}
use Rattle.object_map.specs.declared.map.Row.{Row}
use Rattle.time_read.specs.Rows.{IsRow, first_of, entries_of, inode_of}
use Rattle.time_read.specs.Orderly.{IsOrderly, IsFromTo}
use Rattle.drive.specs.Opened.{begins_at, versions_behind, versions_of_row}

-- moments of groups don't descend
abbrev pub GroupsAscend : Type 0
GroupsAscend = (entries : List EntryFields) → grouped entries ≡ true → moments_ascend_from 0 entries ≡ true

-- the version after one more dated one
abbrev dated_by : ℕ → Version → ℕ × Version → Version
dated_by t version dated = cond (nat_le dated.0 t) dated.1 version

-- whether there are entries, the first of them up to a moment
abbrev begins_by : ℕ → List EntryFields → Bool
begins_by t [] = false
begins_by t (e ∷ entries) = nat_le e.moment t

late_begin : (low t : ℕ) (entries : List EntryFields) → moments_ascend_from low entries ≡ true → nat_le low t ≡ false → begins_by t entries ≡ false
late_begin low t [] ascends late = refl
late_begin low t (e ∷ entries) ascends late =
    let from : low ≤ e.moment = leb-true low e.moment (and_parts (nat_le low e.moment) (moments_ascend_from e.moment entries) ascends).0 in
    let past : t < low = leb-false low t late in
    lt-leb e.moment t (omega arith)

-- where the first is later than a moment, all are
none_by : (low t : ℕ) (entries : List EntryFields) → moments_ascend_from low entries ≡ true → begins_by t entries ≡ false → entries_by t entries ≡ []
none_by low t [] ascends late = refl
none_by low t (e ∷ entries) ascends late =
    let rest : moments_ascend_from e.moment entries ≡ true = (and_parts (nat_le low e.moment) (moments_ascend_from e.moment entries) ascends).1 in
    cond-false (nat_le e.moment t) (e ∷ entries_by t entries) (entries_by t entries) late
    ∙ none_by e.moment t entries rest (late_begin e.moment t entries rest late)

stays : (low t : ℕ) (i : Inode) (entries : List EntryFields) → moments_ascend_from low entries ≡ true → begins_by t entries ≡ false → inode_after i entries t ≡ i
stays low t i entries ascends late = ap (λ (es : List EntryFields). redone_all es i) (none_by low t entries ascends late)

-- the first entry is done where its moment is reached
done : (t : ℕ) (i : Inode) (e : EntryFields) (entries : List EntryFields) → nat_le e.moment t ≡ true → inode_after i (e ∷ entries) t ≡ inode_after (redone e i) entries t
done t i e entries is = ap (λ (b : Bool). redone_all (cond b (e ∷ entries_by t entries) (entries_by t entries)) i) is

same_begin : (m t : ℕ) (entries : List EntryFields) → begins_at m entries ≡ true → begins_by t entries ≡ nat_le m t
same_begin m t [] same = absurd (false≢true same)
same_begin m t (e ∷ entries) same = ap (λ (n : ℕ). nat_le n t) (eqb-true e.moment m same)

-- two choices by the same test, whose first sides agree where it holds
joined : (b c : Bool) (x y v : Version) → c ≡ b → (b ≡ true → x ≡ y) → cond c x v ≡ cond b y v
joined true c x y v same agree = cond-true c x v same ∙ agree refl
joined false c x y v same agree = cond-false c x v same

-- a choice after a choice, where the later one tells the same
chosen : (b c : Bool) (later here there v : Version) → (b ≡ true → later ≡ there) → (c ≡ false → later ≡ here) → (b ≡ false → c ≡ false) → cond c later (cond b here v) ≡ cond b there v
chosen true true later here there v reached none past = reached refl
chosen true false later here there v reached none past = sym (none refl) ∙ reached refl
chosen false c later here there v reached none past = cond-false c later v (past refl)

-- a choice whose second side is its first where it is taken
same_first : (c : Bool) (x v : Version) → (c ≡ false → v ≡ x) → cond c x v ≡ x
same_first true x v same = refl
same_first false x v same = same refl

-- the version told after an inode: where no entry is up to the moment the one given, else that of the inode there
told : (contents : Place → List ℕ) (t low : ℕ) (i : Inode) (entries : List EntryFields) (v : Version) → moments_ascend_from low entries ≡ true
    → fold (dated_by t) v (versions_behind contents i entries) ≡ cond (begins_by t entries) (meaning contents (inode_after i entries t)) v
unfolding versions_behind
told contents t low i [] v ascends = refl
told contents t low i (e ∷ entries) v ascends =
    let j : Inode = redone e i in
    let behind : List (ℕ × Version) = versions_behind contents j entries in
    let rest : moments_ascend_from e.moment entries ≡ true = (and_parts (nat_le low e.moment) (moments_ascend_from e.moment entries) ascends).1 in
    elim (cases_Bool (begins_at e.moment entries)) [
      | inl same ↦
          ap (λ (b : Bool). fold (dated_by t) v (cond b behind ((e.moment, meaning contents j) ∷ behind))) same
          ∙ told contents t e.moment j entries v rest
          ∙ joined (nat_le e.moment t) (begins_by t entries) (meaning contents (inode_after j entries t)) (meaning contents (inode_after i (e ∷ entries) t)) v (same_begin e.moment t entries same)
          (λ (is : nat_le e.moment t ≡ true). ap (meaning contents) (sym (done t i e entries is)))
      | inr other ↦
          ap (λ (b : Bool). fold (dated_by t) v (cond b behind ((e.moment, meaning contents j) ∷ behind))) other
          ∙ told contents t e.moment j entries (dated_by t v (e.moment, meaning contents j)) rest
          ∙ chosen (nat_le e.moment t) (begins_by t entries) (meaning contents (inode_after j entries t)) (meaning contents j) (meaning contents (inode_after i (e ∷ entries) t)) v
          (λ (is : nat_le e.moment t ≡ true). ap (meaning contents) (sym (done t i e entries is)))
          (λ (late : begins_by t entries ≡ false). ap (meaning contents) (stays e.moment t j entries rest late))
          (λ (late : nat_le e.moment t ≡ false). late_begin e.moment t entries rest late)
    ]

ascending : GroupsAscend → (held : Place → Option Stored) (o : ℕ) (row : Row) → IsRow held o row → moments_ascend_from 0 (entries_of held o row) ≡ true
ascending law held o row stands = law (entries_of held o row) stands.groups

-- At each moment the versions of a row tell the one that the inode which is current there represents.
pub row_told : GroupsAscend → (held : Place → Option Stored) (o t : ℕ) (row : Row) → IsRow held o row → current_of (versions_of_row held o row) t ≡ meaning (contents_of held) (inode_of held o row t)
unfolding versions_of_row inode_of
row_told law held o t row stands =
    let contents : Place → List ℕ = contents_of held in
    let first : Inode = first_of held o row in
    let entries : List EntryFields = entries_of held o row in
    let ascends : moments_ascend_from 0 entries ≡ true = ascending law held o row stands in
    ap (λ (b : Bool). fold (dated_by t) (cond b (meaning contents first) Absent) (versions_behind contents first entries)) (le-leb 0 t (omega arith))
    ∙ told contents t 0 first entries (meaning contents first) ascends
    ∙ same_first (begins_by t entries) (meaning contents (inode_after first entries t)) (meaning contents first)
    (λ (late : begins_by t entries ≡ false). ap (meaning contents) (sym (stays 0 t first entries ascends late)))

-- ---- their moments

-- the first of these entries is later than a moment, if there is one
abbrev BeginsPast : ℕ → List EntryFields → Type 0
BeginsPast m [] = Unit {0}
BeginsPast m (e ∷ entries) = m < e.moment

goes_past : (m low : ℕ) (entries : List EntryFields) → m < low → moments_ascend_from low entries ≡ true → BeginsPast m entries
goes_past m low [] lt ascends = tt
goes_past m low (e ∷ entries) lt ascends =
    let from : low ≤ e.moment = leb-true low e.moment (and_parts (nat_le low e.moment) (moments_ascend_from e.moment entries) ascends).0 in
    omega arith

-- so are the moments of the versions after them
past : (contents : Place → List ℕ) (m low : ℕ) (i : Inode) (entries : List EntryFields) → BeginsPast m entries → moments_ascend_from low entries ≡ true
    → AllByRecursion (λ later. m < later.0) (versions_behind contents i entries)
unfolding versions_behind
past contents m low i [] begins ascends = tt
past contents m low i (e ∷ entries) begins ascends =
    let j : Inode = redone e i in
    let behind : List (ℕ × Version) = versions_behind contents j entries in
    let lt : m < e.moment = begins in
    let rest : moments_ascend_from e.moment entries ≡ true = (and_parts (nat_le low e.moment) (moments_ascend_from e.moment entries) ascends).1 in
    let all : AllByRecursion (λ later. m < later.0) behind = past contents m e.moment j entries (goes_past m e.moment entries lt rest) rest in
    elim (begins_at e.moment entries) as (λ (b : Bool). AllByRecursion (λ later. m < later.0) (cond b behind ((e.moment, meaning contents j) ∷ behind))) [
      | true ↦ all
      | false ↦ (lt, all)
    ]

-- entries that don't begin at a moment which they don't fall below begin past it
begins_past : (m : ℕ) (entries : List EntryFields) → moments_ascend_from m entries ≡ true → begins_at m entries ≡ false → BeginsPast m entries
begins_past m [] ascends other = tt
begins_past m (e ∷ entries) ascends other =
    let from : m ≤ e.moment = leb-true m e.moment (and_parts (nat_le m e.moment) (moments_ascend_from e.moment entries) ascends).0 in
    let apart : e.moment ≡ m → ⊥ = eqb-false e.moment m other in
    omega arith

dates_behind : (contents : Place → List ℕ) (low : ℕ) (i : Inode) (entries : List EntryFields) → moments_ascend_from low entries ≡ true → DatesAscend (versions_behind contents i entries)
unfolding versions_behind
dates_behind contents low i [] ascends = tt
dates_behind contents low i (e ∷ entries) ascends =
    let j : Inode = redone e i in
    let behind : List (ℕ × Version) = versions_behind contents j entries in
    let rest : moments_ascend_from e.moment entries ≡ true = (and_parts (nat_le low e.moment) (moments_ascend_from e.moment entries) ascends).1 in
    let dates : DatesAscend behind = dates_behind contents e.moment j entries rest in
    let P : Bool → Type 0 = λ (b : Bool). DatesAscend (cond b behind ((e.moment, meaning contents j) ∷ behind)) in
    elim (cases_Bool (begins_at e.moment entries)) [
      | inl same ↦ subst P (sym same) dates
      | inr other ↦ subst P (sym other) (past contents e.moment e.moment j entries (begins_past e.moment entries rest other) rest, dates)
    ]

begins_made : (created latest : ℕ) (entries : List EntryFields) → 1 ≤ created → AllByRecursion (λ e. IsFromTo created latest e.moment) entries → BeginsPast 0 entries
begins_made created latest [] made all = tt
begins_made created latest (e ∷ entries) made all = let from : created ≤ e.moment = all.0.0 in omega arith

-- Where a row is in order, the moments from which its versions are current ascend strictly.
pub row_dated : GroupsAscend → (held : Place → Option Stored) (o latest : ℕ) (row : Row) → IsRow held o row → IsOrderly held o row latest → DatesAscend (versions_of_row held o row)
unfolding versions_of_row
row_dated law held o latest row stands order =
    let first : Inode = first_of held o row in
    let entries : List EntryFields = entries_of held o row in
    let ascends : moments_ascend_from 0 entries ≡ true = ascending law held o row stands in
    (past (contents_of held) 0 0 first entries (begins_made row.created latest entries order.made.0 order.chain.moments) ascends, dates_behind (contents_of held) 0 first entries ascends)
