-- Laws of runs, and of the inode current at a moment.
use Rattle.std.proofs.Common.{◌≡◌, ℕ, ◌≤◌, ◌<◌, true, leb, cond, inl, inr, List, [], ◌∷◌, ◌++◌, refl, sym, ap, subst, ◌∙◌, arith}
use Rattle.std.specs.Prelude.{not}
use Rattle.std.proofs.lemmas.List.Elements.{filter-append}
use Rattle.std.proofs.lemmas.Bool.{cases_Bool, and_parts, leb-true, leb-false, le-leb, lt-leb}
use Rattle.codec.specs.declared.inodes.Inode.{Inode}
use Rattle.codec.specs.Entry.{EntryFields}
use Rattle.undo_redo.specs.Linked.{Linked}
use Rattle.undo_redo.specs.Redone.{redone, undone}
use Rattle.undo_redo.specs.Runs.{Run, redone_all, undone_all, entry_is_by, entries_by, entries_past, inode_after, AllBy, AllPast, moments_ascend_from}
use Rattle.undo_redo.proofs.LinkLaws.{is_redone, is_undone}

pub run_end : (i j : Inode) (entries : List EntryFields) → Run i entries j → j ≡ redone_all entries i
run_end i j [] r = sym r
run_end i j (e ∷ entries) r = run_end r.0 j entries r.2 ∙ ap (redone_all entries) (is_redone i r.0 e r.1)

pub run_beginning : (i j : Inode) (entries : List EntryFields) → Run i entries j → i ≡ undone_all entries j
run_beginning i j [] r = r
run_beginning i j (e ∷ entries) r = is_undone i r.0 e r.1 ∙ ap (undone e) (run_beginning r.0 j entries r.2)

pub run_created : (i j : Inode) (entries : List EntryFields) → Run i entries j → i.created ≡ j.created
run_created i j [] r = ap (λ (k : Inode). k.created) r
run_created i j (e ∷ entries) r = r.1.created ∙ run_created r.0 j entries r.2

pub run_join : (i j k : Inode) (front back : List EntryFields) → Run i front j → Run j back k → Run i (front ++ back) k
run_join i j k [] back r s = subst (λ (x : Inode). Run x back k) (sym r) s
run_join i j k (e ∷ front) back r s = (r.0, r.1, run_join r.0 j k front back r.2 s)

pub redone_all-append : (i : Inode) (front back : List EntryFields) → redone_all (front ++ back) i ≡ redone_all back (redone_all front i)
redone_all-append i [] back = refl
redone_all-append i (e ∷ front) back = redone_all-append (redone e i) front back

pub run_part : (i k : Inode) (front back : List EntryFields) → Run i (front ++ back) k → Run i front (redone_all front i) × Run (redone_all front i) back k
run_part i k [] back r = (refl, r)
run_part i k (e ∷ front) back r =
    let is : r.0 ≡ redone e i = is_redone i r.0 e r.1 in
    let parts = run_part r.0 k front back r.2 in
    let same : redone_all front r.0 ≡ redone_all front (redone e i) = ap (redone_all front) is in
    ((r.0, r.1, subst (λ (x : Inode). Run r.0 front x) same parts.0), subst (λ (x : Inode). Run x back k) same parts.1)

pub push_undone : (j : Inode) (entries : List EntryFields) (e : EntryFields) → undone_all (entries ++ e ∷ []) j ≡ undone_all entries (undone e j)
push_undone j [] e = refl
push_undone j (f ∷ entries) e = ap (undone f) (push_undone j entries e)

-- ---- the inode at a moment

pub by_all : (t : ℕ) (entries : List EntryFields) → AllBy t entries → entries_by t entries ≡ entries
by_all t [] h = refl
by_all t (e ∷ entries) h = ap (λ b. cond b (e ∷ entries_by t entries) (entries_by t entries)) h.0 ∙ ap (λ es. e ∷ es) (by_all t entries h.1)

pub by_none : (t : ℕ) (entries : List EntryFields) → AllPast t entries → entries_by t entries ≡ []
by_none t [] h = refl
by_none t (e ∷ entries) h = ap (λ b. cond b (e ∷ entries_by t entries) (entries_by t entries)) h.0 ∙ by_none t entries h.1

pub all_by_later : (m t : ℕ) (entries : List EntryFields) → m ≤ t → AllBy m entries → AllBy t entries
all_by_later m t [] le h = tt
all_by_later m t (e ∷ entries) le h = (let by : e.moment ≤ m = leb-true e.moment m h.0 in le-leb e.moment t (omega arith), all_by_later m t entries le h.1)

pub all_done : (i : Inode) (entries : List EntryFields) (t : ℕ) → AllBy t entries → inode_after i entries t ≡ redone_all entries i
all_done i entries t h = ap (λ es. redone_all es i) (by_all t entries h)

append-nil : (entries : List EntryFields) → entries ++ [] ≡ entries
append-nil [] = refl
append-nil (e ∷ entries) = ap (λ es. e ∷ es) (append-nil entries)

pub later_nothing : (i : Inode) (entries later : List EntryFields) (t : ℕ) → AllPast t later → inode_after i (entries ++ later) t ≡ inode_after i entries t
later_nothing i entries later t h =
    ap (λ es. redone_all es i) (filter-append (entry_is_by t) entries later ∙ ap (λ es. entries_by t entries ++ es) (by_none t later h) ∙ append-nil (entries_by t entries))

pub since_last : (i : Inode) (entries : List EntryFields) (m t : ℕ) → AllBy m entries → m ≤ t → inode_after i entries t ≡ inode_after i entries m
since_last i entries m t h le = all_done i entries t (all_by_later m t entries le h) ∙ sym (all_done i entries m h)

pub after-append : (i : Inode) (front back : List EntryFields) (t : ℕ) → inode_after i (front ++ back) t ≡ inode_after (inode_after i front t) back t
after-append i front back t = ap (λ es. redone_all es i) (filter-append (entry_is_by t) front back) ∙ redone_all-append i (entries_by t front) (entries_by t back)

-- ---- where moments don't descend

past_all : (t : ℕ) (entries : List EntryFields) → AllPast t entries → entries_past t entries ≡ entries
past_all t [] h = refl
past_all t (e ∷ entries) h = ap (λ b. cond (not b) (e ∷ entries_past t entries) (entries_past t entries)) h.0 ∙ ap (λ es. e ∷ es) (past_all t entries h.1)

ascend_past : (low t : ℕ) (entries : List EntryFields) → t < low → moments_ascend_from low entries ≡ true → AllPast t entries
ascend_past low t [] lt h = tt
ascend_past low t (e ∷ entries) lt h =
    let parts = and_parts (leb low e.moment) (moments_ascend_from e.moment entries) h in
    let le : low ≤ e.moment = leb-true low e.moment parts.0 in
    (lt-leb e.moment t (omega arith), ascend_past e.moment t entries (omega arith) parts.1)

pub by_and_past : (entries : List EntryFields) (low t : ℕ) → moments_ascend_from low entries ≡ true → entries ≡ entries_by t entries ++ entries_past t entries
by_and_past [] low t h = refl
by_and_past (e ∷ entries) low t h =
    let parts = and_parts (leb low e.moment) (moments_ascend_from e.moment entries) h in
    elim (cases_Bool (leb e.moment t)) [
      | inl by ↦ (let front : entries_by t (e ∷ entries) ≡ e ∷ entries_by t entries = ap (λ b. cond b (e ∷ entries_by t entries) (entries_by t entries)) by in
          let behind : entries_past t (e ∷ entries) ≡ entries_past t entries = ap (λ b. cond (not b) (e ∷ entries_past t entries) (entries_past t entries)) by in
          ap (λ es. e ∷ es) (by_and_past entries e.moment t parts.1) ∙ sym (ap (λ es. es ++ entries_past t (e ∷ entries)) front ∙ ap (λ es. (e ∷ entries_by t entries) ++ es) behind))
      | inr past ↦ (let lt : t < e.moment = leb-false e.moment t past in
          let all : AllPast t (e ∷ entries) = (past, ascend_past e.moment t entries lt parts.1) in
          sym (ap (λ es. es ++ entries_past t (e ∷ entries)) (by_none t (e ∷ entries) all) ∙ past_all t (e ∷ entries) all))
    ]

pub run_at : (i k : Inode) (entries : List EntryFields) (low t : ℕ) → moments_ascend_from low entries ≡ true → Run i entries k → Run i (entries_by t entries) (inode_after i entries t) × Run (inode_after i entries t) (entries_past t entries) k
run_at i k entries low t h r = run_part i k (entries_by t entries) (entries_past t entries) (subst (λ (es : List EntryFields). Run i es k) (by_and_past entries low t h) r)

-- ---- the last entry

-- a run without its last entry ends with that entry undone
undone_last : (i k : Inode) (front : List EntryFields) (e : EntryFields) → Run i (front ++ e ∷ []) k → Run i front (undone e k)
undone_last i k front e r =
    let parts = run_part i k front (e ∷ []) r in
    let before : Inode = redone_all front i in
    let linked : Linked before e k = subst (λ (j : Inode). Linked before e j) parts.1.2 parts.1.1 in
    subst (λ (j : Inode). Run i front j) (is_undone before k e linked) parts.0

pub last_undone : (i k : Inode) (front : List EntryFields) (e : EntryFields) (t : ℕ) → AllPast t (e ∷ []) → Run i (front ++ e ∷ []) k → Run i front (undone e k) × (inode_after i (front ++ e ∷ []) t ≡ inode_after i front t)
last_undone i k front e t past r = (undone_last i k front e r, later_nothing i front (e ∷ []) t past)

below_last : (front : List EntryFields) (e : EntryFields) (low : ℕ) → moments_ascend_from low (front ++ e ∷ []) ≡ true → low ≤ e.moment
below_last [] e low h = leb-true low e.moment (and_parts (leb low e.moment) true h).0
below_last (f ∷ front) e low h =
    let parts = and_parts (leb low f.moment) (moments_ascend_from f.moment (front ++ e ∷ [])) h in
    let first : low ≤ f.moment = leb-true low f.moment parts.0 in
    let rest : f.moment ≤ e.moment = below_last front e f.moment parts.1 in
    omega (arith, first, rest)

all_by_last : (front : List EntryFields) (e : EntryFields) (low t : ℕ) → moments_ascend_from low (front ++ e ∷ []) ≡ true → e.moment ≤ t → AllBy t (front ++ e ∷ [])
all_by_last [] e low t h le = (le-leb e.moment t le, tt)
all_by_last (f ∷ front) e low t h le =
    let parts = and_parts (leb low f.moment) (moments_ascend_from f.moment (front ++ e ∷ [])) h in
    let rest : f.moment ≤ e.moment = below_last front e f.moment parts.1 in
    (le-leb f.moment t (omega (arith, rest, le)), all_by_last front e f.moment t parts.1 le)

pub last_stays : (i k : Inode) (front : List EntryFields) (e : EntryFields) (low t : ℕ) → moments_ascend_from low (front ++ e ∷ []) ≡ true → e.moment ≤ t → Run i (front ++ e ∷ []) k → inode_after i (front ++ e ∷ []) t ≡ k
last_stays i k front e low t h le r = all_done i (front ++ e ∷ []) t (all_by_last front e low t h le) ∙ sym (run_end i k (front ++ e ∷ []) r)
