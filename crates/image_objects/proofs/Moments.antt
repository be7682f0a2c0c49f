-- The inodes of a chain that are current at some moment, one after another.
use Rattle.std.proofs.Common.{◌≡◌, ℕ, ◌+◌, ◌<◌, ◌≤◌, true, leb, cond, inl, inr, List, [], ◌∷◌, length, drop, get_or, refl, sym, ap, ◌∙◌, subst, arith}
use Rattle.std.specs.List.{filter}
use Rattle.std.proofs.lemmas.Bool.{cases_Bool, and_parts, leb-true, leb-false, le-leb, lt-leb}
use Rattle.std.proofs.lemmas.List.{drop_all}
use Rattle.codec.specs.declared.inodes.Inode.{Inode}
use Rattle.codec.specs.Entry.{EntryFields}
use Rattle.lemmas.proofs.List.{drop_next}
use Rattle.undo_redo.specs.Redone.{redone}
use Rattle.undo_redo.specs.Runs.{entry_is_by, inode_after, redone_all, moments_ascend_from}

-- P holds of each inode that is current at some moment from a first one on, where that is this inode's, and these entries
-- follow it.
abbrev pub HoldsFrom : (Inode → Type 0) → ℕ → Inode → List EntryFields → Type 0
HoldsFrom P first i [] = P i
HoldsFrom P first i (e ∷ entries) = (first < e.moment → P i) × HoldsFrom P e.moment (redone e i) entries

-- ---- the inode at a moment

by_here : (i : Inode) (e : EntryFields) (entries : List EntryFields) (t : ℕ) → e.moment ≤ t → inode_after i (e ∷ entries) t ≡ inode_after (redone e i) entries t
by_here i e entries t le = ap (λ b. redone_all (cond b (e ∷ filter (entry_is_by t) entries) (filter (entry_is_by t) entries)) i) (le-leb e.moment t le)

past_here : (i : Inode) (e : EntryFields) (entries : List EntryFields) (t : ℕ) → t < e.moment → inode_after i (e ∷ entries) t ≡ inode_after i entries t
past_here i e entries t lt = ap (λ b. redone_all (cond b (e ∷ filter (entry_is_by t) entries) (filter (entry_is_by t) entries)) i) (lt-leb e.moment t lt)

later_alone : (low : ℕ) (i : Inode) (entries : List EntryFields) (t : ℕ) → moments_ascend_from low entries ≡ true → t < low → inode_after i entries t ≡ i
later_alone low i [] t ascend lt = refl
later_alone low i (e ∷ entries) t ascend lt =
    let parts = and_parts (leb low e.moment) (moments_ascend_from e.moment entries) ascend in
    let le : low ≤ e.moment = leb-true low e.moment parts.0 in
    past_here i e entries t (omega (arith, le, lt)) ∙ later_alone e.moment i entries t parts.1 (omega (arith, le, lt))

pub at_each : (P : Inode → Type 0) (first : ℕ) (i : Inode) (entries : List EntryFields) → moments_ascend_from first entries ≡ true → HoldsFrom P first i entries → (t : ℕ) → first ≤ t → P (inode_after i entries t)
at_each P first i [] ascend holds t le = holds
at_each P first i (e ∷ entries) ascend holds t le =
    let parts = and_parts (leb first e.moment) (moments_ascend_from e.moment entries) ascend in
    elim (cases_Bool (leb e.moment t)) [
      | inl by ↦ (let here : e.moment ≤ t = leb-true e.moment t by in
          subst P (sym (by_here i e entries t here)) (at_each P e.moment (redone e i) entries parts.1 holds.1 t here))
      | inr past ↦ (let later : t < e.moment = leb-false e.moment t past in
          subst P (sym (past_here i e entries t later ∙ later_alone e.moment i entries t parts.1 later)) (holds.0 (omega (arith, le, later))))
    ]

pub from_each : (P : Inode → Type 0) (first : ℕ) (i : Inode) (entries : List EntryFields) → moments_ascend_from first entries ≡ true → ((t : ℕ) → first ≤ t → P (inode_after i entries t)) → HoldsFrom P first i entries
from_each P first i [] ascend all = all first (omega arith)
from_each P first i (e ∷ entries) ascend all =
    let parts = and_parts (leb first e.moment) (moments_ascend_from e.moment entries) ascend in
    let le : first ≤ e.moment = leb-true first e.moment parts.0 in (
      λ before. subst P (past_here i e entries first before ∙ later_alone e.moment i entries first parts.1 before) (all first (omega arith)),
      from_each P e.moment (redone e i) entries parts.1 (λ t from. subst P (by_here i e entries t from) (all t (omega (arith, le, from)))),
    )

-- ---- one entry more

-- what the inodes from here on tell of all, and the other way round
pub record Judged (P : Inode → Type 0) (start : Inode) (entries : List EntryFields) (i first : ℕ) (inode : Inode) : Type 0 where
  pub is : HoldsFrom P first inode (drop i entries) → HoldsFrom P 0 start entries
  pub only : HoldsFrom P 0 start entries → HoldsFrom P first inode (drop i entries)

pub begun : (P : Inode → Type 0) (start : Inode) (entries : List EntryFields) (first : ℕ) → first ≡ 0 → Judged P start entries 0 first start
begun P start entries first zero_is = record {
  is = subst (λ n. HoldsFrom P n start entries → HoldsFrom P 0 start entries) (sym zero_is) (λ h. h);
  only = subst (λ n. HoldsFrom P 0 start entries → HoldsFrom P n start entries) (sym zero_is) (λ h. h);
}

pub judged_more : (P : Inode → Type 0) (start : Inode) (entries : List EntryFields) (i first : ℕ) (inode next : Inode) (e : EntryFields) → i < length entries → e ≡ get_or entries i e → next ≡ redone e inode → Judged P start entries i first inode
    → (first < e.moment → P inode) → Judged P start entries (i + 1) e.moment next
judged_more P start entries i first inode next e lt is made j here =
    let rest = drop (i + 1) entries in
    let step : drop i entries ≡ e ∷ rest = drop_next entries i e lt is in
    record {
      is = λ h. j.is (subst (λ (es : List EntryFields). HoldsFrom P first inode es) (sym step) (here, subst (λ (n : Inode). HoldsFrom P e.moment n rest) made h));
      only = λ h. subst (λ (n : Inode). HoldsFrom P e.moment n rest) (sym made) (subst (λ (es : List EntryFields). HoldsFrom P first inode es) step (j.only h)).1;
    }

-- where P holds of the inodes of all moments, it does of the next that is current
pub next_holds : (P : Inode → Type 0) (start : Inode) (entries : List EntryFields) (i first : ℕ) (inode : Inode) (e : EntryFields) → i < length entries → e ≡ get_or entries i e → moments_ascend_from 0 entries ≡ true → Judged P start entries i first inode
    → ((t : ℕ) → P (inode_after start entries t)) → first < e.moment → P inode
next_holds P start entries i first inode e lt is ascend j all =
    (subst (λ (es : List EntryFields). HoldsFrom P first inode es) (drop_next entries i e lt is) (j.only (from_each P 0 start entries ascend (λ t from. all t)))).0

-- and of the last
pub last_holds : (P : Inode → Type 0) (start : Inode) (entries : List EntryFields) (i first : ℕ) (inode : Inode) → length entries ≤ i → moments_ascend_from 0 entries ≡ true → Judged P start entries i first inode
    → ((t : ℕ) → P (inode_after start entries t)) → P inode
last_holds P start entries i first inode end ascend j all =
    subst (λ (es : List EntryFields). HoldsFrom P first inode es) (drop_all i entries end) (j.only (from_each P 0 start entries ascend (λ t from. all t)))

pub all_hold : (P : Inode → Type 0) (start : Inode) (entries : List EntryFields) (i first : ℕ) (inode : Inode) → length entries ≤ i → moments_ascend_from 0 entries ≡ true → Judged P start entries i first inode
    → P inode → (t : ℕ) → P (inode_after start entries t)
all_hold P start entries i first inode end ascend j last t =
    at_each P 0 start entries ascend (j.is (subst (λ (es : List EntryFields). HoldsFrom P first inode es) (sym (drop_all i entries end)) last)) t (omega arith)
