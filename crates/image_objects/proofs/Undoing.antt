-- Entries up to a moment, undone and done again one after another; and two inodes, field by field.
use Rattle.std.proofs.Common.{◌≡◌, ℕ, ◌+◌, ◌<◌, ◌≤◌, leb, cond, List, [], ◌∷◌, ◌++◌, length, get_or, drop, refl, sym, ap, ◌∙◌}
use Rattle.std.proofs.lemmas.Bool.{le-leb, lt-leb}
use Rattle.std.proofs.lemmas.List.{drop_more, append-nil}
use Rattle.std.proofs.lemmas.List.Elements.{filter-append}
use Rattle.codec.specs.declared.inodes.Inode.{Inode}
use Rattle.codec.specs.Entry.{EntryFields}
use Rattle.undo_redo.specs.Redone.{redone, undone}
use Rattle.undo_redo.specs.Runs.{redone_all, undone_all, entry_is_by, entries_by}
use Rattle.undo_redo.proofs.ComposeLaws.{redone_count}
use Rattle.undo_redo.proofs.RunLaws.{push_undone}

-- ---- undone

pub undone_here : (at : ℕ) (j : Inode) (entries : List EntryFields) (e : EntryFields) → e.moment ≤ at → undone_all (entries_by at (entries ++ e ∷ [])) j ≡ undone_all (entries_by at entries) (undone e j)
undone_here at j entries e le =
    ap (λ (es : List EntryFields). undone_all es j) (filter-append (entry_is_by at) entries (e ∷ []) ∙ ap (λ b. entries_by at entries ++ cond b (e ∷ []) []) (le-leb e.moment at le))
    ∙ push_undone j (entries_by at entries) e

pub undone_past : (at : ℕ) (j : Inode) (entries : List EntryFields) (e : EntryFields) → at < e.moment → undone_all (entries_by at (entries ++ e ∷ [])) j ≡ undone_all (entries_by at entries) j
undone_past at j entries e lt =
    ap (λ (es : List EntryFields). undone_all es j) (filter-append (entry_is_by at) entries (e ∷ []) ∙ ap (λ b. entries_by at entries ++ cond b (e ∷ []) []) (lt-leb e.moment at lt) ∙ append-nil (entries_by at entries))

-- ---- done again

pub next_by : (at i : ℕ) (entries : List EntryFields) (e : EntryFields) → i < length entries → e ≡ get_or entries i e → entries_by at (drop i entries) ≡ cond (leb e.moment at) (e ∷ entries_by at (drop (i + 1) entries)) (entries_by at (drop (i + 1) entries))
next_by at i entries e lt is = ap (entries_by at) (drop_more entries i e lt ∙ ap (λ (x : EntryFields). x ∷ drop (i + 1) entries) (sym is))

pub redone_here : (at i : ℕ) (j : Inode) (entries : List EntryFields) (e : EntryFields) → i < length entries → e ≡ get_or entries i e → e.moment ≤ at → redone_all (entries_by at (drop (i + 1) entries)) (redone e j) ≡ redone_all (entries_by at (drop i entries)) j
redone_here at i j entries e lt is le =
    sym (ap (λ (es : List EntryFields). redone_all es j) (next_by at i entries e lt is ∙ ap (λ b. cond b (e ∷ entries_by at (drop (i + 1) entries)) (entries_by at (drop (i + 1) entries))) (le-leb e.moment at le)))

pub redone_past : (at i : ℕ) (j : Inode) (entries : List EntryFields) (e : EntryFields) → i < length entries → e ≡ get_or entries i e → at < e.moment → redone_all (entries_by at (drop (i + 1) entries)) j ≡ redone_all (entries_by at (drop i entries)) j
redone_past at i j entries e lt is past =
    sym (ap (λ (es : List EntryFields). redone_all es j) (next_by at i entries e lt is ∙ ap (λ b. cond b (e ∷ entries_by at (drop (i + 1) entries)) (entries_by at (drop (i + 1) entries))) (lt-leb e.moment at past)))

-- ---- as many pointers

pub count_all_redone : (entries : List EntryFields) (j : Inode) → length (redone_all entries j).pointers ≡ length j.pointers
count_all_redone [] j = refl
count_all_redone (e ∷ entries) j = count_all_redone entries (redone e j) ∙ redone_count e j
