-- A run, one entry after another.
use Rattle.std.proofs.Common.{◌≡◌, ℕ, ◌+◌, ◌<◌, ◌≤◌, List, [], ◌∷◌, ◌++◌, length, take, drop, get_or, refl, sym, ap, ◌∙◌, subst}
use Rattle.std.specs.Prelude.{◌↔◌}
use Rattle.std.proofs.lemmas.List.{take_more, drop_more, take_all, take-append-drop}
use Rattle.codec.specs.declared.inodes.Inode.{Inode}
use Rattle.codec.specs.Entry.{EntryFields}
use Rattle.undo_redo.specs.Linked.{Linked, StandsBefore}
use Rattle.undo_redo.specs.Redone.{redone}
use Rattle.undo_redo.specs.Runs.{Run, redone_all}

abbrev pub Join : Type 0
Join = (i j k : Inode) (front back : List EntryFields) → Run i front j → Run j back k → Run i (front ++ back) k

abbrev pub Part : Type 0
Part = (i k : Inode) (front back : List EntryFields) → Run i (front ++ back) k → Run i front (redone_all front i) × Run (redone_all front i) back k

abbrev pub Forth : Type 0
Forth = (i j : Inode) (e : EntryFields) → Linked i e j ↔ StandsBefore i e × (j ≡ redone e i)

pub run_more : Join → (first inode next : Inode) (entries : List EntryFields) (i : ℕ) (e : EntryFields) → i < length entries → e ≡ get_or entries i e → Run first (take i entries) inode → Linked inode e next → Run first (take (i + 1) entries) next
run_more join first inode next entries i e lt is run link =
    let longer : take (i + 1) entries ≡ take i entries ++ e ∷ [] = take_more entries i e lt ∙ ap (λ (x : EntryFields). take i entries ++ x ∷ []) (sym is) in
    subst (λ (es : List EntryFields). Run first es next) (sym longer) (join first inode next (take i entries) (e ∷ []) run (next, link, refl))

pub run_whole : (first inode : Inode) (entries : List EntryFields) (i : ℕ) → length entries ≤ i → Run first (take i entries) inode → inode ≡ redone_all (take i entries) first → Run first entries (redone_all entries first)
run_whole first inode entries i le run is =
    let whole : take i entries ≡ entries = take_all i entries le in
    subst (λ (es : List EntryFields). Run first es (redone_all es first)) whole (subst (λ (x : Inode). Run first (take i entries) x) is run)

first_stands : Forth → (i k : Inode) (e : EntryFields) (entries : List EntryFields) → Run i (e ∷ entries) k → StandsBefore i e
first_stands forth i k e entries r = ((forth i r.0 e).0 r.1).0

pub stands_there : Part → Forth → (first last inode : Inode) (entries : List EntryFields) (i : ℕ) (e : EntryFields) → i < length entries → e ≡ get_or entries i e → inode ≡ redone_all (take i entries) first → Run first entries last → StandsBefore inode e
stands_there part forth first last inode entries i e lt is at run =
    let parted : Run first (take i entries ++ drop i entries) last = subst (λ (es : List EntryFields). Run first es last) (sym (take-append-drop i entries)) run in
    let behind : Run (redone_all (take i entries) first) (drop i entries) last = (part first last (take i entries) (drop i entries) parted).1 in
    let next : drop i entries ≡ e ∷ drop (i + 1) entries = drop_more entries i e lt ∙ ap (λ (x : EntryFields). x ∷ drop (i + 1) entries) (sym is) in
    subst (λ (x : Inode). StandsBefore x e) (sym at) (first_stands forth (redone_all (take i entries) first) last e (drop (i + 1) entries) (subst (λ (es : List EntryFields). Run (redone_all (take i entries) first) es last) next behind))
