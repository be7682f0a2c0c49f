-- Leading from one inode of a run to another one.
use Rattle.std.proofs.Common.{◌≡◌, ℕ, ◌-◌, ◌≤◌, List, ◌++◌, length, take, drop, sym, ap, subst, ◌∙◌, arith}
use Rattle.std.proofs.Math.Seq.{take-add}
use Rattle.std.proofs.lemmas.List.Sums.{length-filter, count_by-le-length}
use Rattle.std.proofs.lemmas.List.{take-append-drop}
use Rattle.codec.specs.declared.inodes.Inode.{Inode}
use Rattle.codec.specs.Entry.{EntryFields}
use Rattle.undo_redo.specs.Runs.{Run, redone_all, entries_by, entry_is_by}
use Rattle.time_read.specs.Orderly.{inode_behind}

-- the entries between two places of a list
abbrev pub between : List EntryFields → ℕ → ℕ → List EntryFields
between entries a b = take (b - a) (drop a entries)

abbrev pub RunsPart : Type 0
RunsPart = (i k : Inode) (front back : List EntryFields) → Run i (front ++ back) k → Run i front (redone_all front i) × Run (redone_all front i) back k

abbrev pub RunsJoin : Type 0
RunsJoin = (i : Inode) (front back : List EntryFields) → redone_all (front ++ back) i ≡ redone_all back (redone_all front i)

cut : (entries : List EntryFields) (a b : ℕ) → a ≤ b → take b entries ≡ take a entries ++ between entries a b
cut entries a b le = ap (λ (n : ℕ). take n entries) (omega (arith, le)) ∙ take-add a (b - a) entries

-- the entries between two places, done again, lead from the inode after the first place to the one after the second
pub led_on : RunsJoin → (entries : List EntryFields) (a b : ℕ) (first : Inode) → a ≤ b → redone_all (between entries a b) (inode_behind first entries a) ≡ inode_behind first entries b
led_on join entries a b first le = sym (ap (λ (es : List EntryFields). redone_all es first) (cut entries a b le) ∙ join first (take a entries) (between entries a b))

-- the entries between two places are a run between these two inodes
pub run_between : RunsPart → RunsJoin → (entries : List EntryFields) (a b : ℕ) (first last : Inode) → a ≤ b → Run first entries last → Run (inode_behind first entries a) (between entries a b) (inode_behind first entries b)
run_between part join entries a b first last le run =
    let whole = part first last (take b entries) (drop b entries) (subst (λ (es : List EntryFields). Run first es last) (sym (take-append-drop b entries)) run) in
    let parts = part first (inode_behind first entries b) (take a entries) (between entries a b) (subst (λ (es : List EntryFields). Run first es (inode_behind first entries b)) (cut entries a b le) whole.0) in
    parts.1

-- there are no more entries up to a moment than there are entries
pub few_by : (t : ℕ) (entries : List EntryFields) → length (entries_by t entries) ≤ length entries
few_by t entries = omega (arith, length-filter (entry_is_by t) entries, count_by-le-length (entry_is_by t) entries)
