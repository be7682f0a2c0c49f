-- The entries between two inodes, as the code makes them: each tells the next piece of the pointers that differ.
use Rattle.std.proofs.Common.{◌≡◌, ◌≢◌, ℕ, suc, ◌+◌, ◌-◌, ◌<◌, ◌≤◌, true, cond, min, inl, inr, List, [], ◌∷◌, ◌++◌, length, take, drop, Option, Some, None, refl, sym, ap, subst, ◌∙◌, append_assoc, arith}
use Rattle.std.specs.Prelude.{is_some}
use Rattle.std.specs.List.{AllByRecursion}
use Rattle.std.proofs.lemmas.List.{append-nil, length-append, length-take, length-drop, take_at, drop_at, take_all, drop_all}
use Rattle.std.proofs.lemmas.Bool.{cond-true}
use Rattle.std.proofs.lemmas.Option.{cond_some, none-some}
use Rattle.s4_types.specs.declared.limits.TheConstants.{OBJECT_BLOCKS, ENTRY_TRIPLES, CHANGE_ENTRIES}
use Rattle.codec.specs.declared.inodes.Inode.{Inode}
use Rattle.codec.specs.declared.entries.Triple.{Triple}
use Rattle.codec.specs.Fields.{Reads}
use Rattle.codec.specs.Entry.{EntryFields, entry_rules, checked_entry}
use Rattle.undo_redo.specs.Between.{triple_between, tells_apart, triples_between, leading_entry, further_entry, later_entries, entries_between, AreSameOutside, CanLead}
use Rattle.undo_redo.specs.private.Checking.{checked_between}
use Rattle.undo_redo.specs.private.Further.{AreLeft, AreSameFrom, triples_from, entries_from}
use Rattle.undo_redo.proofs.Differing.{from_all, from_more, from_none, from_first}
use Rattle.undo_redo.proofs.BetweenLaws.{can_keep, later_none, later_more, later_rules, between_count}

-- ---- pieces

-- one pointer more is tried, and kept where it differs
pub piece_more : (i j : Inode) (n : ℕ) (t : Triple) (old new all : List Triple) → n < OBJECT_BLOCKS → t ≡ triple_between i j n → new ≡ old ++ cond (tells_apart t) (t ∷ []) [] → old ++ triples_from n i j ≡ all → new ++ triples_from (n + 1) i j ≡ all
piece_more i j n t old new all lt is put h =
    let here : List Triple = cond (tells_apart (triple_between i j n)) (triple_between i j n ∷ []) [] in
    let kept : new ≡ old ++ here = put ∙ ap (λ (u : Triple). old ++ cond (tells_apart u) (u ∷ []) []) is in
    ap (λ (ts : List Triple). ts ++ triples_from (n + 1) i j) kept ∙ append_assoc old here (triples_from (n + 1) i j) ∙ ap (λ (ts : List Triple). old ++ ts) (sym (from_more i j n lt)) ∙ h

-- triples are the first piece of a list, and others are left
pub record IsCut (piece rest all : List Triple) : Type 0 where
  pub front : piece ≡ take ENTRY_TRIPLES all
  pub back : rest ≡ drop ENTRY_TRIPLES all

pub cut_full : (piece rest all : List Triple) → piece ++ rest ≡ all → length piece ≤ ENTRY_TRIPLES → ENTRY_TRIPLES ≤ length piece → IsCut piece rest all
cut_full piece rest all h most least =
    let count : length piece ≡ ENTRY_TRIPLES = omega (arith, most, least) in
    record {
      front = sym (take_at piece rest ENTRY_TRIPLES count) ∙ ap (λ (ts : List Triple). take ENTRY_TRIPLES ts) h;
      back = sym (drop_at piece rest ENTRY_TRIPLES count) ∙ ap (λ (ts : List Triple). drop ENTRY_TRIPLES ts) h;
    }

pub cut_end : (i j : Inode) (n end : ℕ) (piece all : List Triple) → piece ++ triples_from n i j ≡ all → length piece ≤ ENTRY_TRIPLES → AreSameFrom end i j → end ≤ n → IsCut piece (triples_from end i j) all
cut_end i j n end piece all h most same le =
    let whole : piece ≡ all = sym (append-nil piece) ∙ ap (λ (ts : List Triple). piece ++ ts) (sym (from_none i j end n same le)) ∙ h in
    record {
      front = sym (take_all ENTRY_TRIPLES piece most) ∙ ap (λ (ts : List Triple). take ENTRY_TRIPLES ts) whole;
      back = from_none i j end end same (omega arith) ∙ sym (drop_all ENTRY_TRIPLES piece most) ∙ ap (λ (ts : List Triple). drop ENTRY_TRIPLES ts) whole;
    }

-- ---- the range that is compared

-- beyond the last index there is nothing to compare
pub same_beyond : (i j : Inode) → AreSameFrom OBJECT_BLOCKS i j
same_beyond i j k le lt = absurd (omega (arith, le, lt))

pub same_outside_all : (i j : Inode) → AreSameOutside 0 OBJECT_BLOCKS i j
same_outside_all i j k lt (inl low) = absurd (omega (arith, low))
same_outside_all i j k lt (inr high) = absurd (omega (arith, high, lt))

pub same_from : (i j : Inode) (first end : ℕ) → AreSameOutside first end i j → AreSameFrom end i j
same_from i j first end same k le lt = same k lt (inr le)

-- those that differ from the range's first index on are all of them
pub from_range : (i j : Inode) (first end : ℕ) → first ≤ OBJECT_BLOCKS → AreSameOutside first end i j → triples_from first i j ≡ triples_from 0 i j
from_range i j first end le same = from_first i j first le (λ k lt. same k (omega (arith, le, lt)) (inl lt))

-- what is left of the range is left of all
pub left_of : (i j : Inode) (first from : ℕ) → triples_from first i j ≡ triples_from 0 i j → triples_from from i j ≡ drop ENTRY_TRIPLES (triples_from first i j) → triples_from from i j ≡ drop ENTRY_TRIPLES (triples_from 0 i j)
left_of i j first from whole cut = cut ∙ ap (λ (ts : List Triple). drop ENTRY_TRIPLES ts) whole

-- ---- the first entry

pub checked_some : (e x : EntryFields) → checked_entry e ≡ Some x → (entry_rules e ≡ true) × (x ≡ e)
checked_some e x h = let parts = cond_some (entry_rules e) e x h in (parts.0, sym parts.1)

pub first_piece : (i j : Inode) (piece : List Triple) → piece ≡ take ENTRY_TRIPLES (triples_from 0 i j) → piece ≡ take ENTRY_TRIPLES (triples_between i j)
first_piece i j piece is = is ∙ ap (λ (ts : List Triple). take ENTRY_TRIPLES ts) (from_all i j)

pub first_found : (i j : Inode) (m : ℕ) (r : Option EntryFields) → CanLead i j m → Reads (λ e. e) r (checked_entry (leading_entry i j m)) → is_some r ≡ true
first_found i j m None can h = absurd (none-some (leading_entry i j m) (sym h ∙ cond-true (entry_rules (leading_entry i j m)) (Some (leading_entry i j m)) None (can_keep i j m can)))
first_found i j m (Some e) can h = refl

pub first_is : (i j : Inode) (m : ℕ) (r : Option EntryFields) (e : EntryFields) → Reads (λ x. x) r (checked_entry (leading_entry i j m)) → r ≡ Some e → e ≡ leading_entry i j m
first_is i j m r e h is =
    let read : checked_entry (leading_entry i j m) ≡ Some e = subst (λ (x : Option EntryFields). Reads (λ y. y) x (checked_entry (leading_entry i j m))) is h in
    (checked_some (leading_entry i j m) e read).1

-- ---- the others

others_are : (i j : Inode) (m end : ℕ) → triples_from end i j ≡ drop ENTRY_TRIPLES (triples_from 0 i j) → entries_from i j m end ≡ later_entries j m (drop ENTRY_TRIPLES (triples_between i j))
unfolding entries_from
others_are i j m end cut = ap (λ (ts : List Triple). later_entries j m ts) (cut ∙ ap (λ (ts : List Triple). drop ENTRY_TRIPLES ts) (from_all i j))

-- they keep the rules where the first one does
pub others_keep : (i j : Inode) (m end : ℕ) → triples_from end i j ≡ drop ENTRY_TRIPLES (triples_from 0 i j) → entry_rules (leading_entry i j m) ≡ true → AllByRecursion (λ e. entry_rules e ≡ true) (entries_from i j m end)
others_keep i j m end cut h = subst (λ (es : List EntryFields). AllByRecursion (λ e. entry_rules e ≡ true) es) (sym (others_are i j m end cut)) (later_rules i j m h)

pub all_told : (i j : Inode) (m end : ℕ) (e : EntryFields) → triples_from end i j ≡ drop ENTRY_TRIPLES (triples_from 0 i j) → e ≡ leading_entry i j m → e ∷ entries_from i j m end ≡ entries_between i j m
unfolding entries_between
all_told i j m end e cut is = ap (λ (x : EntryFields). x ∷ entries_from i j m end) is ∙ ap (λ (es : List EntryFields). leading_entry i j m ∷ es) (others_are i j m end cut)

-- the next of them tells the next piece
pub next_made : (i j : Inode) (m n end : ℕ) (piece : List Triple) → piece ≡ take ENTRY_TRIPLES (triples_from n i j) → triples_from end i j ≡ drop ENTRY_TRIPLES (triples_from n i j) → length piece ≢ 0 → entries_from i j m n ≡ further_entry j m piece ∷ entries_from i j m end
unfolding entries_from
next_made i j m n end piece is cut some =
    let count : length piece ≡ min ENTRY_TRIPLES (length (triples_from n i j)) = ap (λ (ts : List Triple). length ts) is ∙ length-take ENTRY_TRIPLES (triples_from n i j) in
    later_more j m (triples_from n i j) (omega (arith, count, some)) ∙ ap (λ (ts : List Triple). further_entry j m ts ∷ later_entries j m (drop ENTRY_TRIPLES (triples_from n i j))) (sym is)
    ∙ ap (λ (ts : List Triple). further_entry j m piece ∷ later_entries j m ts) (sym cut)

-- where no pointer is left, none of them is
pub none_left : (i j : Inode) (m n : ℕ) (piece : List Triple) → piece ≡ take ENTRY_TRIPLES (triples_from n i j) → length piece ≡ 0 → entries_from i j m n ≡ []
unfolding entries_from
none_left i j m n piece is none =
    let count : length piece ≡ min ENTRY_TRIPLES (length (triples_from n i j)) = ap (λ (ts : List Triple). length ts) is ∙ length-take ENTRY_TRIPLES (triples_from n i j) in
    later_none j m (triples_from n i j) (omega (arith, count, none))

pub none_behind : (i j : Inode) (m n end : ℕ) (piece : List Triple) → piece ≡ take ENTRY_TRIPLES (triples_from n i j) → triples_from end i j ≡ drop ENTRY_TRIPLES (triples_from n i j) → length piece ≡ 0 → entries_from i j m end ≡ []
unfolding entries_from
none_behind i j m n end piece is cut none =
    let count : length piece ≡ min ENTRY_TRIPLES (length (triples_from n i j)) = ap (λ (ts : List Triple). length ts) is ∙ length-take ENTRY_TRIPLES (triples_from n i j) in
    let left : length (triples_from end i j) ≡ length (triples_from n i j) - ENTRY_TRIPLES = ap (λ (ts : List Triple). length ts) cut ∙ length-drop ENTRY_TRIPLES (triples_from n i j) in
    later_none j m (triples_from end i j) (omega (arith, count, left, none))

-- from the end on none is left
pub ended : (i j : Inode) (m from end : ℕ) → AreLeft i j m from end → end ≤ from → entries_from i j m from ≡ []
unfolding entries_from
ended i j m from end left le = later_none j m (triples_from from i j) (ap (λ (ts : List Triple). length ts) (from_none i j end from left.same le))

-- the next keeps the rules, and so do those after it
pub next_keep : (i j : Inode) (m n end : ℕ) (piece : List Triple) → piece ≡ take ENTRY_TRIPLES (triples_from n i j) → triples_from end i j ≡ drop ENTRY_TRIPLES (triples_from n i j) → length piece ≢ 0 → AllByRecursion (λ e. entry_rules e ≡ true) (entries_from i j m n) → (entry_rules (further_entry j m piece) ≡ true) × AllByRecursion (λ e. entry_rules e ≡ true) (entries_from i j m end)
next_keep i j m n end piece is cut some h = subst (λ (es : List EntryFields). AllByRecursion (λ e. entry_rules e ≡ true) es) (next_made i j m n end piece is cut some) h

pub none_keep : (i j : Inode) (m n end : ℕ) (piece : List Triple) → piece ≡ take ENTRY_TRIPLES (triples_from n i j) → triples_from end i j ≡ drop ENTRY_TRIPLES (triples_from n i j) → length piece ≡ 0 → AllByRecursion (λ e. entry_rules e ≡ true) (entries_from i j m end)
none_keep i j m n end piece is cut none = subst (λ (es : List EntryFields). AllByRecursion (λ e. entry_rules e ≡ true) es) (sym (none_behind i j m n end piece is cut none)) tt

-- ---- all in one list

pub kept_made : (i j : Inode) (m : ℕ) (e : EntryFields) (made : List EntryFields) → checked_entry (leading_entry i j m) ≡ Some e → made ≡ entries_between i j m → checked_between i j m ≡ Some made
kept_made i j m e made h is = cond-true (entry_rules (leading_entry i j m)) (Some (entries_between i j m)) None (checked_some (leading_entry i j m) e h).0 ∙ ap (λ (es : List EntryFields). Some es) (sym is)

-- the next entry goes after those that stand
pub one_more : (old new left rest all : List EntryFields) (e : EntryFields) → old ++ left ≡ all → left ≡ e ∷ rest → new ≡ old ++ e ∷ [] → new ++ rest ≡ all
one_more old new left rest all e h is put = ap (λ (es : List EntryFields). es ++ rest) put ∙ append_assoc old (e ∷ []) rest ∙ ap (λ (es : List EntryFields). old ++ es) (sym is) ∙ h

-- and there is room for it
pub one_fits : (i j : Inode) (m : ℕ) (old left rest : List EntryFields) (e : EntryFields) → old ++ left ≡ entries_between i j m → left ≡ e ∷ rest → length old < CHANGE_ENTRIES
one_fits i j m old left rest e h is =
    let most : length (entries_between i j m) ≤ CHANGE_ENTRIES = (between_count i j m).1 in
    let count : length old + length left ≡ length (entries_between i j m) = sym (length-append old left) ∙ ap (λ (es : List EntryFields). length es) h in
    let some : length left ≡ suc (length rest) = ap (λ (es : List EntryFields). length es) is in
    omega (arith, most, count, some)
