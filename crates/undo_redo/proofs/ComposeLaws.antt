-- The entries between the two ends of a run are told by its entries alone.
use Rattle.std.proofs.Common.{◌≡◌, ℕ, zero, suc, ◌-◌, ◌<◌, Bool, true, false, inl, inr, List, [], ◌∷◌, length, map, take, drop, get_or, replicate, Option, Some, None, refl, sym, ap, subst, ◌∙◌, arith}
use Rattle.std.specs.Prelude.{◌↔◌, IsSome, IfSome, slice_get}
use Rattle.std.proofs.lemmas.List.{length-replicate}
use Rattle.std.proofs.lemmas.Option.{same_Some, none-some}
use Rattle.std.proofs.lemmas.Bool.{both_ways}
use Rattle.s4_types.specs.Pointer.{Place}
use Rattle.s4_types.specs.declared.limits.TheConstants.{OBJECT_BLOCKS, ENTRY_TRIPLES}
use Rattle.codec.specs.declared.inodes.Inode.{Inode}
use Rattle.codec.specs.declared.entries.Status.{Status}
use Rattle.codec.specs.declared.entries.Pair.{Pair}
use Rattle.codec.specs.declared.entries.Triple.{Triple}
use Rattle.codec.specs.Fields.{Reads, kept}
use Rattle.codec.specs.Checkpoint.{pointer_at, holes}
use Rattle.codec.specs.Entry.{EntryFields, entry_rules}
use Rattle.codec.proofs.Slots.{kept_is}
use Rattle.undo_redo.specs.Linked.{status_of, pointer_after, pointer_before}
use Rattle.undo_redo.specs.Redone.{attribute_after, attribute_before, redone, undone}
use Rattle.undo_redo.specs.Runs.{Run, redone_all, undone_all, last_moment, AllAt, blank, told_first, told_last}
use Rattle.undo_redo.specs.Groups.{grouped}
use Rattle.undo_redo.specs.Between.{pair_between, triples_between, leading_entry, further_entry, pieces, later_entries, entries_between, CanLead}
use Rattle.undo_redo.specs.private.Checking.{checked_between}
use Rattle.undo_redo.proofs.Pointers.{length-with_after, length-with_before, at-with_after, at-with_before, Either, either_both, told_or_not}
use Rattle.undo_redo.proofs.Slots.{pair_none}
use Rattle.undo_redo.proofs.Differing.{AgreeAt, between_agrees}
use Rattle.undo_redo.proofs.RunLaws.{run_end, run_beginning, run_created}
use Rattle.undo_redo.proofs.BetweenLaws.{between_run, can_keep, keep_can, keep_grouped, between_at}

-- ---- what a list of entries makes of one part

attributes_after : List EntryFields → List ℕ → List ℕ
attributes_after [] a = a
attributes_after (e ∷ entries) a = attributes_after entries (attribute_after e.pair a)

attributes_before : List EntryFields → List ℕ → List ℕ
attributes_before [] a = a
attributes_before (e ∷ entries) a = attribute_before e.pair (attributes_before entries a)

pointers_after : List EntryFields → ℕ → Option Place → Option Place
pointers_after [] n p = p
pointers_after (e ∷ entries) n p = pointers_after entries n (pointer_after e.triples n p)

pointers_before : List EntryFields → ℕ → Option Place → Option Place
pointers_before [] n p = p
pointers_before (e ∷ entries) n p = pointer_before e.triples n (pointers_before entries n p)

redone_attribute : (entries : List EntryFields) (i : Inode) → (redone_all entries i).attribute ≡ attributes_after entries i.attribute
unfolding attributes_after redone
redone_attribute [] i = refl
redone_attribute (e ∷ entries) i = redone_attribute entries (redone e i)

undone_attribute : (entries : List EntryFields) (j : Inode) → (undone_all entries j).attribute ≡ attributes_before entries j.attribute
unfolding attributes_before undone
undone_attribute [] j = refl
undone_attribute (e ∷ entries) j = ap (attribute_before e.pair) (undone_attribute entries j)

pub undone_count : (entries : List EntryFields) (j : Inode) → length (undone_all entries j).pointers ≡ length j.pointers
unfolding undone
undone_count [] j = refl
undone_count (e ∷ entries) j = length-with_before e.triples (undone_all entries j).pointers ∙ undone_count entries j

pub redone_count : (e : EntryFields) (i : Inode) → length (redone e i).pointers ≡ length i.pointers
unfolding redone
redone_count e i = length-with_after e.triples i.pointers

redone_pointer : (entries : List EntryFields) (i : Inode) (n : ℕ) → n < length i.pointers → pointer_at (redone_all entries i) n ≡ pointers_after entries n (pointer_at i n)
unfolding pointers_after redone
redone_pointer [] i n lt = refl
redone_pointer (e ∷ entries) i n lt =
    let in_it : n < length (redone e i).pointers = subst (λ (c : ℕ). n < c) (sym (redone_count e i)) lt in
    redone_pointer entries (redone e i) n in_it ∙ ap (pointers_after entries n) (at-with_after e.triples i.pointers n lt)

undone_pointer : (entries : List EntryFields) (j : Inode) (n : ℕ) → n < length j.pointers → pointer_at (undone_all entries j) n ≡ pointers_before entries n (pointer_at j n)
unfolding pointers_before undone
undone_pointer [] j n lt = refl
undone_pointer (e ∷ entries) j n lt =
    let in_it : n < length (undone_all entries j).pointers = subst (λ (c : ℕ). n < c) (sym (undone_count entries j)) lt in
    at-with_before e.triples (undone_all entries j).pointers n in_it ∙ ap (pointer_before e.triples n) (undone_pointer entries j n lt)

pair_either : (pair : Option Pair) → Either (attribute_after pair) (attribute_before pair)
pair_either None = inr (record { forth_same = λ p. refl; back_same = λ p. refl })
pair_either (Some p) = inl (record { forth_one = λ a b. refl; back_one = λ a b. refl })

run_attributes : (entries : List EntryFields) → Either (attributes_after entries) (attributes_before entries)
unfolding attributes_after attributes_before
run_attributes [] = inr (record { forth_same = λ p. refl; back_same = λ p. refl })
run_attributes (e ∷ entries) = either_both (attribute_after e.pair) (attribute_before e.pair) (attributes_after entries) (attributes_before entries) (pair_either e.pair) (run_attributes entries)

run_pointers : (entries : List EntryFields) (n : ℕ) → Either (pointers_after entries n) (pointers_before entries n)
unfolding pointers_after pointers_before
run_pointers [] n = inr (record { forth_same = λ p. refl; back_same = λ p. refl })
run_pointers (e ∷ entries) n = either_both (pointer_after e.triples n) (pointer_before e.triples n) (pointers_after entries n) (pointers_before entries n) (told_or_not e.triples n) (run_pointers entries n)

-- ---- the statuses of the ends

redone_status : (e : EntryFields) (entries : List EntryFields) (i k : Inode) → status_of (redone_all (e ∷ entries) i) ≡ status_of (redone_all (e ∷ entries) k)
unfolding redone
redone_status e [] i k = refl
redone_status e (f ∷ entries) i k = redone_status f entries (redone e i) (redone e k)

undone_status : (e : EntryFields) (entries : List EntryFields) (i k : Inode) → status_of (undone_all (e ∷ entries) i) ≡ status_of (undone_all (e ∷ entries) k)
unfolding undone
undone_status e entries i k = refl

run_status_first : (i j k : Inode) (entries : List EntryFields) → 0 < length entries → Run i entries j → status_of (undone_all entries k) ≡ status_of i
run_status_first i j k [] some r = absurd (omega arith)
run_status_first i j k (e ∷ entries) some r = undone_status e entries k j ∙ sym (ap (λ (x : Inode). status_of x) (run_beginning i j (e ∷ entries) r))

run_status_last : (i j k : Inode) (entries : List EntryFields) → 0 < length entries → Run i entries j → status_of (redone_all entries k) ≡ status_of j
run_status_last i j k [] some r = absurd (omega arith)
run_status_last i j k (e ∷ entries) some r = redone_status e entries k i ∙ sym (ap (λ (x : Inode). status_of x) (run_end i j (e ∷ entries) r))

-- ---- what leads between the ends

pub run_pair : (i j k : Inode) (entries : List EntryFields) → Run i entries j → pair_between (undone_all entries k).attribute (redone_all entries (undone_all entries k)).attribute ≡ pair_between i.attribute j.attribute
run_pair i j k entries r =
    let begin : i.attribute ≡ attributes_before entries j.attribute = ap (λ (x : Inode). x.attribute) (run_beginning i j entries r) ∙ undone_attribute entries j in
    let end : j.attribute ≡ attributes_after entries i.attribute = ap (λ (x : Inode). x.attribute) (run_end i j entries r) ∙ redone_attribute entries i in
    let told_begin : (undone_all entries k).attribute ≡ attributes_before entries k.attribute = undone_attribute entries k in
    let told_end : (redone_all entries (undone_all entries k)).attribute ≡ attributes_after entries (undone_all entries k).attribute = redone_attribute entries (undone_all entries k) in
    elim (run_attributes entries) [
      | inl one ↦ (let front : (undone_all entries k).attribute ≡ i.attribute = told_begin ∙ one.back_one k.attribute j.attribute ∙ sym begin in
          let back : (redone_all entries (undone_all entries k)).attribute ≡ j.attribute = told_end ∙ one.forth_one (undone_all entries k).attribute i.attribute ∙ sym end in
          ap (λ (a : List ℕ). pair_between a (redone_all entries (undone_all entries k)).attribute) front ∙ ap (pair_between i.attribute) back)
      | inr same ↦ pair_none (undone_all entries k).attribute (redone_all entries (undone_all entries k)).attribute (sym (told_end ∙ same.forth_same (undone_all entries k).attribute)) ∙ sym (pair_none i.attribute j.attribute (sym (end ∙ same.forth_same i.attribute)))
    ]

run_count : (i j : Inode) (entries : List EntryFields) → Run i entries j → length i.pointers ≡ OBJECT_BLOCKS → length j.pointers ≡ OBJECT_BLOCKS
run_count i j [] r c = subst (λ (x : Inode). length x.pointers ≡ OBJECT_BLOCKS) r c
run_count i j (e ∷ entries) r c = run_count r.0 j entries r.2 r.1.count_after

first_count : (i j : Inode) (entries : List EntryFields) → 0 < length entries → Run i entries j → length i.pointers ≡ OBJECT_BLOCKS
first_count i j [] some r = absurd (omega arith)
first_count i j (e ∷ entries) some r = r.1.count_before

triple_of : ℕ → Option Place → Option Place → Triple
triple_of n p q = record { index = n; before = p; after = q }

triple_parts : (n : ℕ) (p q r s : Option Place) → p ≡ q → r ≡ s → triple_of n p r ≡ triple_of n q s
triple_parts n p q r s e f = cc

abbrev triple : ℕ → Option Place → Option Place → Triple
triple n p q = record { index = n; before = p; after = q }

triple_same : (n : ℕ) (p q r s : Option Place) → p ≡ q → r ≡ s → triple n p r ≡ triple n q s
unfolding triple_of
triple_same n p q r s e f = triple_parts n p q r s e f

run_agrees : (i j k : Inode) (entries : List EntryFields) (n : ℕ) → Run i entries j → n < length i.pointers → n < length j.pointers → n < length k.pointers → AgreeAt (undone_all entries k) (redone_all entries (undone_all entries k)) i j n
run_agrees i j k entries n r in_i in_j in_k =
    let begin : pointer_at i n ≡ pointers_before entries n (pointer_at j n) = ap (λ (x : Inode). pointer_at x n) (run_beginning i j entries r) ∙ undone_pointer entries j n in_j in
    let end : pointer_at j n ≡ pointers_after entries n (pointer_at i n) = ap (λ (x : Inode). pointer_at x n) (run_end i j entries r) ∙ redone_pointer entries i n in_i in
    let told_begin : pointer_at (undone_all entries k) n ≡ pointers_before entries n (pointer_at k n) = undone_pointer entries k n in_k in
    let in_first : n < length (undone_all entries k).pointers = subst (λ (c : ℕ). n < c) (sym (undone_count entries k)) in_k in
    let told_end : pointer_at (redone_all entries (undone_all entries k)) n ≡ pointers_after entries n (pointer_at (undone_all entries k) n) = redone_pointer entries (undone_all entries k) n in_first in
    elim (run_pointers entries n) [
      | inl one ↦ (let front : pointer_at (undone_all entries k) n ≡ pointer_at i n = told_begin ∙ one.back_one (pointer_at k n) (pointer_at j n) ∙ sym begin in
          let back : pointer_at (redone_all entries (undone_all entries k)) n ≡ pointer_at j n = told_end ∙ one.forth_one (pointer_at (undone_all entries k) n) (pointer_at i n) ∙ sym end in
          inl (triple_same n (pointer_at (undone_all entries k) n) (pointer_at i n) (pointer_at (redone_all entries (undone_all entries k)) n) (pointer_at j n) front back))
      | inr same ↦ inr (sym (told_end ∙ same.forth_same (pointer_at (undone_all entries k) n)), sym (end ∙ same.forth_same (pointer_at i n)))
    ]

pub run_triples : (i j k : Inode) (entries : List EntryFields) → 0 < length entries → Run i entries j → length k.pointers ≡ OBJECT_BLOCKS → triples_between (undone_all entries k) (redone_all entries (undone_all entries k)) ≡ triples_between i j
run_triples i j k entries some r count =
    let in_i = first_count i j entries some r in
    let in_j = run_count i j entries r in_i in
    between_agrees (undone_all entries k) (redone_all entries (undone_all entries k)) i j (λ n lt. run_agrees i j k entries n r (subst (λ (c : ℕ). n < c) (sym in_i) lt) (subst (λ (c : ℕ). n < c) (sym in_j) lt) (subst (λ (c : ℕ). n < c) (sym count) lt))

-- ---- the entries, by their parts

leading_of : Status → Status → Option Pair → List Triple → ℕ → EntryFields
leading_of before after pair triples m = record { moment = m; before = before; after = after; pair = pair; triples = triples }

leading_parts : (b c a d : Status) (p q : Option Pair) (t u : List Triple) (m : ℕ) → b ≡ c → a ≡ d → p ≡ q → t ≡ u → leading_of b a p t m ≡ leading_of c d q u m
leading_parts b c a d p q t u m e f g h = cc

leading_same : (i j k l : Inode) (m : ℕ) → status_of i ≡ status_of k → status_of j ≡ status_of l → pair_between i.attribute j.attribute ≡ pair_between k.attribute l.attribute → triples_between i j ≡ triples_between k l → leading_entry i j m ≡ leading_entry k l m
unfolding leading_entry leading_of
leading_same i j k l m before after pair triples =
    leading_parts (status_of i) (status_of k) (status_of j) (status_of l) (pair_between i.attribute j.attribute) (pair_between k.attribute l.attribute) (take ENTRY_TRIPLES (triples_between i j)) (take ENTRY_TRIPLES (triples_between k l)) m before after pair (ap (take ENTRY_TRIPLES) triples)

further_same : (j l : Inode) (m : ℕ) → status_of j ≡ status_of l → (ps : List (List Triple)) → map (further_entry j m) ps ≡ map (further_entry l m) ps
further_same j l m e [] = refl
further_same j l m e (p ∷ ps) =
    ap (λ (s : Status). record { moment = m; before = s; after = s; pair = None; triples = p } ∷ map (further_entry j m) ps) e ∙ ap (λ (es : List EntryFields). further_entry l m p ∷ es) (further_same j l m e ps)

entries_same : (i j k l : Inode) (m : ℕ) → status_of i ≡ status_of k → status_of j ≡ status_of l → pair_between i.attribute j.attribute ≡ pair_between k.attribute l.attribute → triples_between i j ≡ triples_between k l → entries_between i j m ≡ entries_between k l m
unfolding entries_between later_entries
entries_same i j k l m before after pair triples =
    ap (λ (e : EntryFields). e ∷ later_entries j m (drop ENTRY_TRIPLES (triples_between i j))) (leading_same i j k l m before after pair triples)
    ∙ ap (λ (es : List EntryFields). leading_entry k l m ∷ es) (further_same j l m after (pieces (length (drop ENTRY_TRIPLES (triples_between i j))) (drop ENTRY_TRIPLES (triples_between i j))) ∙ ap (λ (ts : List Triple). later_entries l m (drop ENTRY_TRIPLES ts)) triples)

pub blank_count : (created : ℕ) → length (blank created).pointers ≡ OBJECT_BLOCKS
unfolding blank holes
blank_count created = length-replicate {A = Option Place} OBJECT_BLOCKS None

abbrev hole : Option Place
hole = None

replicate_none : (count n : ℕ) → get_or (replicate count hole) n hole ≡ hole
replicate_none zero n = refl
replicate_none (suc count) zero = refl
replicate_none (suc count) (suc n) = replicate_none count n

pub blank_holes : (created n : ℕ) → pointer_at (blank created) n ≡ None
unfolding blank holes
blank_holes created n = replicate_none OBJECT_BLOCKS n

-- what the entries tell of the ends is what leads between them
pub told_leading : (i j : Inode) (entries : List EntryFields) (m : ℕ) → 0 < length entries → Run i entries j → leading_entry (told_first entries) (told_last entries) m ≡ leading_entry i j m
told_leading i j entries m some r =
    leading_same (told_first entries) (told_last entries) i j m (run_status_first i j (blank 0) entries some r) (run_status_last i j (told_first entries) entries some r) (run_pair i j (blank 0) entries r) (run_triples i j (blank 0) entries some r (blank_count 0))

pub told_entries : (i j : Inode) (entries : List EntryFields) (m : ℕ) → 0 < length entries → Run i entries j → entries_between (told_first entries) (told_last entries) m ≡ entries_between i j m
told_entries i j entries m some r =
    entries_same (told_first entries) (told_last entries) i j m (run_status_first i j (blank 0) entries some r) (run_status_last i j (told_first entries) entries some r) (run_pair i j (blank 0) entries r) (run_triples i j (blank 0) entries some r (blank_count 0))

-- ---- composing

-- all that composing promises, of what it gives
pub record Composes {X : Type 0} (view : X → List EntryFields) (r : Option X) (entries : List EntryFields) : Type 0 where
  pub exact : (i j : Inode) → Run i entries j → IfSome r (λ x. view x ≡ entries_between i j (last_moment 0 entries))
  pub run : (i j : Inode) → Run i entries j → IfSome r (λ x. Run i (view x) j)
  pub some : (i j : Inode) → Run i entries j → IsSome r ↔ CanLead i j (last_moment 0 entries)
  pub group : IfSome r (λ x. grouped (view x) ≡ true)
  pub moments : IfSome r (λ x. AllAt (last_moment 0 entries) (view x))

kept_none : {A : Type 0} (test : Bool) (x : A) → kept test x ≡ None → test ≡ true → ⊥
kept_none true x h is = none-some x (sym h)
kept_none false x h is = both_ways false refl is

pub composes_made : {X : Type 0} (view : X → List EntryFields) (r : Option X) (entries : List EntryFields) (m : ℕ) → 0 < length entries → m ≡ last_moment 0 entries → Reads view r (checked_between (told_first entries) (told_last entries) m) → Composes view r entries
composes_made {X} view None entries m some is reads = record {
  exact = λ i j r. tt;
  run = λ i j r. tt;
  some = λ i j r. (λ told. absurd (both_ways false refl told), λ c. absurd (kept_none (entry_rules (leading_entry (told_first entries) (told_last entries) m)) (entries_between (told_first entries) (told_last entries) m) reads (ap entry_rules (told_leading i j entries m some r) ∙ can_keep i j m (subst (λ (t : ℕ). CanLead i j t) (sym is) c))));
  group = tt;
  moments = tt;
}
composes_made {X} view (Some x) entries m some is reads =
    let k = kept_is (entry_rules (leading_entry (told_first entries) (told_last entries) m)) (entries_between (told_first entries) (told_last entries) m) (view x) reads in
    let made : (i j : Inode) → Run i entries j → view x ≡ entries_between i j m = λ i j r. sym k.1 ∙ told_entries i j entries m some r in
    record {
      exact = λ i j r. made i j r ∙ ap (entries_between i j) is;
      run = λ i j r. subst (λ (es : List EntryFields). Run i es j) (sym (made i j r)) (between_run i j m (run_created i j entries r) (first_count i j entries some r) (run_count i j entries r (first_count i j entries some r)));
      some = λ i j r. (λ told. subst (λ (t : ℕ). CanLead i j t) is (keep_can i j m (sym (ap entry_rules (told_leading i j entries m some r)) ∙ k.0) (run_created i j entries r) (first_count i j entries some r) (run_count i j entries r (first_count i j entries some r))), λ c. refl);
      group = subst (λ (es : List EntryFields). grouped es ≡ true) k.1 (keep_grouped (told_first entries) (told_last entries) m k.0);
      moments = subst (λ (t : ℕ). AllAt t (view x)) is (subst (λ (es : List EntryFields). AllAt m es) k.1 (between_at (told_first entries) (told_last entries) m));
    }

-- the last of entries, read from their list
step_back : (f g : EntryFields) (entries : List EntryFields) → slice_get (f ∷ (g ∷ entries)) (length (f ∷ (g ∷ entries)) - 1) ≡ slice_get (g ∷ entries) (length (g ∷ entries) - 1)
step_back f g entries =
    let back : length (f ∷ (g ∷ entries)) - 1 ≡ suc (length (g ∷ entries) - 1) = omega arith in
    ap (λ (n : ℕ). slice_get (f ∷ (g ∷ entries)) n) back

pub last_read : (given : ℕ) (entries : List EntryFields) (e : EntryFields) → slice_get entries (length entries - 1) ≡ Some e → last_moment given entries ≡ e.moment
last_read given [] e h = absurd (none-some e h)
last_read given (f ∷ []) e h = ap (λ (x : EntryFields). x.moment) (same_Some f e h)
last_read given (f ∷ (g ∷ entries)) e h = last_read f.moment (g ∷ entries) e (sym (step_back f g entries) ∙ h)

pub last_found : (entries : List EntryFields) (e : EntryFields) → slice_get entries (length entries - 1) ≡ Some e → 0 < length entries
last_found [] e h = absurd (none-some e h)
last_found (f ∷ entries) e h = omega arith
