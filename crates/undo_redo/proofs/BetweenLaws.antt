-- Laws of the entries between two inodes.
use Rattle.std.proofs.Common.{◌≡◌, ℕ, zero, suc, ◌+◌, ◌-◌, ◌*◌, ◌<◌, ◌≤◌, ◌==◌, ◌&&◌, Bool, true, false, ltb, cond, min, inl, inr, ◌⊎◌, List, [], ◌∷◌, ◌++◌, length, map, take, drop, Option, refl, sym, ap, subst, ◌∙◌, append_assoc, arith}
use Rattle.std.specs.Prelude.{◌||◌, is_none}
use Rattle.std.specs.List.{AllByRecursion, list_all}
use Rattle.std.proofs.lemmas.List.{append-nil, length-take, length-drop, take-append-drop}
use Rattle.std.proofs.lemmas.Bool.{cases_Bool, and_parts, and_from, or_cases, or_left, or_right, eqb-true, eq-eqb, cond-true, cond-false, both_ways, lt-ltb}
use Rattle.s4_types.specs.Pointer.{Place}
use Rattle.s4_types.specs.declared.limits.TheConstants.{OBJECT_BYTES, ENTRY_TRIPLES, OBJECT_BLOCKS, CHANGE_ENTRIES, SHORTEST_ENTRY_BYTES, TRIPLE_BYTES}
use Rattle.codec.specs.declared.inodes.Inode.{Inode}
use Rattle.codec.specs.declared.entries.Status.{Status}
use Rattle.codec.specs.declared.entries.Triple.{Triple}
use Rattle.codec.specs.Checkpoint.{pointer_at}
use Rattle.codec.specs.Entry.{EntryFields, ascend_from, entry_rules, pair_length, entry_length}
use Rattle.undo_redo.specs.Linked.{status_of, pointer_after, pointer_before, StandsBefore}
use Rattle.undo_redo.specs.Redone.{with_after, redone}
use Rattle.undo_redo.specs.Runs.{Run, AllAt}
use Rattle.undo_redo.specs.Groups.{above, continues, grouped_behind, grouped}
use Rattle.undo_redo.specs.Between.{pair_between, triples_between, leading_entry, further_entry, pieces, later_entries, entries_between, AreOf, CanLead}
use Rattle.undo_redo.specs.Sizes.{later_sizes, entry_sizes}
use Rattle.undo_redo.proofs.Pointers.{length-with_after, at-with_after, same_pointers}
use Rattle.undo_redo.proofs.Indices.{rules_of, rules_made, ascend_take, ascend_drop, ascend_front, above_pieces}
use Rattle.undo_redo.proofs.Slots.{pair_first, pair_after, pair_differs, pair_none, none_pair}
use Rattle.undo_redo.proofs.Differing.{of_take, of_drop, between_ascends, between_of, between_reaches, between_none, none_between, between_length, still_before}
use Rattle.undo_redo.proofs.LinkLaws.{same_inode, linked_redone}

-- ---- pieces

shorter : (t : Triple) (triples : List Triple) → length (drop ENTRY_TRIPLES (t ∷ triples)) ≤ length triples
shorter t triples = let count : length (drop ENTRY_TRIPLES (t ∷ triples)) ≡ length (t ∷ triples) - ENTRY_TRIPLES = length-drop ENTRY_TRIPLES (t ∷ triples) in omega (arith, count)

-- more pieces than there are triples add none
pieces_same : (a b : ℕ) (triples : List Triple) → length triples ≤ a → length triples ≤ b → pieces a triples ≡ pieces b triples
unfolding pieces
pieces_same zero zero triples h k = refl
pieces_same zero (suc b) [] h k = refl
pieces_same zero (suc b) (t ∷ triples) h k = absurd (omega arith)
pieces_same (suc a) zero [] h k = refl
pieces_same (suc a) zero (t ∷ triples) h k = absurd (omega arith)
pieces_same (suc a) (suc b) [] h k = refl
pieces_same (suc a) (suc b) (t ∷ triples) h k =
    let less = shorter t triples in
    ap (λ (ps : List (List Triple)). take ENTRY_TRIPLES (t ∷ triples) ∷ ps) (pieces_same a b (drop ENTRY_TRIPLES (t ∷ triples)) (omega (arith, less, h)) (omega (arith, less, k)))

pub later_none : (j : Inode) (m : ℕ) (triples : List Triple) → length triples ≡ 0 → later_entries j m triples ≡ []
unfolding later_entries pieces
later_none j m [] h = refl
later_none j m (t ∷ triples) h = absurd (omega arith)

pub later_more : (j : Inode) (m : ℕ) (triples : List Triple) → 0 < length triples → later_entries j m triples ≡ further_entry j m (take ENTRY_TRIPLES triples) ∷ later_entries j m (drop ENTRY_TRIPLES triples)
unfolding later_entries pieces
later_more j m [] h = absurd (omega arith)
later_more j m (t ∷ triples) h =
    ap (λ (ps : List (List Triple)). further_entry j m (take ENTRY_TRIPLES (t ∷ triples)) ∷ map (further_entry j m) ps) (pieces_same (length triples) (length (drop ENTRY_TRIPLES (t ∷ triples))) (drop ENTRY_TRIPLES (t ∷ triples)) (shorter t triples) (omega arith))

-- ---- the run

-- an inode with another's status, and later pointers put in their places
abbrev moved : Inode → Inode → List Triple → Inode
moved j k triples = record { alive = j.alive; size = j.size; created = k.created; changed = j.changed; attribute = k.attribute; pointers = with_after triples k.pointers }

after-append : (front back : List Triple) (n : ℕ) (p : Option Place) → pointer_after (front ++ back) n p ≡ pointer_after back n (pointer_after front n p)
after-append [] back n p = refl
after-append (t ∷ front) back n p = after-append front back n (cond (t.index == n) t.after p)

-- what an inode between the two is, once front triples were redone
record Between (i j k : Inode) (front : List Triple) : Type 0 where
  status : status_of k ≡ status_of j
  created : k.created ≡ j.created
  attribute : k.attribute ≡ j.attribute
  count : length k.pointers ≡ OBJECT_BLOCKS
  pointers : (n : ℕ) → n < OBJECT_BLOCKS → pointer_at k n ≡ pointer_after front n (pointer_at i n)

between_moved : (i j k : Inode) (front back : List Triple) → Between i j k front → Between i j (moved j k back) (front ++ back)
between_moved i j k front back b = record {
  status = refl;
  created = b.created;
  attribute = b.attribute;
  count = length-with_after back k.pointers ∙ b.count;
  pointers = λ n lt. let in_it : n < length k.pointers = subst (λ (c : ℕ). n < c) (sym b.count) lt in at-with_after back k.pointers n in_it ∙ ap (pointer_after back n) (b.pointers n lt) ∙ sym (after-append front back n (pointer_at i n));
}

between_end : (i j k : Inode) (front : List Triple) → Between i j k front → length j.pointers ≡ OBJECT_BLOCKS → front ≡ triples_between i j → k ≡ j
between_end i j k front b count is =
    same_inode k j b.status b.created b.attribute (same_pointers k.pointers j.pointers b.count count (λ n lt. b.pointers n lt ∙ ap (λ (triples : List Triple). pointer_after triples n (pointer_at i n)) is ∙ between_reaches i j n lt))

rest_run : (n : ℕ) (i j k : Inode) (m : ℕ) (xs rest : List Triple) → length rest ≤ n → Between i j k xs → length j.pointers ≡ OBJECT_BLOCKS → xs ++ rest ≡ triples_between i j → AreOf i j rest → Run k (later_entries j m rest) j
unfolding redone
rest_run n i j k m xs [] short b count is are =
    subst (λ (es : List EntryFields). Run k es j) (sym (later_none j m [] refl)) (between_end i j k xs b count (sym (append-nil xs) ∙ is))
rest_run zero i j k m xs (t ∷ rest) short b count is are = absurd (omega arith)
rest_run (suc n) i j k m xs (t ∷ rest) short b count is are =
    let joined : (xs ++ take ENTRY_TRIPLES (t ∷ rest)) ++ drop ENTRY_TRIPLES (t ∷ rest) ≡ triples_between i j =
    append_assoc xs (take ENTRY_TRIPLES (t ∷ rest)) (drop ENTRY_TRIPLES (t ∷ rest)) ∙ ap (λ (ts : List Triple). xs ++ ts) (take-append-drop ENTRY_TRIPLES (t ∷ rest)) ∙ is in
    let up : ascend_from 0 ((xs ++ take ENTRY_TRIPLES (t ∷ rest)) ++ drop ENTRY_TRIPLES (t ∷ rest)) ≡ true = subst (λ (ts : List Triple). ascend_from 0 ts ≡ true) (sym joined) (between_ascends i j) in
    let piece_are : AreOf i j (take ENTRY_TRIPLES (t ∷ rest)) = of_take i j ENTRY_TRIPLES (t ∷ rest) are in
    let stands : StandsBefore k (further_entry j m (take ENTRY_TRIPLES (t ∷ rest))) = record {
      status = b.status;
      attribute = tt;
      count = b.count;
      pointers = λ p lt. b.pointers p lt ∙ still_before i j 0 p xs (take ENTRY_TRIPLES (t ∷ rest)) (ascend_front 0 (xs ++ take ENTRY_TRIPLES (t ∷ rest)) (drop ENTRY_TRIPLES (t ∷ rest)) up) piece_are ∙ ap (pointer_before (take ENTRY_TRIPLES (t ∷ rest)) p) (sym (b.pointers p lt));
    } in
    let less = shorter t rest in
    let behind : Run (moved j k (take ENTRY_TRIPLES (t ∷ rest))) (later_entries j m (drop ENTRY_TRIPLES (t ∷ rest))) j =
    rest_run n i j (moved j k (take ENTRY_TRIPLES (t ∷ rest))) m (xs ++ take ENTRY_TRIPLES (t ∷ rest)) (drop ENTRY_TRIPLES (t ∷ rest)) (omega (arith, less, short)) (between_moved i j k xs (take ENTRY_TRIPLES (t ∷ rest)) b) count joined (of_drop i j ENTRY_TRIPLES (t ∷ rest) are) in
    subst (λ (es : List EntryFields). Run k es j) (sym (later_more j m (t ∷ rest) (omega arith))) (redone (further_entry j m (take ENTRY_TRIPLES (t ∷ rest))) k, linked_redone k (further_entry j m (take ENTRY_TRIPLES (t ∷ rest))) stands, behind)

leading_stands : (i j : Inode) (m : ℕ) → length i.pointers ≡ OBJECT_BLOCKS → StandsBefore i (leading_entry i j m)
unfolding leading_entry
leading_stands i j m count =
    record {
      status = refl;
      attribute = pair_first i.attribute j.attribute;
      count = count;
      pointers = λ n lt. still_before i j 0 n [] (take ENTRY_TRIPLES (triples_between i j)) (ascend_take ENTRY_TRIPLES 0 (triples_between i j) (between_ascends i j)) (of_take i j ENTRY_TRIPLES (triples_between i j) (between_of i j));
    }

leading_between : (i j : Inode) (m : ℕ) → i.created ≡ j.created → length i.pointers ≡ OBJECT_BLOCKS → Between i j (redone (leading_entry i j m) i) (take ENTRY_TRIPLES (triples_between i j))
unfolding leading_entry redone
leading_between i j m created count = record {
  status = refl;
  created = created;
  attribute = pair_after i.attribute j.attribute;
  count = length-with_after (take ENTRY_TRIPLES (triples_between i j)) i.pointers ∙ count;
  pointers = λ n lt. let in_it : n < length i.pointers = subst (λ (c : ℕ). n < c) (sym count) lt in at-with_after (take ENTRY_TRIPLES (triples_between i j)) i.pointers n in_it;
}

pub between_run : (i j : Inode) (m : ℕ) → i.created ≡ j.created → length i.pointers ≡ OBJECT_BLOCKS → length j.pointers ≡ OBJECT_BLOCKS → Run i (entries_between i j m) j
unfolding entries_between
between_run i j m created first last =
    (redone (leading_entry i j m) i, linked_redone i (leading_entry i j m) (leading_stands i j m first), rest_run (length (drop ENTRY_TRIPLES (triples_between i j))) i j (redone (leading_entry i j m) i) m (take ENTRY_TRIPLES (triples_between i j)) (drop ENTRY_TRIPLES (triples_between i j)) (omega arith) (leading_between i j m created first) last (take-append-drop ENTRY_TRIPLES (triples_between i j)) (of_drop i j ENTRY_TRIPLES (triples_between i j) (between_of i j)))

-- ---- the rules of entries

same_status_of : Bool → ℕ → ℕ → Status
same_status_of alive size changed = record { alive = alive; size = size; changed = changed }

same_status_parts : (a b : Bool) (s t c d : ℕ) → a ≡ b → s ≡ t → c ≡ d → same_status_of a s c ≡ same_status_of b t d
same_status_parts a b s t c d e f g = cc

same_status : (r s : Status) → r.alive ≡ s.alive → r.size ≡ s.size → r.changed ≡ s.changed → r ≡ s
unfolding same_status_of
same_status r s a b c = same_status_parts r.alive s.alive r.size s.size r.changed s.changed a b c

was_of : (alive : Bool) (size changed : ℕ) → (alive ≡ false → (size ≡ 0) × (changed ≡ 0)) → (alive || (size == 0 && changed == 0)) ≡ true
was_of true size changed h = refl
was_of false size changed h = and_from (size == 0) (changed == 0) (eq-eqb size 0 (h refl).0) (eq-eqb changed 0 (h refl).1)

pub dead_is_empty : (alive : Bool) (size changed : ℕ) → (alive || (size == 0 && changed == 0)) ≡ true → alive ≡ false → (size ≡ 0) × (changed ≡ 0)
dead_is_empty true size changed h dead = absurd (both_ways true dead refl)
dead_is_empty false size changed h dead = let parts = and_parts (size == 0) (changed == 0) h in (eqb-true size 0 parts.0, eqb-true changed 0 parts.1)

-- what is told of an entry whose object is alive after it, and dead
abbrev Still : EntryFields → Bool
Still e = e.before.size == e.after.size && (e.before.changed == e.after.changed && (is_none e.pair && length e.triples == 0))

none_taken : (n : ℕ) (triples : List Triple) → length (take (suc n) triples) ≡ 0 → triples ≡ []
none_taken n [] h = refl
none_taken n (t ∷ triples) h = absurd (omega arith)

still_of : (i j : Inode) (m : ℕ) → i ≡ record j { alive = true } → Still (leading_entry i j m) ≡ true
unfolding leading_entry
still_of i j m is =
    let none : triples_between i j ≡ [] = between_none i j (λ n. ap (λ (x : Inode). pointer_at x n) is) in
    let pair : is_none (pair_between i.attribute j.attribute) ≡ true = ap is_none (pair_none i.attribute j.attribute (ap (λ (x : Inode). x.attribute) is)) in
    let count : length (take ENTRY_TRIPLES (triples_between i j)) ≡ 0 = ap (λ (triples : List Triple). length (take ENTRY_TRIPLES triples)) none in
    and_from (i.size == j.size) _ (eq-eqb i.size j.size (ap (λ (x : Inode). x.size) is))
    (and_from (i.changed == j.changed) _ (eq-eqb i.changed j.changed (ap (λ (x : Inode). x.changed) is))
    (and_from (is_none (pair_between i.attribute j.attribute)) (length (take ENTRY_TRIPLES (triples_between i j)) == 0) pair (eq-eqb (length (take ENTRY_TRIPLES (triples_between i j))) 0 count)))

pub can_keep : (i j : Inode) (m : ℕ) → CanLead i j m → entry_rules (leading_entry i j m) ≡ true
unfolding leading_entry
can_keep i j m c =
    rules_made (leading_entry i j m) (record {
      moment = c.moment;
      one_alive = elim (cases_Bool j.alive) [ inl live ↦ or_right i.alive j.alive live | inr dead ↦ or_left i.alive j.alive (ap (λ (x : Inode). x.alive) (c.flag_alone dead)) ];
      size_before = c.size_before;
      size_after = c.size_after;
      was = was_of i.alive i.size i.changed c.was_nothing;
      now = elim (cases_Bool j.alive) [
        | inl live ↦ cond-true j.alive (j.changed == m) (Still (leading_entry i j m)) live ∙ eq-eqb j.changed m (c.changed live)
        | inr dead ↦ cond-false j.alive (j.changed == m) (Still (leading_entry i j m)) dead ∙ still_of i j m (c.flag_alone dead)
      ];
      pair = pair_differs i.attribute j.attribute;
      ascend = ascend_take ENTRY_TRIPLES 0 (triples_between i j) (between_ascends i j);
    })

of_still : (i j : Inode) (m : ℕ) → i.created ≡ j.created → i.alive ≡ true → length i.pointers ≡ OBJECT_BLOCKS → length j.pointers ≡ OBJECT_BLOCKS → Still (leading_entry i j m) ≡ true → i ≡ record j { alive = true }
unfolding leading_entry
of_still i j m created live first last h =
    let a = and_parts (i.size == j.size) _ h in
    let b = and_parts (i.changed == j.changed) _ a.1 in
    let c = and_parts (is_none (pair_between i.attribute j.attribute)) (length (take ENTRY_TRIPLES (triples_between i j)) == 0) b.1 in
    let none : triples_between i j ≡ [] = none_taken (ENTRY_TRIPLES - 1) (triples_between i j) (eqb-true (length (take ENTRY_TRIPLES (triples_between i j))) 0 c.1) in
    let status : status_of i ≡ record { alive = true; size = j.size; changed = j.changed } = same_status (status_of i) (record { alive = true; size = j.size; changed = j.changed }) live (eqb-true i.size j.size a.0) (eqb-true i.changed j.changed b.0) in
    same_inode i (record j { alive = true }) status created (none_pair i.attribute j.attribute c.0) (same_pointers i.pointers j.pointers first last (λ n lt. none_between i j n none lt))

pub keep_can : (i j : Inode) (m : ℕ) → entry_rules (leading_entry i j m) ≡ true → i.created ≡ j.created → length i.pointers ≡ OBJECT_BLOCKS → length j.pointers ≡ OBJECT_BLOCKS → CanLead i j m
unfolding leading_entry
keep_can i j m h created first last =
    let r = rules_of (leading_entry i j m) h in
    record {
      moment = r.moment;
      created = created;
      count_before = first;
      count_after = last;
      size_before = r.size_before;
      size_after = r.size_after;
      was_nothing = dead_is_empty i.alive i.size i.changed r.was;
      changed = λ live. eqb-true j.changed m (sym (cond-true j.alive (j.changed == m) (Still (leading_entry i j m)) live) ∙ r.now);
      flag_alone = λ dead. (let live : i.alive ≡ true = elim (or_cases i.alive j.alive r.one_alive) [ inl is ↦ is | inr other ↦ absurd (both_ways j.alive dead other) ] in
          of_still i j m created live first last (sym (cond-false j.alive (j.changed == m) (Still (leading_entry i j m)) dead) ∙ r.now));
    }

-- an entry of further pointers is of a live inode
record Alive (j : Inode) (m : ℕ) : Type 0 where
  moment : 1 ≤ m
  live : j.alive ≡ true
  size : j.size ≤ OBJECT_BYTES
  changed : j.changed ≡ m

further_rules : (j : Inode) (m : ℕ) (triples : List Triple) → Alive j m → ascend_from 0 triples ≡ true → entry_rules (further_entry j m triples) ≡ true
further_rules j m triples a up =
    rules_made (further_entry j m triples) (record {
      moment = a.moment;
      one_alive = or_left j.alive j.alive a.live;
      size_before = a.size;
      size_after = a.size;
      was = or_left j.alive (j.size == 0 && j.changed == 0) a.live;
      now = cond-true j.alive (j.changed == m) (Still (further_entry j m triples)) a.live ∙ eq-eqb j.changed m a.changed;
      pair = refl;
      ascend = up;
    })

-- where the first entry keeps the rules, the second inode is alive or no pointer differs
live_or_none : (i j : Inode) (m : ℕ) → entry_rules (leading_entry i j m) ≡ true → Alive j m ⊎ (triples_between i j ≡ [])
unfolding leading_entry
live_or_none i j m h =
    let r = rules_of (leading_entry i j m) h in
    elim (cases_Bool j.alive) [
      | inl live ↦ inl (record { moment = r.moment; live = live; size = r.size_after; changed = eqb-true j.changed m (sym (cond-true j.alive (j.changed == m) (Still (leading_entry i j m)) live) ∙ r.now) })
      | inr dead ↦ (let still : Still (leading_entry i j m) ≡ true = sym (cond-false j.alive (j.changed == m) (Still (leading_entry i j m)) dead) ∙ r.now in
          let a = and_parts (i.size == j.size) _ still in
          let b = and_parts (i.changed == j.changed) _ a.1 in
          let c = and_parts (is_none (pair_between i.attribute j.attribute)) (length (take ENTRY_TRIPLES (triples_between i j)) == 0) b.1 in
          inr (none_taken (ENTRY_TRIPLES - 1) (triples_between i j) (eqb-true (length (take ENTRY_TRIPLES (triples_between i j))) 0 c.1)))
    ]

-- what holds of a further entry for each list of triples that has a property, which its pieces have too, holds of each
later_each : (P : EntryFields → Type 0) (Q : List Triple → Type 0) (j : Inode) (m : ℕ) → ((ts : List Triple) → Q ts → Q (take ENTRY_TRIPLES ts)) → ((ts : List Triple) → Q ts → Q (drop ENTRY_TRIPLES ts)) → ((ts : List Triple) → Q ts → P (further_entry j m ts)) → (n : ℕ) (triples : List Triple) → length triples ≤ n → Q triples → AllByRecursion P (later_entries j m triples)
later_each P Q j m front back each n [] short h = subst (λ (es : List EntryFields). AllByRecursion P es) (sym (later_none j m [] refl)) tt
later_each P Q j m front back each zero (t ∷ triples) short h = absurd (omega arith)
later_each P Q j m front back each (suc n) (t ∷ triples) short h =
    let less = shorter t triples in
    subst (λ (es : List EntryFields). AllByRecursion P es) (sym (later_more j m (t ∷ triples) (omega arith))) (each (take ENTRY_TRIPLES (t ∷ triples)) (front (t ∷ triples) h), later_each P Q j m front back each n (drop ENTRY_TRIPLES (t ∷ triples)) (omega (arith, less, short)) (back (t ∷ triples) h))

-- the rules of the entries of further pointers, where the first entry keeps its own
pub later_rules : (i j : Inode) (m : ℕ) → entry_rules (leading_entry i j m) ≡ true → AllByRecursion (λ e. entry_rules e ≡ true) (later_entries j m (drop ENTRY_TRIPLES (triples_between i j)))
later_rules i j m h = elim (live_or_none i j m h) [
  | inl live ↦ later_each (λ e. entry_rules e ≡ true) (λ ts. ascend_from 0 ts ≡ true) j m (ascend_take ENTRY_TRIPLES 0) (ascend_drop ENTRY_TRIPLES 0) (λ ts up. further_rules j m ts live up) (length (drop ENTRY_TRIPLES (triples_between i j))) (drop ENTRY_TRIPLES (triples_between i j)) (omega arith) (ascend_drop ENTRY_TRIPLES 0 (triples_between i j) (between_ascends i j))
  | inr none ↦ subst (λ (es : List EntryFields). AllByRecursion (λ e. entry_rules e ≡ true) es) (sym (later_none j m (drop ENTRY_TRIPLES (triples_between i j)) (ap (λ (ts : List Triple). length (drop ENTRY_TRIPLES ts)) none))) tt
]

-- ---- the rules of groups

goes_on : (count : ℕ) (e : EntryFields) (j : Inode) (m : ℕ) (triples : List Triple) (entries : List EntryFields) → e.moment ≡ m → ltb count CHANGE_ENTRIES ≡ true → Alive j m → above e.triples triples ≡ true → grouped_behind (count + 1) (further_entry j m triples) entries ≡ true → grouped_behind count e (further_entry j m triples ∷ entries) ≡ true
goes_on count e j m triples entries is few a up behind =
    let changed : (j.changed == m) ≡ true = eq-eqb j.changed m a.changed in
    let on : continues e (further_entry j m triples) ≡ true =
    and_from (j.alive && j.alive) _ (and_from j.alive j.alive a.live a.live)
    (and_from (j.size == j.size) _ (eq-eqb j.size j.size refl)
    (and_from (j.changed == m && j.changed == m) _ (and_from (j.changed == m) (j.changed == m) changed changed)
    (and_from true (above e.triples triples) refl up))) in
    cond-true (e.moment == m) ((ltb count CHANGE_ENTRIES && continues e (further_entry j m triples)) && grouped_behind (count + 1) (further_entry j m triples) entries) (ltb e.moment m && grouped_behind 1 (further_entry j m triples) entries) (eq-eqb e.moment m is) ∙ and_from (ltb count CHANGE_ENTRIES && continues e (further_entry j m triples)) (grouped_behind (count + 1) (further_entry j m triples) entries) (and_from (ltb count CHANGE_ENTRIES) (continues e (further_entry j m triples)) few on) behind

above_front : (lower front back : List Triple) → above lower (front ++ back) ≡ true → above lower front ≡ true
above_front lower [] back h = refl
above_front lower (t ∷ front) back h = let parts = and_parts (list_all (λ u. ltb u.index t.index) lower) (above lower (front ++ back)) h in and_from (list_all (λ u. ltb u.index t.index) lower) (above lower front) parts.0 (above_front lower front back parts.1)

-- the first piece after one of ascending triples stands above it
next_above : (triples : List Triple) → ascend_from 0 triples ≡ true → above (take ENTRY_TRIPLES triples) (take ENTRY_TRIPLES (drop ENTRY_TRIPLES triples)) ≡ true
next_above triples up =
    above_front (take ENTRY_TRIPLES triples) (take ENTRY_TRIPLES (drop ENTRY_TRIPLES triples)) (drop ENTRY_TRIPLES (drop ENTRY_TRIPLES triples)) (subst (λ (ts : List Triple). above (take ENTRY_TRIPLES triples) ts ≡ true) (sym (take-append-drop ENTRY_TRIPLES (drop ENTRY_TRIPLES triples))) (above_pieces ENTRY_TRIPLES 0 triples up))

group_rest : (n count : ℕ) (e : EntryFields) (j : Inode) (m : ℕ) (rest : List Triple) → length rest ≤ n → ENTRY_TRIPLES * count + length rest ≤ OBJECT_BLOCKS → e.moment ≡ m → Alive j m → above e.triples (take ENTRY_TRIPLES rest) ≡ true → ascend_from 0 rest ≡ true → grouped_behind count e (later_entries j m rest) ≡ true
group_rest n count e j m [] short room is a up ascends = subst (λ (es : List EntryFields). grouped_behind count e es ≡ true) (sym (later_none j m [] refl)) refl
group_rest zero count e j m (t ∷ rest) short room is a up ascends = absurd (omega arith)
group_rest (suc n) count e j m (t ∷ rest) short room is a up ascends =
    let less = shorter t rest in
    let cut : length (drop ENTRY_TRIPLES (t ∷ rest)) ≡ length (t ∷ rest) - ENTRY_TRIPLES = length-drop ENTRY_TRIPLES (t ∷ rest) in
    let behind : grouped_behind (count + 1) (further_entry j m (take ENTRY_TRIPLES (t ∷ rest))) (later_entries j m (drop ENTRY_TRIPLES (t ∷ rest))) ≡ true =
    group_rest n (count + 1) (further_entry j m (take ENTRY_TRIPLES (t ∷ rest))) j m (drop ENTRY_TRIPLES (t ∷ rest)) (omega (arith, less, short)) (omega (arith, cut, room)) refl a (next_above (t ∷ rest) ascends) (ascend_drop ENTRY_TRIPLES 0 (t ∷ rest) ascends) in
    subst (λ (es : List EntryFields). grouped_behind count e es ≡ true) (sym (later_more j m (t ∷ rest) (omega arith))) (goes_on count e j m (take ENTRY_TRIPLES (t ∷ rest)) (later_entries j m (drop ENTRY_TRIPLES (t ∷ rest))) is (lt-ltb count CHANGE_ENTRIES (omega (arith, room))) a up behind)

pub keep_grouped : (i j : Inode) (m : ℕ) → entry_rules (leading_entry i j m) ≡ true → grouped (entries_between i j m) ≡ true
unfolding entries_between leading_entry
keep_grouped i j m h =
    let up : ascend_from 0 (drop ENTRY_TRIPLES (triples_between i j)) ≡ true = ascend_drop ENTRY_TRIPLES 0 (triples_between i j) (between_ascends i j) in
    let few = between_length i j in
    let cut : length (drop ENTRY_TRIPLES (triples_between i j)) ≡ length (triples_between i j) - ENTRY_TRIPLES = length-drop ENTRY_TRIPLES (triples_between i j) in
    elim (live_or_none i j m h) [
      | inl live ↦ group_rest (length (drop ENTRY_TRIPLES (triples_between i j))) 1 (leading_entry i j m) j m (drop ENTRY_TRIPLES (triples_between i j)) (omega arith) (omega (arith, few, cut)) refl live (next_above (triples_between i j) (between_ascends i j)) up
      | inr none ↦ subst (λ (es : List EntryFields). grouped_behind 1 (leading_entry i j m) es ≡ true) (sym (later_none j m (drop ENTRY_TRIPLES (triples_between i j)) (ap (λ (ts : List Triple). length (drop ENTRY_TRIPLES ts)) none))) refl
    ]

pub can_grouped : (i j : Inode) (m : ℕ) → CanLead i j m → grouped (entries_between i j m) ≡ true
can_grouped i j m c = keep_grouped i j m (can_keep i j m c)

-- ---- sizes

later_sizes_same : (a b count : ℕ) → count ≤ a → count ≤ b → later_sizes a count ≡ later_sizes b count
unfolding later_sizes
later_sizes_same zero zero count h k = refl
later_sizes_same zero (suc b) zero h k = refl
later_sizes_same zero (suc b) (suc count) h k = absurd (omega arith)
later_sizes_same (suc a) zero zero h k = refl
later_sizes_same (suc a) zero (suc count) h k = absurd (omega arith)
later_sizes_same (suc a) (suc b) zero h k = refl
later_sizes_same (suc a) (suc b) (suc count) h k =
    ap (λ (ns : List ℕ). (SHORTEST_ENTRY_BYTES + TRIPLE_BYTES * min ENTRY_TRIPLES (suc count)) ∷ ns) (later_sizes_same a b (suc count - ENTRY_TRIPLES) (omega arith) (omega arith))

pub sizes_none : (count : ℕ) → count ≡ 0 → later_sizes count count ≡ []
unfolding later_sizes
sizes_none zero h = refl
sizes_none (suc count) h = absurd (omega arith)

pub sizes_more : (count : ℕ) → 0 < count → later_sizes count count ≡ (SHORTEST_ENTRY_BYTES + TRIPLE_BYTES * min ENTRY_TRIPLES count) ∷ later_sizes (count - ENTRY_TRIPLES) (count - ENTRY_TRIPLES)
unfolding later_sizes
sizes_more zero h = absurd (omega arith)
sizes_more (suc count) h = ap (λ (ns : List ℕ). (SHORTEST_ENTRY_BYTES + TRIPLE_BYTES * min ENTRY_TRIPLES (suc count)) ∷ ns) (later_sizes_same count (suc count - ENTRY_TRIPLES) (suc count - ENTRY_TRIPLES) (omega arith) (omega arith))

-- the size of the next entry goes after those that stand
pub next_size : (old new all : List ℕ) (rest left size : ℕ) → 0 < rest → left ≡ rest - ENTRY_TRIPLES → size ≡ SHORTEST_ENTRY_BYTES + TRIPLE_BYTES * min ENTRY_TRIPLES rest → new ≡ old ++ size ∷ [] → old ++ later_sizes rest rest ≡ all → new ++ later_sizes left left ≡ all
next_size old new all rest left size some cut is put h =
    ap (λ (ns : List ℕ). ns ++ later_sizes left left) put ∙ ap (λ (c : ℕ). (old ++ size ∷ []) ++ later_sizes c c) cut ∙ append_assoc old (size ∷ []) (later_sizes (rest - ENTRY_TRIPLES) (rest - ENTRY_TRIPLES))
    ∙ ap (λ (c : ℕ). old ++ c ∷ later_sizes (rest - ENTRY_TRIPLES) (rest - ENTRY_TRIPLES)) is ∙ ap (λ (ns : List ℕ). old ++ ns) (sym (sizes_more rest some)) ∙ h

pub all_sizes : (old all : List ℕ) (rest : ℕ) → rest ≡ 0 → old ++ later_sizes rest rest ≡ all → old ≡ all
all_sizes old all rest none h = sym (append-nil old) ∙ ap (λ (ns : List ℕ). old ++ ns) (sym (sizes_none rest none)) ∙ h

pub sizes_told : (count pair size left : ℕ) (a b c : List ℕ) → a ≡ [] → b ≡ a ++ size ∷ [] → c ≡ b ++ later_sizes left left → size ≡ SHORTEST_ENTRY_BYTES + pair + TRIPLE_BYTES * min ENTRY_TRIPLES count → left ≡ count - ENTRY_TRIPLES → c ≡ entry_sizes count pair
unfolding entry_sizes
sizes_told count pair size left a b c first second third is cut =
    third ∙ ap (λ (ns : List ℕ). ns ++ later_sizes left left) (second ∙ ap (λ (ns : List ℕ). ns ++ size ∷ []) first) ∙ ap (λ (n : ℕ). n ∷ later_sizes left left) is ∙ ap (λ (n : ℕ). (SHORTEST_ENTRY_BYTES + pair + TRIPLE_BYTES * min ENTRY_TRIPLES count) ∷ later_sizes n n) cut

further_length : (j : Inode) (m : ℕ) (triples : List Triple) → entry_length (further_entry j m triples) ≡ SHORTEST_ENTRY_BYTES + TRIPLE_BYTES * length triples
unfolding entry_length pair_length
further_length j m triples = omega arith

later_length : (n : ℕ) (j : Inode) (m : ℕ) (triples : List Triple) → length triples ≤ n → map entry_length (later_entries j m triples) ≡ later_sizes (length triples) (length triples)
later_length n j m [] short = ap (map entry_length) (later_none j m [] refl) ∙ sym (sizes_none 0 refl)
later_length zero j m (t ∷ triples) short = absurd (omega arith)
later_length (suc n) j m (t ∷ triples) short =
    let less = shorter t triples in
    let cut : length (drop ENTRY_TRIPLES (t ∷ triples)) ≡ length (t ∷ triples) - ENTRY_TRIPLES = length-drop ENTRY_TRIPLES (t ∷ triples) in
    let first : entry_length (further_entry j m (take ENTRY_TRIPLES (t ∷ triples))) ≡ SHORTEST_ENTRY_BYTES + TRIPLE_BYTES * min ENTRY_TRIPLES (length (t ∷ triples)) = further_length j m (take ENTRY_TRIPLES (t ∷ triples)) ∙ ap (λ (c : ℕ). SHORTEST_ENTRY_BYTES + TRIPLE_BYTES * c) (length-take ENTRY_TRIPLES (t ∷ triples)) in
    let behind : map entry_length (later_entries j m (drop ENTRY_TRIPLES (t ∷ triples))) ≡ later_sizes (length (t ∷ triples) - ENTRY_TRIPLES) (length (t ∷ triples) - ENTRY_TRIPLES) =
    later_length n j m (drop ENTRY_TRIPLES (t ∷ triples)) (omega (arith, less, short)) ∙ ap (λ (c : ℕ). later_sizes c c) cut in
    ap (map entry_length) (later_more j m (t ∷ triples) (omega arith)) ∙ ap (λ (c : ℕ). c ∷ map entry_length (later_entries j m (drop ENTRY_TRIPLES (t ∷ triples)))) first ∙ ap (λ (ns : List ℕ). (SHORTEST_ENTRY_BYTES + TRIPLE_BYTES * min ENTRY_TRIPLES (length (t ∷ triples))) ∷ ns) behind ∙ sym (sizes_more (length (t ∷ triples)) (omega arith))

leading_length : (i j : Inode) (m : ℕ) → entry_length (leading_entry i j m) ≡ SHORTEST_ENTRY_BYTES + pair_length (pair_between i.attribute j.attribute) + TRIPLE_BYTES * min ENTRY_TRIPLES (length (triples_between i j))
unfolding leading_entry entry_length
leading_length i j m = ap (λ n. SHORTEST_ENTRY_BYTES + pair_length (pair_between i.attribute j.attribute) + TRIPLE_BYTES * n) (length-take ENTRY_TRIPLES (triples_between i j))

pub between_sizes : (i j : Inode) (m : ℕ) → map entry_length (entries_between i j m) ≡ entry_sizes (length (triples_between i j)) (pair_length (pair_between i.attribute j.attribute))
unfolding entries_between entry_sizes
between_sizes i j m =
    let cut : length (drop ENTRY_TRIPLES (triples_between i j)) ≡ length (triples_between i j) - ENTRY_TRIPLES = length-drop ENTRY_TRIPLES (triples_between i j) in
    let behind : map entry_length (later_entries j m (drop ENTRY_TRIPLES (triples_between i j))) ≡ later_sizes (length (triples_between i j) - ENTRY_TRIPLES) (length (triples_between i j) - ENTRY_TRIPLES) =
    later_length (length (drop ENTRY_TRIPLES (triples_between i j))) j m (drop ENTRY_TRIPLES (triples_between i j)) (omega arith) ∙ ap (λ (c : ℕ). later_sizes c c) cut in
    ap (λ (n : ℕ). n ∷ map entry_length (later_entries j m (drop ENTRY_TRIPLES (triples_between i j)))) (leading_length i j m) ∙ ap (λ (ns : List ℕ). (SHORTEST_ENTRY_BYTES + pair_length (pair_between i.attribute j.attribute) + TRIPLE_BYTES * min ENTRY_TRIPLES (length (triples_between i j))) ∷ ns) behind

-- ---- each entry

pub between_rules : (i j : Inode) (m : ℕ) → CanLead i j m → AllByRecursion (λ e. entry_rules e ≡ true) (entries_between i j m)
unfolding entries_between
between_rules i j m c = (can_keep i j m c, later_rules i j m (can_keep i j m c))

pub between_at : (i j : Inode) (m : ℕ) → AllAt m (entries_between i j m)
unfolding entries_between leading_entry
between_at i j m = (refl, later_each (λ e. e.moment ≡ m) (λ ts. ts ≡ ts) j m (λ ts h. refl) (λ ts h. refl) (λ ts h. refl) (length (drop ENTRY_TRIPLES (triples_between i j))) (drop ENTRY_TRIPLES (triples_between i j)) (omega arith) refl)

pub between_tell : (i j : Inode) (m : ℕ) → AllByRecursion (λ e. AreOf i j e.triples) (entries_between i j m)
unfolding entries_between leading_entry
between_tell i j m =
    (of_take i j ENTRY_TRIPLES (triples_between i j) (between_of i j), later_each (λ e. AreOf i j e.triples) (AreOf i j) j m (of_take i j ENTRY_TRIPLES) (of_drop i j ENTRY_TRIPLES) (λ ts h. h) (length (drop ENTRY_TRIPLES (triples_between i j))) (drop ENTRY_TRIPLES (triples_between i j)) (omega arith) (of_drop i j ENTRY_TRIPLES (triples_between i j) (between_of i j)))

later_count : (n : ℕ) (j : Inode) (m : ℕ) (triples : List Triple) → length triples ≤ n → ENTRY_TRIPLES * length (later_entries j m triples) ≤ length triples + (ENTRY_TRIPLES - 1)
later_count n j m [] short = let none : length (later_entries j m []) ≡ 0 = ap length (later_none j m [] refl) in omega (arith, none)
later_count zero j m (t ∷ triples) short = absurd (omega arith)
later_count (suc n) j m (t ∷ triples) short =
    let less = shorter t triples in
    let cut : length (drop ENTRY_TRIPLES (t ∷ triples)) ≡ length (t ∷ triples) - ENTRY_TRIPLES = length-drop ENTRY_TRIPLES (t ∷ triples) in
    let more : length (later_entries j m (t ∷ triples)) ≡ suc (length (later_entries j m (drop ENTRY_TRIPLES (t ∷ triples)))) = ap length (later_more j m (t ∷ triples) (omega arith)) in
    let behind = later_count n j m (drop ENTRY_TRIPLES (t ∷ triples)) (omega (arith, less, short)) in
    omega (arith, cut, more, behind)

pub between_count : (i j : Inode) (m : ℕ) → (1 ≤ length (entries_between i j m)) × (length (entries_between i j m) ≤ CHANGE_ENTRIES)
unfolding entries_between
between_count i j m =
    let few = between_length i j in
    let cut : length (drop ENTRY_TRIPLES (triples_between i j)) ≡ length (triples_between i j) - ENTRY_TRIPLES = length-drop ENTRY_TRIPLES (triples_between i j) in
    let later = later_count (length (drop ENTRY_TRIPLES (triples_between i j))) j m (drop ENTRY_TRIPLES (triples_between i j)) (omega arith) in
    (omega arith, omega (arith, few, cut, later))
