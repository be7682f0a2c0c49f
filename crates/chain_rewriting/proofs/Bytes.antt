-- The entries of a kept chain take no more bytes than the old ones.
use Rattle.std.proofs.Common.{◌≡◌, ℕ, zero, suc, ◌+◌, ◌*◌, ◌-◌, ◌<◌, ◌≤◌, ◌==◌, Bool, true, false, cond, inl, inr, List, [], ◌∷◌, ◌++◌, length, map, slice_index_or, Option, Some, None, refl, sym, ap, subst, ◌∙◌, arith}
use Rattle.std.specs.Prelude.{◌||◌, not, IfSome}
use Rattle.std.specs.List.{filter, range_with_len, AllByRecursion}
use Rattle.std.specs.Cmp.Lexicographic.{pointwise}
use Rattle.std.proofs.lemmas.Bool.{cases_Bool, cases_eq, or_parts, ne_eqb, eq-eqb}
use lib.Pointwise.{bytes_decides}
use Rattle.s4_types.specs.Pointer.{Place}
use Rattle.s4_types.specs.declared.limits.TheConstants.{OBJECT_BLOCKS, ENTRY_TRIPLES, SHORTEST_ENTRY_BYTES, TRIPLE_BYTES}
use Rattle.codec.specs.declared.inodes.Inode.{Inode}
use Rattle.codec.specs.declared.entries.Pair.{Pair}
use Rattle.codec.specs.declared.entries.Triple.{Triple}
use Rattle.codec.specs.Checkpoint.{pointer_at}
use Rattle.codec.specs.Entry.{EntryFields, same_slot, pair_length, entry_length, entries_length}
use Rattle.codec.proofs.Fronts.{bit_most}
use Rattle.codec.proofs.JournalEntries.{entries_none}
use Rattle.undo_redo.specs.Linked.{Linked, AreSides, pointer_after}
use Rattle.undo_redo.specs.Redone.{redone}
use Rattle.undo_redo.specs.Between.{pair_between, triple_between, tells_apart, triples_below, triples_between, entries_between}
use Rattle.undo_redo.specs.Sizes.{later_sizes, entry_sizes}
use Rattle.undo_redo.proofs.Slots.{same_slot_itself}
use Rattle.chain_rewriting.specs.Cleaned.{Span, KeptChain, span_of, stays, kept, led, step, entries_over, chain_of}
use Rattle.chain_rewriting.specs.Chains.{IsChain}
use Rattle.chain_rewriting.specs.CleaningLaws.{AKeptChainTakesNoMoreBytes}
use Rattle.chain_rewriting.proofs.Leading.{Onward, begun, led_live, led_dead, kept_stays, kept_goes}
use Rattle.chain_rewriting.proofs.Grouped.{of_step, of_cleaned}
use Rattle.chain_rewriting.specs.private.Resting.{Redoes}

-- ---- attributes

-- the pair of two attributes, by whether they are the same
abbrev pair_if : Bool → List ℕ → List ℕ → Option Pair
pair_if same a b = cond same None (Some (record { before = a; after = b }))

pair_most : (same : Bool) (a b : List ℕ) → pair_length (pair_if same a b) ≤ (1 + length a) + (1 + length b)
unfolding pair_length
pair_most true a b = omega arith
pair_most false a b = omega arith

pub pair_whole : (a b : List ℕ) → pointwise ◌==◌ a b ≡ false → pair_length (pair_between a b) ≡ (1 + length a) + (1 + length b)
unfolding pair_length
pair_whole a b differ = ap (λ (same : Bool). pair_length (pair_if same a b)) differ

pub pair_none : (a b : List ℕ) → a ≡ b → pair_length (pair_between a b) ≡ 0
unfolding pair_length
pair_none a b is = ap (λ (same : Bool). pair_length (pair_if same a b)) ((bytes_decides a b).1 is)

-- an entry's pair tells of both its sides
told_pair : (b c : List ℕ) (p : Pair) → AreSides (Some p) b c → pair_length (Some p) ≡ (1 + length b) + (1 + length c)
unfolding pair_length
told_pair b c p is = sym (ap (λ (x : List ℕ). (1 + length x) + (1 + length c)) is.0 ∙ ap (λ (x : List ℕ). (1 + length p.before) + (1 + length x)) is.1)

-- After an entry, the pair from an earlier attribute on has at most the entry's pair more: what a pair tells first and
-- last, it tells of one side each, and each of the pairs between tells of both.
pair_more : (a b c : List ℕ) (pair : Option Pair) → AreSides pair b c → pair_length (pair_between a c) ≤ pair_length (pair_between a b) + pair_length pair
pair_more a b c None is = let same = ap (λ (x : List ℕ). pair_length (pair_between a x)) is in omega (arith, same)
pair_more a b c (Some p) is =
    let told = told_pair b c p is in
    let most = pair_most (pointwise ◌==◌ a c) a c in
    elim (cases_Bool (pointwise ◌==◌ a b)) [
      | inl same ↦ (let count = ap (λ (x : List ℕ). length x) ((bytes_decides a b).0 same) in omega (arith, told, most, count))
      | inr differ ↦ (let whole = pair_whole a b differ in omega (arith, told, most, whole))
    ]

-- ---- pointers

-- some triple is of this index
abbrev tells : List Triple → ℕ → Bool
tells [] n = false
tells (t ∷ triples) n = (t.index == n) || tells triples n

untold : (triples : List Triple) (n : ℕ) (p : Option Place) → tells triples n ≡ false → pointer_after triples n p ≡ p
untold [] n p not_told = refl
untold (t ∷ triples) n p not_told =
    let parts = or_parts (t.index == n) (tells triples n) not_told in
    ap (λ (b : Bool). pointer_after triples n (cond b t.after p)) parts.0 ∙ untold triples n p parts.1

abbrev one_if : Bool → ℕ
one_if b = cond b 1 0

-- of how many numbers from one on, among this many, a test is true
abbrev count_from : (ℕ → Bool) → ℕ → ℕ → ℕ
count_from test a zero = 0
count_from test a (suc n) = one_if (test a) + count_from test (a + 1) n

count_past : (k a n : ℕ) → k < a → count_from (λ m. k == m) a n ≡ 0
count_past k a zero lt = refl
count_past k a (suc n) lt =
    let behind = count_past k (a + 1) n (omega arith) in
    let not_here : one_if (k == a) ≡ 0 = ap one_if (ne_eqb k a (λ is. omega (arith, is, lt))) in
    omega (arith, behind, not_here)

count_one : (k a n : ℕ) → count_from (λ m. k == m) a n ≤ 1
count_one k a zero = omega arith
count_one k a (suc n) = elim (cases_eq k a) [
  | inl is ↦ (let behind = count_past k (a + 1) n (omega (arith, is)) in
      let here : one_if (k == a) ≡ 1 = ap one_if (eq-eqb k a is) in
      omega (arith, behind, here))
  | inr other ↦ (let behind = count_one k (a + 1) n in
      let not_here : one_if (k == a) ≡ 0 = ap one_if (ne_eqb k a other) in
      omega (arith, behind, not_here))
]

either : (x y : Bool) → one_if (x || y) ≤ one_if x + one_if y
either true true = omega arith
either true false = omega arith
either false true = omega arith
either false false = omega arith

count_either : (f g : ℕ → Bool) (a n : ℕ) → count_from (λ m. f m || g m) a n ≤ count_from f a n + count_from g a n
count_either f g a zero = omega arith
count_either f g a (suc n) =
    let here = either (f a) (g a) in
    let behind = count_either f g (a + 1) n in
    omega (arith, here, behind)

-- triples tell of no more indices than there are triples
count_tells : (triples : List Triple) (a n : ℕ) → count_from (tells triples) a n ≤ length triples
count_tells [] a zero = omega arith
count_tells [] a (suc n) = let behind = count_tells [] (a + 1) n in omega (arith, behind)
count_tells (t ∷ triples) a n =
    let both = count_either (λ m. t.index == m) (tells triples) a n in
    let first = count_one t.index a n in
    let others = count_tells triples a n in
    omega (arith, both, first, others)

-- the pointers that differ from an index on, among this many
abbrev stretch : Inode → Inode → ℕ → ℕ → List Triple
stretch i j a n = filter tells_apart (map (triple_between i j) (range_with_len a n))

next_length : (b : Bool) (t : Triple) (triples : List Triple) → length (cond b (t ∷ triples) triples) ≡ one_if b + length triples
next_length true t triples = omega arith
next_length false t triples = omega arith

stretch_next : (i j : Inode) (a n : ℕ) → length (stretch i j a (suc n)) ≡ one_if (tells_apart (triple_between i j a)) + length (stretch i j (a + 1) n)
stretch_next i j a n = next_length (tells_apart (triple_between i j a)) (triple_between i j a) (stretch i j (a + 1) n)

-- where a pointer changes of which the triples tell alone, no more pointers differ but as many as they tell of
stretch_more : (p i j : Inode) (triples : List Triple) (a n : ℕ) → ((m : ℕ) → m < a + n → tells triples m ≡ false → pointer_at j m ≡ pointer_at i m) → length (stretch p j a n) ≤ length (stretch p i a n) + count_from (tells triples) a n
stretch_more p i j triples a zero same = omega arith
stretch_more p i j triples a (suc n) same =
    let behind = stretch_more p i j triples (a + 1) n (λ m lt. same m (omega (arith, lt))) in
    let now = stretch_next p j a n in
    let was = stretch_next p i a n in
    elim (cases_Bool (tells triples a)) [
      | inl is ↦ (let here : one_if (tells triples a) ≡ 1 = ap one_if is in
          let one = bit_most (tells_apart (triple_between p j a)) in
          omega (arith, behind, now, was, here, one))
      | inr not_told ↦ (let alike : one_if (tells_apart (triple_between p j a)) ≡ one_if (tells_apart (triple_between p i a)) = ap (λ (q : Option Place). one_if (not (same_slot (pointer_at p a) q))) (same a (omega arith) not_told) in
          omega (arith, behind, now, was, alike))
    ]

stretch_none : (i j : Inode) (a n : ℕ) → ((m : ℕ) → pointer_at i m ≡ pointer_at j m) → length (stretch i j a n) ≡ 0
stretch_none i j a zero same = refl
stretch_none i j a (suc n) same =
    let behind = stretch_none i j (a + 1) n same in
    let next = stretch_next i j a n in
    let alike : same_slot (pointer_at i a) (pointer_at j a) ≡ true = subst (λ (q : Option Place). same_slot (pointer_at i a) q ≡ true) (same a) (same_slot_itself (pointer_at i a)) in
    let not_here : one_if (tells_apart (triple_between i j a)) ≡ 0 = ap (λ (b : Bool). one_if (not b)) alike in
    omega (arith, behind, next, not_here)

triples_are : (i j : Inode) (n : ℕ) → n ≡ OBJECT_BLOCKS → length (triples_between i j) ≡ length (stretch i j 0 n)
unfolding triples_between triples_below
triples_are i j n is = sym (ap (λ (m : ℕ). length (triples_below m i j)) is)

triples_more_of : (n : ℕ) → n ≡ OBJECT_BLOCKS → (p i j : Inode) (e : EntryFields) → Linked i e j → length (triples_between p j) ≤ length (triples_between p i) + length e.triples
triples_more_of n is p i j e l =
    let more = stretch_more p i j e.triples 0 n (λ m lt not_told. l.forth m (omega (arith, lt, is)) ∙ untold e.triples m (pointer_at i m) not_told) in
    let few = count_tells e.triples 0 n in
    let now = triples_are p j n is in
    let was = triples_are p i n is in
    omega (arith, more, few, now, was)

triples_none_of : (n : ℕ) → n ≡ OBJECT_BLOCKS → (i j : Inode) → ((m : ℕ) → pointer_at i m ≡ pointer_at j m) → length (triples_between i j) ≡ 0
triples_none_of n is i j same = triples_are i j n is ∙ stretch_none i j 0 n same

-- ---- the bytes of a step

abbrev total : List ℕ → ℕ
total [] = 0
total (n ∷ ns) = n + total ns

later_total : (q n c : ℕ) → c ≤ ENTRY_TRIPLES * q → total (later_sizes n c) ≤ SHORTEST_ENTRY_BYTES * q + TRIPLE_BYTES * c
unfolding later_sizes
later_total q zero c h = omega arith
later_total q (suc n) zero h = omega arith
later_total zero (suc n) (suc c) h = absurd (omega arith)
later_total (suc q) (suc n) (suc c) h =
    let rest = later_total q n (suc c - ENTRY_TRIPLES) (omega arith) in
    omega (arith, rest)

sizes_total : (k c bytes : ℕ) → 1 ≤ k → c ≤ ENTRY_TRIPLES * k → total (entry_sizes c bytes) ≤ SHORTEST_ENTRY_BYTES * k + bytes + TRIPLE_BYTES * c
unfolding entry_sizes
sizes_total zero c bytes some h = absurd (omega arith)
sizes_total (suc q) c bytes some h =
    let rest = later_total q (c - ENTRY_TRIPLES) (c - ENTRY_TRIPLES) (omega arith) in
    omega (arith, rest)

entries_total : (entries : List EntryFields) → entries_length entries ≡ total (map entry_length entries)
unfolding entries_length
entries_total [] = refl
entries_total (e ∷ entries) = ap (λ (n : ℕ). entry_length e + n) (entries_total entries)

abbrev pub BetweenSizes : Type 0
BetweenSizes = (i j : Inode) (m : ℕ) → map entry_length (entries_between i j m) ≡ entry_sizes (length (triples_between i j)) (pair_length (pair_between i.attribute j.attribute))

abbrev pub BytesAdd : Type 0
BytesAdd = (front back : List EntryFields) → entries_length (front ++ back) ≡ entries_length front + entries_length back

-- the laws of the layers below
pub record Facts : Type 0 where
  pub redoes : Redoes
  pub sizes : BetweenSizes
  pub add : BytesAdd

-- From one inode to another lead this many entries whose pairs have this many bytes and whose triples are this many: no less than
-- the pair and the pointers in which the two differ.
record Carried (p i : Inode) (k bytes triples : ℕ) : Type 0 where
  pair : pair_length (pair_between p.attribute i.attribute) ≤ bytes
  pointers : length (triples_between p i) ≤ triples
  most : triples ≤ ENTRY_TRIPLES * k

carried_none : (p i : Inode) (k bytes triples : ℕ) → p.attribute ≡ i.attribute → p.pointers ≡ i.pointers → triples ≤ ENTRY_TRIPLES * k → Carried p i k bytes triples
carried_none p i k bytes triples attribute pointers most =
    let pair = pair_none p.attribute i.attribute attribute in
    let none = triples_none_of OBJECT_BLOCKS refl p i (λ m. ap (λ (ps : List (Option Place)). slice_index_or ps m None) pointers) in
    record { pair = omega (arith, pair); pointers = omega (arith, none); most = most }

carried_more : (p i j : Inode) (e : EntryFields) (k bytes triples : ℕ) → Carried p i k bytes triples → Linked i e j → length e.triples ≤ ENTRY_TRIPLES → Carried p j (k + 1) (bytes + pair_length e.pair) (triples + length e.triples)
carried_more p i j e k bytes triples c l few =
    let pair = pair_more p.attribute i.attribute j.attribute e.pair l.attribute in
    let told = triples_more_of OBJECT_BLOCKS refl p i j e l in
    let old_pair = c.pair in
    let old_told = c.pointers in
    let most = c.most in
    record { pair = omega (arith, pair, old_pair); pointers = omega (arith, told, old_told); most = omega (arith, most, few) }

carried_led : (p i : Inode) (k bytes triples : ℕ) → Carried p i k bytes triples → Carried p (led p i) k bytes triples
carried_led p i k bytes triples c = elim (cases_Bool i.alive) [
  | inl live ↦ subst (λ (j : Inode). Carried p j k bytes triples) (sym (led_live p i live)) c
  | inr dead ↦ subst (λ (j : Inode). Carried p j k bytes triples) (sym (led_dead p i dead)) (carried_none p (record p { alive = false }) k bytes triples refl refl c.most)
]

between_bytes : Facts → (p j : Inode) (m k bytes triples : ℕ) → 1 ≤ k → Carried p j k bytes triples → entries_length (entries_between p j m) ≤ SHORTEST_ENTRY_BYTES * k + bytes + TRIPLE_BYTES * triples
between_bytes f p j m k bytes triples some c =
    let count : ℕ = length (triples_between p j) in
    let pair : ℕ = pair_length (pair_between p.attribute j.attribute) in
    let pair_most : pair ≤ bytes = c.pair in
    let few : count ≤ triples = c.pointers in
    let most = c.most in
    let whole : entries_length (entries_between p j m) ≡ total (entry_sizes count pair) = entries_total (entries_between p j m) ∙ ap total (f.sizes p j m) in
    let total = sizes_total k count pair some (omega (arith, few, most)) in
    omega (arith, pair_most, few, whole, total)

step_bytes : Facts → (p : Inode) (s : Span) (k bytes triples : ℕ) → 1 ≤ k → Carried p s.inode k bytes triples → entries_length (step p s) ≤ SHORTEST_ENTRY_BYTES * k + bytes + TRIPLE_BYTES * triples
step_bytes f p s k bytes triples some c =
    of_step (λ es. entries_length es ≤ SHORTEST_ENTRY_BYTES * k + bytes + TRIPLE_BYTES * triples) p s (omega (arith, entries_none)) (λ is. between_bytes f p (led p s.inode) s.from k bytes triples some (carried_led p s.inode k bytes triples c))

-- ---- the bytes of all steps

one_long : (e : EntryFields) (entries : List EntryFields) → entries_length (e ∷ entries) ≡ (SHORTEST_ENTRY_BYTES + pair_length e.pair + TRIPLE_BYTES * length e.triples) + entries_length entries
unfolding entries_length entry_length
one_long e entries = refl

abbrev Few : List EntryFields → Type 0
Few entries = AllByRecursion (λ e. length e.triples ≤ ENTRY_TRIPLES) entries

over_bytes : Facts → (sees : ℕ → ℕ → Bool) (clock : ℕ) (p i : Inode) (from : ℕ) (entries : List EntryFields) (k bytes triples : ℕ) → 1 ≤ k → Carried p i k bytes triples → Onward i entries → Few entries → entries_length (entries_over p (kept sees clock i from entries)) ≤ (SHORTEST_ENTRY_BYTES * k + bytes + TRIPLE_BYTES * triples) + entries_length entries
over_bytes f sees clock p i from [] k bytes triples some c o few =
    let last = step_bytes f p (span_of i from clock) k bytes triples some c in
    let whole = f.add (step p (span_of i from clock)) [] in
    omega (arith, last, whole)
over_bytes f sees clock p i from (e ∷ entries) k bytes triples some c o few =
    let s : Span = span_of i from (e.moment - 1) in
    let next : Inode = redone e i in
    let behind : List Span = kept sees clock next e.moment entries in
    let long = one_long e entries in
    elim (cases_Bool (stays sees from e.moment)) [
      | inl is ↦ (let same : led p i ≡ i = led_live p i o.0 in
          let spans : entries_over p (kept sees clock i from (e ∷ entries)) ≡ step p s ++ entries_over i behind = ap (λ (ss : List Span). entries_over p ss) (kept_stays sees clock i from e entries is) ∙ ap (λ (j : Inode). step p s ++ entries_over j behind) same in
          let first = step_bytes f p s k bytes triples some c in
          let rest = over_bytes f sees clock i next e.moment entries (0 + 1) (0 + pair_length e.pair) (0 + length e.triples) (omega arith) (carried_more i i next e 0 0 0 (carried_none i i 0 0 0 refl refl (omega arith)) o.1 few.0) o.3 few.1 in
          let whole = ap (λ (es : List EntryFields). entries_length es) spans ∙ f.add (step p s) (entries_over i behind) in
          omega (arith, long, first, rest, whole))
      | inr gone ↦ (let spans = ap (λ (ss : List Span). entries_length (entries_over p ss)) (kept_goes sees clock i from e entries gone) in
          let rest = over_bytes f sees clock p next e.moment entries (k + 1) (bytes + pair_length e.pair) (triples + length e.triples) (omega arith) (carried_more p i next e k bytes triples c o.1 few.0) o.3 few.1 in
          omega (arith, long, spans, rest))
    ]

abbrev ChainWithin : ℕ → Option KeptChain → Type 0
ChainWithin most o = IfSome o (λ chain. entries_length chain.entries ≤ most)

within_more : (least most : ℕ) (o : Option KeptChain) → least ≤ most → ChainWithin least o → ChainWithin most o
within_more least most None le h = tt
within_more least most (Some chain) le h = omega (arith, le, h)

-- an inode, dead or live, and the entries from it on
begin_bytes : Facts → (sees : ℕ → ℕ → Bool) (clock : ℕ) (i : Inode) (from : ℕ) (e : EntryFields) (entries : List EntryFields) → Linked i e (redone e i) → Onward (redone e i) entries → Few (e ∷ entries) → ChainWithin (entries_length entries) (chain_of (kept sees clock (redone e i) e.moment entries)) → ChainWithin (entries_length (e ∷ entries)) (chain_of (kept sees clock i from (e ∷ entries)))
begin_bytes f sees clock i from e entries l o few later =
    let long = one_long e entries in
    elim (cases_Bool (stays sees from e.moment)) [
      | inl is ↦ subst (λ (ss : List Span). ChainWithin (entries_length (e ∷ entries)) (chain_of ss)) (sym (kept_stays sees clock i from e entries is)) (let rest = over_bytes f sees clock i (redone e i) e.moment entries (0 + 1) (0 + pair_length e.pair) (0 + length e.triples) (omega arith) (carried_more i i (redone e i) e 0 0 0 (carried_none i i 0 0 0 refl refl (omega arith)) l few.0) o few.1 in omega (arith, long, rest))
      | inr gone ↦ subst (λ (ss : List Span). ChainWithin (entries_length (e ∷ entries)) (chain_of ss)) (sym (kept_goes sees clock i from e entries gone)) (within_more (entries_length entries) (entries_length (e ∷ entries)) (chain_of (kept sees clock (redone e i) e.moment entries)) (omega (arith, long)) later)
    ]

later_bytes : Facts → (sees : ℕ → ℕ → Bool) (clock : ℕ) (i : Inode) (from : ℕ) (entries : List EntryFields) → Onward i entries → Few entries → ChainWithin (entries_length entries) (chain_of (kept sees clock i from entries))
later_bytes f sees clock i from [] o few = omega arith
later_bytes f sees clock i from (e ∷ entries) o few = begin_bytes f sees clock i from e entries o.1 o.3 few (later_bytes f sees clock (redone e i) e.moment entries o.3 few.1)

chain_bytes : Facts → (c latest clock : ℕ) (sees : ℕ → ℕ → Bool) (first : Inode) (entries : List EntryFields) → IsChain c latest first entries → Few entries → ChainWithin (entries_length entries) (chain_of (kept sees clock first 0 entries))
chain_bytes f c latest clock sees first [] h few = omega arith
chain_bytes f c latest clock sees first (e ∷ entries) h few =
    let on = begun f.redoes c latest first e entries h in
    begin_bytes f sees clock first 0 e entries on.0 on.1 few (later_bytes f sees clock (redone e first) e.moment entries on.1 few.1)

pub cleaned_bytes : Facts → AKeptChainTakesNoMoreBytes
cleaned_bytes f sees created latest clock first entries h few =
    of_cleaned (λ chain. entries_length chain.entries ≤ entries_length entries) sees clock first entries (λ some. chain_bytes f created latest clock sees first entries h few)
