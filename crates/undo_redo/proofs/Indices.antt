-- The indices of an entry's triples are below OBJECT_BLOCKS.
use Rattle.std.proofs.Common.{◌≡◌, ℕ, zero, suc, ◌<◌, ◌≤◌, ◌+◌, Bool, true, leb, ltb, ◌&&◌, List, [], ◌∷◌, ◌++◌, take, drop, refl, arith}
use Rattle.std.specs.Prelude.{not, ◌||◌}
use Rattle.std.specs.List.{All, AllByRecursion, list_all}
use Rattle.std.proofs.lemmas.List.Elements.{All-from_recursion}
use Rattle.std.proofs.lemmas.Bool.{and_parts, and_from, ltb-true, leb-true, le-leb, lt-ltb}
use Rattle.s4_types.specs.declared.limits.TheConstants.{OBJECT_BYTES, OBJECT_BLOCKS}
use Rattle.codec.specs.declared.entries.Triple.{Triple}
use Rattle.undo_redo.specs.Groups.{above}
use Rattle.codec.specs.Entry.{EntryFields, same_slot, ascend_from, was_nothing, changes_now, differs, entry_rules}

-- the tests of a triple, and those of the ones after it
pub ascend_parts : (low : ℕ) (t : Triple) (triples : List Triple) → ascend_from low (t ∷ triples) ≡ true → ((leb low t.index && (ltb t.index OBJECT_BLOCKS && not (same_slot t.before t.after))) ≡ true) × (ascend_from (t.index + 1) triples ≡ true)
unfolding ascend_from
ascend_parts low t triples h = and_parts (leb low t.index && (ltb t.index OBJECT_BLOCKS && not (same_slot t.before t.after))) (ascend_from (t.index + 1) triples) h

pub all_are_low : (low : ℕ) (triples : List Triple) → ascend_from low triples ≡ true → AllByRecursion (λ t. t.index < OBJECT_BLOCKS) triples
all_are_low low [] h = tt
all_are_low low (t ∷ triples) h =
    let parts = ascend_parts low t triples h in
    let tests = and_parts (leb low t.index) (ltb t.index OBJECT_BLOCKS && not (same_slot t.before t.after)) parts.0 in
    (ltb-true t.index OBJECT_BLOCKS (and_parts (ltb t.index OBJECT_BLOCKS) (not (same_slot t.before t.after)) tests.1).0, all_are_low (t.index + 1) triples parts.1)

-- the rules of an entry, each by its name
pub record Rules (e : EntryFields) : Type 0 where
  pub moment : 1 ≤ e.moment
  pub one_alive : (e.before.alive || e.after.alive) ≡ true
  pub size_before : e.before.size ≤ OBJECT_BYTES
  pub size_after : e.after.size ≤ OBJECT_BYTES
  pub was : was_nothing e.before ≡ true
  pub now : changes_now e ≡ true
  pub pair : differs e.pair ≡ true
  pub ascend : ascend_from 0 e.triples ≡ true

pub rules_of : (e : EntryFields) → entry_rules e ≡ true → Rules e
unfolding entry_rules
rules_of e h =
    let a = and_parts (leb 1 e.moment) _ h in
    let b = and_parts (e.before.alive || e.after.alive) _ a.1 in
    let c = and_parts (leb e.before.size OBJECT_BYTES) _ b.1 in
    let d = and_parts (leb e.after.size OBJECT_BYTES) _ c.1 in
    let f = and_parts (was_nothing e.before) _ d.1 in
    let g = and_parts (changes_now e) _ f.1 in
    let k = and_parts (differs e.pair) (ascend_from 0 e.triples) g.1 in
    record { moment = leb-true 1 e.moment a.0; one_alive = b.0; size_before = leb-true e.before.size OBJECT_BYTES c.0; size_after = leb-true e.after.size OBJECT_BYTES d.0; was = f.0; now = g.0; pair = k.0; ascend = k.1 }

pub are_low : (e : EntryFields) → entry_rules e ≡ true → All (λ t. t.index < OBJECT_BLOCKS) e.triples
are_low e h = All-from_recursion (λ (t : Triple). t.index < OBJECT_BLOCKS) e.triples (all_are_low 0 e.triples (rules_of e h).ascend)

pub rules_made : (e : EntryFields) → Rules e → entry_rules e ≡ true
unfolding entry_rules
rules_made e r =
    and_from (leb 1 e.moment) _ (le-leb 1 e.moment r.moment)
    (and_from (e.before.alive || e.after.alive) _ r.one_alive
    (and_from (leb e.before.size OBJECT_BYTES) _ (le-leb e.before.size OBJECT_BYTES r.size_before)
    (and_from (leb e.after.size OBJECT_BYTES) _ (le-leb e.after.size OBJECT_BYTES r.size_after)
    (and_from (was_nothing e.before) _ r.was
    (and_from (changes_now e) _ r.now
    (and_from (differs e.pair) (ascend_from 0 e.triples) r.pair r.ascend))))))

-- ---- ascending indices

abbrev pub apart : Triple → Bool
apart t = ltb t.index OBJECT_BLOCKS && not (same_slot t.before t.after)

pub ascend_made : (low : ℕ) (t : Triple) (triples : List Triple) → low ≤ t.index → apart t ≡ true → ascend_from (t.index + 1) triples ≡ true → ascend_from low (t ∷ triples) ≡ true
unfolding ascend_from
ascend_made low t triples le h k = and_from (leb low t.index && apart t) (ascend_from (t.index + 1) triples) (and_from (leb low t.index) (apart t) (le-leb low t.index le) h) k

-- what ascends from an index on: the first is at or above it, its pointers differ, and the others ascend after it
pub record Ascends (low : ℕ) (t : Triple) (triples : List Triple) : Type 0 where
  pub least : low ≤ t.index
  pub apart : apart t ≡ true
  pub others : ascend_from (t.index + 1) triples ≡ true

pub ascends : (low : ℕ) (t : Triple) (triples : List Triple) → ascend_from low (t ∷ triples) ≡ true → Ascends low t triples
ascends low t triples h =
    let parts = ascend_parts low t triples h in
    let tests = and_parts (leb low t.index) (apart t) parts.0 in
    record { least = leb-true low t.index tests.0; apart = tests.1; others = parts.1 }

pub ascend_none : (low : ℕ) → ascend_from low [] ≡ true
unfolding ascend_from
ascend_none low = refl

pub ascend_weaker : (low high : ℕ) (triples : List Triple) → low ≤ high → ascend_from high triples ≡ true → ascend_from low triples ≡ true
ascend_weaker low high [] le h = ascend_none low
ascend_weaker low high (t ∷ triples) le h =
    let a = ascends high t triples h in
    let up : high ≤ t.index = a.least in
    ascend_made low t triples (omega arith) a.apart a.others

pub ascend_take : (n low : ℕ) (triples : List Triple) → ascend_from low triples ≡ true → ascend_from low (take n triples) ≡ true
ascend_take zero low triples h = ascend_none low
ascend_take (suc n) low [] h = h
ascend_take (suc n) low (t ∷ triples) h = let a = ascends low t triples h in ascend_made low t (take n triples) a.least a.apart (ascend_take n (t.index + 1) triples a.others)

pub ascend_drop : (n low : ℕ) (triples : List Triple) → ascend_from low triples ≡ true → ascend_from low (drop n triples) ≡ true
ascend_drop zero low triples h = h
ascend_drop (suc n) low [] h = h
ascend_drop (suc n) low (t ∷ triples) h =
    let a = ascends low t triples h in
    let up : low ≤ t.index = a.least in
    ascend_weaker low (t.index + 1) (drop n triples) (omega arith) (ascend_drop n (t.index + 1) triples a.others)

pub ascend_front : (low : ℕ) (front back : List Triple) → ascend_from low (front ++ back) ≡ true → ascend_from low front ≡ true
ascend_front low [] back h = ascend_none low
ascend_front low (t ∷ front) back h = let a = ascends low t (front ++ back) h in ascend_made low t front a.least a.apart (ascend_front (t.index + 1) front back a.others)

-- a triple after others is at or above where they begin, and ascends with those after it from its own index on
pub ascend_reaches : (low : ℕ) (front : List Triple) (t : Triple) (back : List Triple) → ascend_from low (front ++ t ∷ back) ≡ true → (low ≤ t.index) × (ascend_from t.index (t ∷ back) ≡ true)
ascend_reaches low [] t back h = let a = ascends low t back h in (a.least, ascend_made t.index t back (omega arith) a.apart a.others)
ascend_reaches low (u ∷ front) t back h =
    let a = ascends low u (front ++ t ∷ back) h in
    let up : low ≤ u.index = a.least in
    let behind = ascend_reaches (u.index + 1) front t back a.others in
    let more : u.index + 1 ≤ t.index = behind.0 in
    (omega arith, behind.1)

-- ---- pieces of ascending triples stand above one another

first_below : (k low : ℕ) (triples : List Triple) → k < low → ascend_from low triples ≡ true → list_all (λ t. ltb k t.index) triples ≡ true
first_below k low [] lt h = refl
first_below k low (t ∷ triples) lt h =
    let a = ascends low t triples h in
    let up : low ≤ t.index = a.least in
    and_from (ltb k t.index) (list_all (λ u. ltb k u.index) triples) (lt-ltb k t.index (omega arith)) (first_below k (t.index + 1) triples (omega arith) a.others)

above_none : (higher : List Triple) → above [] higher ≡ true
above_none [] = refl
above_none (t ∷ higher) = above_none higher

above_more : (u : Triple) (lower higher : List Triple) → list_all (λ t. ltb u.index t.index) higher ≡ true → above lower higher ≡ true → above (u ∷ lower) higher ≡ true
above_more u lower [] h k = refl
above_more u lower (t ∷ higher) h k =
    let a = and_parts (ltb u.index t.index) (list_all (λ s. ltb u.index s.index) higher) h in
    let b = and_parts (list_all (λ s. ltb s.index t.index) lower) (above lower higher) k in
    and_from (ltb u.index t.index && list_all (λ s. ltb s.index t.index) lower) (above (u ∷ lower) higher) (and_from (ltb u.index t.index) (list_all (λ s. ltb s.index t.index) lower) a.0 b.0) (above_more u lower higher a.1 b.1)

pub above_pieces : (n low : ℕ) (triples : List Triple) → ascend_from low triples ≡ true → above (take n triples) (drop n triples) ≡ true
above_pieces zero low triples h = above_none triples
above_pieces (suc n) low [] h = refl
above_pieces (suc n) low (t ∷ triples) h =
    let a = ascends low t triples h in
    above_more t (take n triples) (drop n triples) (first_below t.index (t.index + 1) (drop n triples) (omega arith) (ascend_drop n (t.index + 1) triples a.others)) (above_pieces n (t.index + 1) triples a.others)
