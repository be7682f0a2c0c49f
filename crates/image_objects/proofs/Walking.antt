-- A walk goes on block by block, and reaches the entries of a chain that keeps the rule of packing, and of no other.
use Rattle.std.proofs.Common.{◌≡◌, ℕ, zero, suc, ◌+◌, ◌-◌, ◌<◌, ◌≤◌, ◌&&◌, Bool, true, false, leb, ltb, cond, inl, inr, List, [], ◌∷◌, ◌++◌, length, reverse, Option, Some, None, refl, sym, ap, ◌∙◌, subst, append_assoc, append-nil, add-one, arith}
use Rattle.std.proofs.lemmas.Bool.{cases_Bool, and_parts, and_from, ltb-true, ltb-false, leb-true, lt-ltb, le-ltb, le-leb}
use Rattle.std.proofs.lemmas.Option.{none-some, same_Some, cond_some}
use Rattle.s4_types.specs.Pointer.{Place}
use Rattle.s4_types.specs.declared.limits.TheConstants.{JOURNAL_ENTRY_BYTES}
use Rattle.codec.specs.Fields.{◌>>=◌, kept}
use Rattle.codec.specs.Entry.{EntryFields, entries_length_by}
use Rattle.codec.specs.Journal.{JournalFields, journal_rules_by}
use Rattle.codec.specs.declared.versions.ImageVersion.{ImageVersion}
use Rattle.codec.proofs.Exact.{bind_some}
use Rattle.journal_chain.specs.Packing.{joined}
use Rattle.image_objects.specs.Versions.{first_length_by, IsBlockBy, IsBehindBy, KeepsTheRuleBy}
use Rattle.journal_chain.specs.Chain.{Link, linked, links_from, blocks_of}
use Rattle.journal_chain.proofs.Spelled.{bind_is}
use Rattle.image_objects.specs.private.Walked.{stands_before, walked, reached}

bind_none : {A B : Type 0} (o : Option A) (f : A → Option B) → o ≡ None → (o >>= f) ≡ None
bind_none o f h = ap (λ p. p >>= f) h

-- the steps of a walk that has found a block
abbrev OnFrom : ImageVersion → ℕ → (Place → Option JournalFields) → ℕ → JournalFields → Option (List EntryFields)
OnFrom v left blocks size block = kept (stands_before v size block.entries) block.entries >>= λ entries. walked v left blocks (first_length_by v entries) block.previous >>= λ older. Some (older ++ entries)

-- ---- the test of a block

parts_of_rules : (v : ImageVersion) (j : JournalFields) → journal_rules_by v j ≡ true → (leb 1 (length j.entries) ≡ true) × (leb (entries_length_by v j.entries) JOURNAL_ENTRY_BYTES ≡ true)
unfolding journal_rules_by
parts_of_rules v j h =
    let rest = and_parts (leb 1 j.object) (leb 1 (length j.entries) && leb (entries_length_by v j.entries) JOURNAL_ENTRY_BYTES) h in
    and_parts (leb 1 (length j.entries)) (leb (entries_length_by v j.entries) JOURNAL_ENTRY_BYTES) rest.1

pub rules_fit : (v : ImageVersion) (j : JournalFields) → journal_rules_by v j ≡ true → entries_length_by v j.entries ≤ JOURNAL_ENTRY_BYTES
rules_fit v j h = leb-true (entries_length_by v j.entries) JOURNAL_ENTRY_BYTES (parts_of_rules v j h).1

same_test : (all size : ℕ) → all ≤ JOURNAL_ENTRY_BYTES → ltb JOURNAL_ENTRY_BYTES (all + size) ≡ ltb (JOURNAL_ENTRY_BYTES - all) size
same_test all size le = elim (cases_Bool (ltb (JOURNAL_ENTRY_BYTES - all) size)) [
  | inl more ↦ (let lt : JOURNAL_ENTRY_BYTES - all < size = ltb-true (JOURNAL_ENTRY_BYTES - all) size more in
      lt-ltb JOURNAL_ENTRY_BYTES (all + size) (omega arith) ∙ sym more)
  | inr fits ↦ (let few : size ≤ JOURNAL_ENTRY_BYTES - all = ltb-false (JOURNAL_ENTRY_BYTES - all) size fits in
      le-ltb JOURNAL_ENTRY_BYTES (all + size) (omega arith) ∙ sym fits)
]

stands_is : (v : ImageVersion) (size : ℕ) (j : JournalFields) → journal_rules_by v j ≡ true → stands_before v size j.entries ≡ ltb (JOURNAL_ENTRY_BYTES - entries_length_by v j.entries) size
unfolding stands_before
stands_is v size j rules =
    let some : 1 ≤ length j.entries = leb-true 1 (length j.entries) (parts_of_rules v j rules).0 in
    let fit : entries_length_by v j.entries ≤ JOURNAL_ENTRY_BYTES = rules_fit v j rules in
    let test = ltb JOURNAL_ENTRY_BYTES (entries_length_by v j.entries + size) in
    ap (λ b. b && (leb (entries_length_by v j.entries) JOURNAL_ENTRY_BYTES && test)) (lt-ltb 0 (length j.entries) (omega (arith, some)))
    ∙ ap (λ b. b && test) (le-leb (entries_length_by v j.entries) JOURNAL_ENTRY_BYTES fit)
    ∙ same_test (entries_length_by v j.entries) size fit

-- ---- one block more

joined_on : (found : Option (List EntryFields)) (here entries later : List EntryFields) → reverse later ≡ here ++ reverse entries
    → ((found >>= λ older. Some (older ++ here)) >>= λ older. Some (older ++ reverse entries)) ≡ (found >>= λ older. Some (older ++ reverse later))
joined_on None here entries later is = refl
joined_on (Some older) here entries later is = ap Some (append_assoc older here (reverse entries) ∙ ap (λ (l : List EntryFields). older ++ l) (sym is))

one_more : (v : ImageVersion) (left size : ℕ) (blocks : Place → Option JournalFields) (p : Place) (j : JournalFields) (entries later : List EntryFields) (good : Bool) → blocks p ≡ Some j → stands_before v size j.entries ≡ good → reverse later ≡ j.entries ++ reverse entries
    → reached v (suc left) blocks size (Some p) entries ≡ cond good (reached v left blocks (first_length_by v j.entries) j.previous later) None
unfolding reached walked
one_more v left size blocks p j entries later true here stands is =
    ap (λ (o : Option (List EntryFields)). o >>= λ older. Some (older ++ reverse entries)) (bind_is (blocks p) (OnFrom v left blocks size) j here)
    ∙ ap (λ b. (kept b j.entries >>= λ xs. walked v left blocks (first_length_by v xs) j.previous >>= λ older. Some (older ++ xs)) >>= λ older. Some (older ++ reverse entries)) stands
    ∙ joined_on (walked v left blocks (first_length_by v j.entries) j.previous) j.entries entries later is
one_more v left size blocks p j entries later false here stands is =
    ap (λ (o : Option (List EntryFields)). o >>= λ older. Some (older ++ reverse entries)) (bind_is (blocks p) (OnFrom v left blocks size) j here)
    ∙ ap (λ b. (kept b j.entries >>= λ xs. walked v left blocks (first_length_by v xs) j.previous >>= λ older. Some (older ++ xs)) >>= λ older. Some (older ++ reverse entries)) stands

-- what taking a block makes of a walk
pub goes : (v : ImageVersion) (left size all first : ℕ) (blocks : Place → Option JournalFields) (p : Place) (j : JournalFields) (previous before : Option Place) (entries later : List EntryFields)
    → journal_rules_by v j ≡ true → before ≡ Some p → blocks p ≡ Some j → all ≡ entries_length_by v j.entries → first ≡ first_length_by v j.entries → previous ≡ j.previous → reverse later ≡ j.entries ++ reverse entries
    → reached v (left + 1) blocks size before entries ≡ cond (ltb (JOURNAL_ENTRY_BYTES - all) size) (reached v left blocks first previous later) None
goes v left size all first blocks p j previous before entries later rules from here all_is first_is previous_is is =
    ap (λ n. reached v n blocks size before entries) (add-one left)
    ∙ ap (λ (q : Option Place). reached v (suc left) blocks size q entries) from
    ∙ one_more v left size blocks p j entries later (ltb (JOURNAL_ENTRY_BYTES - entries_length_by v j.entries) size) here (stands_is v size j rules) is
    ∙ ap (λ n. cond (ltb (JOURNAL_ENTRY_BYTES - n) size) (reached v left blocks (first_length_by v j.entries) j.previous later) None) (sym all_is)
    ∙ ap (λ n. cond (ltb (JOURNAL_ENTRY_BYTES - all) size) (reached v left blocks n j.previous later) None) (sym first_is)
    ∙ ap (λ (q : Option Place). cond (ltb (JOURNAL_ENTRY_BYTES - all) size) (reached v left blocks first q later) None) (sym previous_is)

-- ---- the beginning and the ends

at_hole : (v : ImageVersion) (left size : ℕ) (blocks : Place → Option JournalFields) → walked v left blocks size None ≡ Some []
unfolding walked
at_hole v zero size blocks = refl
at_hole v (suc left) size blocks = refl

nothing_more : (found : Option (List EntryFields)) → (found >>= λ older. Some (older ++ [])) ≡ found
nothing_more None = refl
nothing_more (Some older) = ap Some (append-nil older)

pub begins : (v : ImageVersion) (left size : ℕ) (blocks : Place → Option JournalFields) (from : Option Place) (items : List EntryFields) → items ≡ [] → reached v left blocks size from items ≡ walked v left blocks size from
unfolding reached
begins v left size blocks from items none =
    ap (λ (l : List EntryFields). walked v left blocks size from >>= λ older. Some (older ++ reverse l)) none ∙ nothing_more (walked v left blocks size from)

pub arrives : (v : ImageVersion) (left size : ℕ) (blocks : Place → Option JournalFields) (previous : Option Place) (entries : List EntryFields) (whole : Option (List EntryFields)) → previous ≡ None → reached v left blocks size previous entries ≡ whole → Some (reverse entries) ≡ whole
unfolding reached
arrives v left size blocks previous entries whole end is =
    sym (bind_is (walked v left blocks size previous) (λ older. Some (older ++ reverse entries)) [] (ap (walked v left blocks size) end ∙ at_hole v left size blocks)) ∙ is

pub too_long : (v : ImageVersion) (left size : ℕ) (blocks : Place → Option JournalFields) (p : Place) (previous : Option Place) (entries : List EntryFields) (whole : Option (List EntryFields)) → left ≡ 0 → previous ≡ Some p → reached v left blocks size previous entries ≡ whole → None ≡ whole
unfolding reached walked
too_long v left size blocks p previous entries whole none from is =
    sym (ap (λ n. reached v n blocks size previous entries) none ∙ ap (λ (q : Option Place). reached v 0 blocks size q entries) from) ∙ is

no_block : (v : ImageVersion) (left size : ℕ) (blocks : Place → Option JournalFields) (p : Place) → blocks p ≡ None → walked v left blocks size (Some p) ≡ None
unfolding walked
no_block v zero size blocks p none = refl
no_block v (suc left) size blocks p none = bind_none (blocks p) (OnFrom v left blocks size) none

pub breaks : (v : ImageVersion) (left size : ℕ) (blocks : Place → Option JournalFields) (p : Place) (previous : Option Place) (entries : List EntryFields) (whole : Option (List EntryFields)) → previous ≡ Some p → blocks p ≡ None → reached v left blocks size previous entries ≡ whole → None ≡ whole
unfolding reached
breaks v left size blocks p previous entries whole from none is =
    sym (bind_none (walked v left blocks size previous) (λ older. Some (older ++ reverse entries)) (ap (walked v left blocks size) from ∙ no_block v left size blocks p none)) ∙ is

-- a walk that had blocks left takes one, which stands or doesn't
pub on_good : (left : ℕ) (good : Bool) (at : ℕ → Option (List EntryFields)) (next whole : Option (List EntryFields)) → (left - 1) + 1 ≡ left → at ((left - 1) + 1) ≡ cond good next None → good ≡ true → at left ≡ whole → next ≡ whole
on_good left good at next whole is step stands before = sym (step ∙ ap (λ b. cond b next None) stands) ∙ ap at is ∙ before

pub on_bad : (left : ℕ) (good : Bool) (at : ℕ → Option (List EntryFields)) (next whole : Option (List EntryFields)) → (left - 1) + 1 ≡ left → at ((left - 1) + 1) ≡ cond good next None → good ≡ false → at left ≡ whole → None ≡ whole
on_bad left good at next whole is step falls before = sym (step ∙ ap (λ b. cond b next None) falls) ∙ ap at is ∙ before

-- ---- a walk and a chain

-- an entry of this many bytes doesn't fit after the newest of the blocks
abbrev pub NoRoom : ImageVersion → ℕ → List (List EntryFields) → Type 0
NoRoom v size [] = Unit {0}
NoRoom v size (newest ∷ older) = JOURNAL_ENTRY_BYTES < entries_length_by v newest + size

is_behind : (v : ImageVersion) (block : List EntryFields) (older : List (List EntryFields)) → NoRoom v (first_length_by v block) older → IsBehindBy v older block
is_behind v block [] h = tt
is_behind v block (previous ∷ older) h = h

no_room : (v : ImageVersion) (block : List EntryFields) (older : List (List EntryFields)) → IsBehindBy v older block → NoRoom v (first_length_by v block) older
no_room v block [] h = tt
no_room v block (previous ∷ older) h = h

-- the chain that a walk has found
pub record Found (v : ImageVersion) (left size : ℕ) (blocks : Place → Option JournalFields) (from : Option Place) (entries : List EntryFields) : Type 0 where
  pub links : List Link
  pub walk : links_from left blocks from ≡ Some links
  pub room : NoRoom v size (blocks_of links)
  pub rule : KeepsTheRuleBy v (blocks_of links)
  pub entries_are : entries ≡ joined (blocks_of links)

-- what a block's test says
record Tested (v : ImageVersion) (size : ℕ) (entries : List EntryFields) : Type 0 where
  is : IsBlockBy v entries
  behind : JOURNAL_ENTRY_BYTES < entries_length_by v entries + size

tested : (v : ImageVersion) (size : ℕ) (entries : List EntryFields) → stands_before v size entries ≡ true → Tested v size entries
unfolding stands_before
tested v size entries h =
    let first = and_parts (ltb 0 (length entries)) (leb (entries_length_by v entries) JOURNAL_ENTRY_BYTES && ltb JOURNAL_ENTRY_BYTES (entries_length_by v entries + size)) h in
    let second = and_parts (leb (entries_length_by v entries) JOURNAL_ENTRY_BYTES) (ltb JOURNAL_ENTRY_BYTES (entries_length_by v entries + size)) first.1 in
    record {
      is = record { some = ltb-true 0 (length entries) first.0; few = leb-true (entries_length_by v entries) JOURNAL_ENTRY_BYTES second.0 };
      behind = ltb-true JOURNAL_ENTRY_BYTES (entries_length_by v entries + size) second.1;
    }

stands_since : (v : ImageVersion) (size : ℕ) (entries : List EntryFields) → IsBlockBy v entries → JOURNAL_ENTRY_BYTES < entries_length_by v entries + size → stands_before v size entries ≡ true
unfolding stands_before
stands_since v size entries is behind =
    and_from (ltb 0 (length entries)) (leb (entries_length_by v entries) JOURNAL_ENTRY_BYTES && ltb JOURNAL_ENTRY_BYTES (entries_length_by v entries + size)) (lt-ltb 0 (length entries) is.some)
    (and_from (leb (entries_length_by v entries) JOURNAL_ENTRY_BYTES) (ltb JOURNAL_ENTRY_BYTES (entries_length_by v entries + size)) (le-leb (entries_length_by v entries) JOURNAL_ENTRY_BYTES is.few) (lt-ltb JOURNAL_ENTRY_BYTES (entries_length_by v entries + size) behind))

pub found : (v : ImageVersion) (left size : ℕ) (blocks : Place → Option JournalFields) (from : Option Place) (entries : List EntryFields) → walked v left blocks size from ≡ Some entries → Found v left size blocks from entries
unfolding walked links_from joined
found v zero size blocks None entries h = record { links = []; walk = refl; room = tt; rule = tt; entries_are = sym (same_Some [] entries h) }
found v (suc left) size blocks None entries h = record { links = []; walk = refl; room = tt; rule = tt; entries_are = sym (same_Some [] entries h) }
found v zero size blocks (Some p) entries h = absurd (none-some entries h)
found v (suc left) size blocks (Some p) entries h =
    let (j, here, on) = bind_some (blocks p) (OnFrom v left blocks size) entries h in
    let (xs, keeps, goes_on) = bind_some (kept (stands_before v size j.entries) j.entries) (λ xs. walked v left blocks (first_length_by v xs) j.previous >>= λ older. Some (older ++ xs)) entries on in
    let (stands, same) = cond_some (stands_before v size j.entries) j.entries xs keeps in
    let (older, walk, made) = bind_some (walked v left blocks (first_length_by v xs) j.previous) (λ older. Some (older ++ xs)) entries goes_on in
    let f : Found v left (first_length_by v xs) blocks j.previous older = found v left (first_length_by v xs) blocks j.previous older walk in
    let t : Tested v size j.entries = tested v size j.entries stands in
    let room : NoRoom v (first_length_by v j.entries) (blocks_of f.links) = subst (λ (l : List EntryFields). NoRoom v (first_length_by v l) (blocks_of f.links)) (sym same) f.room in
    record {
      links = linked p j f.links;
      walk = bind_is (blocks p) (λ b. links_from left blocks b.previous >>= λ others. Some (linked p b others)) j here ∙ bind_is (links_from left blocks j.previous) (λ others. Some (linked p j others)) f.links f.walk;
      room = t.behind;
      rule = (t.is, is_behind v j.entries (blocks_of f.links) room, f.rule);
      entries_are = sym (same_Some (older ++ xs) entries made) ∙ ap (λ (l : List EntryFields). l ++ xs) f.entries_are ∙ ap (λ (l : List EntryFields). joined (blocks_of f.links) ++ l) (sym same);
    }

pub walked_since : (v : ImageVersion) (left size : ℕ) (blocks : Place → Option JournalFields) (from : Option Place) (links : List Link) → links_from left blocks from ≡ Some links → NoRoom v size (blocks_of links) → KeepsTheRuleBy v (blocks_of links)
    → walked v left blocks size from ≡ Some (joined (blocks_of links))
unfolding walked links_from joined
walked_since v zero size blocks None links h room rule = ap (λ (l : List Link). Some (joined (blocks_of l))) (same_Some [] links h)
walked_since v (suc left) size blocks None links h room rule = ap (λ (l : List Link). Some (joined (blocks_of l))) (same_Some [] links h)
walked_since v zero size blocks (Some p) links h room rule = absurd (none-some links h)
walked_since v (suc left) size blocks (Some p) links h room rule =
    let (b, here, on) = bind_some (blocks p) (λ b. links_from left blocks b.previous >>= λ older. Some (linked p b older)) links h in
    let (older, walk, made) = bind_some (links_from left blocks b.previous) (λ older. Some (linked p b older)) links on in
    let same : linked p b older ≡ links = same_Some (linked p b older) links made in
    let behind : JOURNAL_ENTRY_BYTES < entries_length_by v b.entries + size = subst (λ (l : List Link). NoRoom v size (blocks_of l)) (sym same) room in
    let keeps : KeepsTheRuleBy v (b.entries ∷ blocks_of older) = subst (λ (l : List Link). KeepsTheRuleBy v (blocks_of l)) (sym same) rule in
    bind_is (blocks p) (OnFrom v left blocks size) b here
    ∙ ap (λ t. kept t b.entries >>= λ xs. walked v left blocks (first_length_by v xs) b.previous >>= λ others. Some (others ++ xs)) (stands_since v size b.entries keeps.0 behind)
    ∙ bind_is (walked v left blocks (first_length_by v b.entries) b.previous) (λ others. Some (others ++ b.entries)) (joined (blocks_of older)) (walked_since v left (first_length_by v b.entries) blocks b.previous older walk (no_room v b.entries (blocks_of older) keeps.1) keeps.2)
    ∙ ap (λ (l : List Link). Some (joined (blocks_of l))) same
