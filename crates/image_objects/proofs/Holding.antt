-- A chain that is is held where its blocks alone are.
use Rattle.std.proofs.Common.{◌≡◌, ℕ, zero, suc, ◌+◌, ◌<◌, ◌≤◌, true, leb, ltb, cond, inl, inr, List, [], ◌∷◌, length, Option, Some, None, IsSome, is_some, unwrap_or, refl, sym, ap, ◌∙◌, subst, arith}
use Rattle.std.proofs.lemmas.Bool.{cases_Bool, false≢true, leb-true, leb-false, lt-ltb, ltb-true, ltb-false}
use Rattle.std.proofs.lemmas.Option.{none-some, same_Some}
use Rattle.s4_types.specs.Pointer.{Place}
use Rattle.s4_types.specs.declared.limits.TheConstants.{CHAIN_BLOCKS, JOURNAL_ENTRY_BYTES}
use Rattle.lemmas.proofs.Option.{value_there}
use Rattle.block_log.specs.Log.{Stored, of_kind, same_place}
use Rattle.block_log.specs.declared.kinds.BlockKind.TheVariants.{Journal}
use Rattle.block_log.proofs.Places.{same_place_itself}
use Rattle.codec.specs.Fields.{◌>>=◌, bit}
use Rattle.codec.specs.Entry.{EntryFields, entries_length}
use Rattle.codec.specs.Journal.{JournalFields}
use Rattle.codec.proofs.Exact.{bind_some}
use Rattle.journal_chain.specs.Packing.{joined, packed, AllFit, KeepsTheRule}
use Rattle.journal_chain.specs.Chain.{BlockView, Link, linked, links_from, chain_links, chain_places, chain_entries, journal_in, journal_of, places_of, blocks_of, times, Holds}
use Rattle.journal_chain.proofs.Loops.{all_fit-append}
use Rattle.journal_chain.proofs.Spelled.{bind_is}
use Rattle.image_objects.specs.declared.rows.ImageRow.{ImageRow}
use Rattle.image_objects.specs.Chains.{ChainStands, blocks_used, entries_used, chain_fields, chain_view}

-- places that the test finds to be one are equal
abbrev pub OneName : Type 0
OneName = (p q : Place) → same_place p q ≡ true → p ≡ q

-- ---- one step of a walk

record Step (n : ℕ) (blocks : Place → Option JournalFields) (q : Place) (links : List Link) : Type 0 where
  block : JournalFields
  older : List Link
  here : blocks q ≡ Some block
  walk : links_from n blocks block.previous ≡ Some older
  made : linked q block older ≡ links

step : (n : ℕ) (blocks : Place → Option JournalFields) (q : Place) (links : List Link) → links_from (suc n) blocks (Some q) ≡ Some links → Step n blocks q links
unfolding links_from
step n blocks q links h =
    let (b, here, on) = bind_some (blocks q) (λ b. links_from n blocks b.previous >>= λ older. Some (linked q b older)) links h in
    let (older, walk, made) = bind_some (links_from n blocks b.previous) (λ older. Some (linked q b older)) links on in
    record { block = b; older = older; here = here; walk = walk; made = same_Some (linked q b older) links made }

no_links : (n : ℕ) (blocks : Place → Option JournalFields) (links : List Link) → links_from n blocks None ≡ Some links → [] ≡ links
unfolding links_from
no_links zero blocks links h = same_Some [] links h
no_links (suc n) blocks links h = same_Some [] links h

pub no_link_without_fuel : (blocks : Place → Option JournalFields) (q : Place) (links : List Link) → links_from zero blocks (Some q) ≡ Some links → ⊥
unfolding links_from
no_link_without_fuel blocks q links h = none-some links h

-- how often a place is among a step's places
counted : (n : ℕ) (blocks : Place → Option JournalFields) (q : Place) (links : List Link) (s : Step n blocks q links) (p : Place) → times p (places_of links) ≡ bit (same_place p q) + times p (places_of s.older)
unfolding times
counted n blocks q links s p = ap (λ (l : List Link). times p (places_of l)) (sym s.made)

counted_none : (p : Place) → times p (places_of []) ≡ 0
unfolding times
counted_none p = refl

longer : (n : ℕ) (blocks : Place → Option JournalFields) (q : Place) (links : List Link) (s : Step n blocks q links) → length links ≡ 1 + length s.older
longer n blocks q links s =
    let one : length links ≡ suc (length s.older) = ap (λ (l : List Link). length l) (sym s.made) in
    omega (arith, one)

-- ---- no place comes twice

same_links : (n m : ℕ) (blocks : Place → Option JournalFields) (from : Option Place) (xs ys : List Link) → links_from n blocks from ≡ Some xs → links_from m blocks from ≡ Some ys → xs ≡ ys
same_links n m blocks None xs ys h k = sym (no_links n blocks xs h) ∙ no_links m blocks ys k
same_links zero m blocks (Some q) xs ys h k = absurd (no_link_without_fuel blocks q xs h)
same_links (suc n) zero blocks (Some q) xs ys h k = absurd (no_link_without_fuel blocks q ys k)
same_links (suc n) (suc m) blocks (Some q) xs ys h k =
    let s : Step n blocks q xs = step n blocks q xs h in
    let t : Step m blocks q ys = step m blocks q ys k in
    let same : s.block ≡ t.block = same_Some s.block t.block (sym s.here ∙ t.here) in
    let rest : s.older ≡ t.older = same_links n m blocks s.block.previous s.older t.older s.walk (ap (λ (j : JournalFields). links_from m blocks j.previous) same ∙ t.walk) in
    sym s.made ∙ ap (λ (j : JournalFields). linked q j s.older) same ∙ ap (λ (l : List Link). linked q t.block l) rest ∙ t.made

-- a chain from a place that is among the places of another, and is no longer
record FoundAt (blocks : Place → Option JournalFields) (p : Place) (most : ℕ) : Type 0 where
  fuel : ℕ
  links : List Link
  walk : links_from fuel blocks (Some p) ≡ Some links
  short : length links ≤ most

found_at : OneName → (n : ℕ) (blocks : Place → Option JournalFields) (from : Option Place) (links : List Link) (p : Place) → links_from n blocks from ≡ Some links → 1 ≤ times p (places_of links) → FoundAt blocks p (length links)
found_at names n blocks None links p h some =
    let none : times p (places_of []) ≡ times p (places_of links) = ap (λ (l : List Link). times p (places_of l)) (no_links n blocks links h) in
    absurd (omega (arith, counted_none p, none, some))
found_at names zero blocks (Some q) links p h some = absurd (no_link_without_fuel blocks q links h)
found_at names (suc n) blocks (Some q) links p h some =
    let s : Step n blocks q links = step n blocks q links h in
    elim (cases_Bool (same_place p q)) [
      | inl is ↦ record { fuel = suc n; links = links; walk = subst (λ (r : Place). links_from (suc n) blocks (Some r) ≡ Some links) (sym (names p q is)) h; short = omega arith }
      | inr ne ↦ (let apart : bit (same_place p q) ≡ 0 = ap bit ne in
          let f : FoundAt blocks p (length s.older) = found_at names n blocks s.block.previous s.older p s.walk (omega (arith, counted n blocks q links s p, apart, some)) in
          record { fuel = f.fuel; links = f.links; walk = f.walk; short = omega (arith, f.short, longer n blocks q links s) })
    ]

no_return : OneName → (n : ℕ) (blocks : Place → Option JournalFields) (q : Place) (links : List Link) (s : Step n blocks q links) → links_from (suc n) blocks (Some q) ≡ Some links → times q (places_of s.older) ≡ 0
no_return names n blocks q links s h = elim (cases_Bool (leb 1 (times q (places_of s.older)))) [
  | inl again ↦ (let f : FoundAt blocks q (length s.older) = found_at names n blocks s.block.previous s.older q s.walk (leb-true 1 (times q (places_of s.older)) again) in
      let same : length f.links ≡ length links = ap (λ (l : List Link). length l) (same_links f.fuel (suc n) blocks (Some q) f.links links f.walk h) in
      absurd (omega (arith, f.short, same, longer n blocks q links s)))
  | inr never ↦ (let few : times q (places_of s.older) < 1 = leb-false 1 (times q (places_of s.older)) never in omega arith)
]

at_most_once : OneName → (n : ℕ) (blocks : Place → Option JournalFields) (from : Option Place) (links : List Link) (p : Place) → links_from n blocks from ≡ Some links → times p (places_of links) ≤ 1
at_most_once names n blocks None links p h =
    let none : times p (places_of []) ≡ times p (places_of links) = ap (λ (l : List Link). times p (places_of l)) (no_links n blocks links h) in
    omega (arith, counted_none p, none)
at_most_once names zero blocks (Some q) links p h = absurd (no_link_without_fuel blocks q links h)
at_most_once names (suc n) blocks (Some q) links p h =
    let s : Step n blocks q links = step n blocks q links h in
    elim (cases_Bool (same_place p q)) [
      | inl is ↦ (let here : bit (same_place p q) ≡ 1 = ap bit is in
          let none : times p (places_of s.older) ≡ 0 = ap (λ (r : Place). times r (places_of s.older)) (names p q is) ∙ no_return names n blocks q links s h in
          omega (arith, counted n blocks q links s p, here, none))
      | inr ne ↦ (let apart : bit (same_place p q) ≡ 0 = ap bit ne in
          omega (arith, counted n blocks q links s p, apart, at_most_once names n blocks s.block.previous s.older p s.walk))
    ]

begins_with : (n : ℕ) (blocks : Place → Option JournalFields) (p : Place) (links : List Link) → links_from n blocks (Some p) ≡ Some links → IsSome (blocks p)
begins_with zero blocks p links h = absurd (no_link_without_fuel blocks p links h)
begins_with (suc n) blocks p links h = let s : Step n blocks p links = step n blocks p links h in ap is_some s.here

is_there : OneName → (n : ℕ) (blocks : Place → Option JournalFields) (from : Option Place) (links : List Link) (p : Place) → links_from n blocks from ≡ Some links → 1 ≤ times p (places_of links) → IsSome (blocks p)
is_there names n blocks from links p h some =
    let f : FoundAt blocks p (length links) = found_at names n blocks from links p h some in
    begins_with f.fuel blocks p f.links f.walk

-- ---- a walk needs the blocks alone that it comes to

links_none : (n : ℕ) (blocks : Place → Option JournalFields) → links_from n blocks None ≡ Some []
unfolding links_from
links_none zero blocks = refl
links_none (suc n) blocks = refl

step_back : (n : ℕ) (blocks : Place → Option JournalFields) (q : Place) (b : JournalFields) (older : List Link) → blocks q ≡ Some b → links_from n blocks b.previous ≡ Some older → links_from (suc n) blocks (Some q) ≡ Some (linked q b older)
unfolding links_from
step_back n blocks q b older here walk =
    bind_is (blocks q) (λ c. links_from n blocks c.previous >>= λ others. Some (linked q c others)) b here ∙ bind_is (links_from n blocks b.previous) (λ others. Some (linked q b others)) older walk

kept_walk : (n : ℕ) (blocks others : Place → Option JournalFields) (from : Option Place) (links : List Link) → links_from n blocks from ≡ Some links → ((p : Place) → 1 ≤ times p (places_of links) → others p ≡ blocks p) → links_from n others from ≡ Some links
kept_walk n blocks others None links h agree = links_none n others ∙ ap Some (no_links n blocks links h)
kept_walk zero blocks others (Some q) links h agree = absurd (no_link_without_fuel blocks q links h)
kept_walk (suc n) blocks others (Some q) links h agree =
    let s : Step n blocks q links = step n blocks q links h in
    let here : bit (same_place q q) ≡ 1 = ap bit (same_place_itself q) in
    let there : others q ≡ Some s.block = agree q (omega (arith, counted n blocks q links s q, here)) ∙ s.here in
    let rest : links_from n others s.block.previous ≡ Some s.older = kept_walk n blocks others s.block.previous s.older s.walk (λ p some. agree p (omega (arith, counted n blocks q links s p, some))) in
    step_back n others q s.block s.older there rest ∙ ap Some s.made

-- ---- entries fit

block_fits : (entries : List EntryFields) → entries_length entries ≤ JOURNAL_ENTRY_BYTES → AllFit entries
unfolding entries_length
block_fits [] le = tt
block_fits (e ∷ entries) le = (omega arith, block_fits entries (omega arith))

all_fit : (blocks : List (List EntryFields)) → KeepsTheRule blocks → AllFit (joined blocks)
unfolding joined
all_fit [] h = tt
all_fit (newest ∷ older) h = all_fit-append (joined older) newest (all_fit older h.2) (block_fits newest h.0.few)

-- ---- the chain is held

walked_view : (o : ℕ) (view others : BlockView) (head : Option Place) (links : List Link) → chain_links view o head ≡ Some links → ((p : Place) → 1 ≤ times p (places_of links) → others p ≡ view p) → chain_links others o head ≡ Some links
unfolding chain_links
walked_view o view others head links h agree =
    kept_walk CHAIN_BLOCKS (journal_in o view) (journal_in o others) head links h (λ p some. ap (λ (found : Option (List ℕ)). found >>= journal_of o) (agree p some))

viewed : (o : ℕ) (found : Option (List ℕ)) → IsSome (found >>= journal_of o) → is_some found ≡ true
viewed o None h = absurd (false≢true h)
viewed o (Some bytes) h = refl

place_once : OneName → (o : ℕ) (view : BlockView) (head : Option Place) (links : List Link) (p : Place) → chain_links view o head ≡ Some links → times p (places_of links) ≤ 1
unfolding chain_links
place_once names o view head links p h = at_most_once names CHAIN_BLOCKS (journal_in o view) head links p h

place_there : OneName → (o : ℕ) (view : BlockView) (head : Option Place) (links : List Link) (p : Place) → chain_links view o head ≡ Some links → 1 ≤ times p (places_of links) → is_some (view p) ≡ true
unfolding chain_links
place_there names o view head links p h some = viewed o (view p) (is_there names CHAIN_BLOCKS (journal_in o view) head links p h some)

-- a view that has a chain's places alone, has each of them once
each_once : OneName → (o : ℕ) (view : BlockView) (head : Option Place) (links : List Link) (p : Place) (found : Option (List ℕ)) → chain_links view o head ≡ Some links → found ≡ cond (ltb 0 (times p (places_of links))) (view p) None → times p (places_of links) ≡ bit (is_some found)
each_once names o view head links p found h is = elim (cases_Bool (ltb 0 (times p (places_of links)))) [
  | inl some ↦ (let more : 0 < times p (places_of links) = ltb-true 0 (times p (places_of links)) some in
      let same : found ≡ view p = is ∙ ap (λ b. cond b (view p) None) some in
      let one : bit (is_some found) ≡ 1 = ap bit (ap is_some same ∙ place_there names o view head links p h (omega arith)) in
      omega (arith, place_once names o view head links p h, one, more))
  | inr none ↦ (let few : times p (places_of links) ≤ 0 = ltb-false 0 (times p (places_of links)) none in
      let nothing : found ≡ None = is ∙ ap (λ b. cond b (view p) None) none in
      let zero_bit : bit (is_some found) ≡ 0 = ap (λ (x : Option (List ℕ)). bit (is_some x)) nothing in
      omega (arith, few, zero_bit))
]

-- what a row's chain tells where its links are these
record Told (used : Place → Option Stored) (row : ImageRow) (links : List Link) : Type 0 where
  blocks : blocks_used used row ≡ blocks_of links
  entries : entries_used used row ≡ joined (blocks_of links)

told : (used : Place → Option Stored) (row : ImageRow) (links : List Link) → chain_links (of_kind Journal row.object used) row.object row.head ≡ Some links → Told used row links
unfolding chain_entries
told used row links walk = record {
  blocks = ap (λ (found : Option (List Link)). unwrap_or (found >>= λ l. Some (blocks_of l)) []) walk;
  entries = ap (λ (found : Option (List Link)). unwrap_or (found >>= λ l. Some (joined (blocks_of l))) []) walk;
}

pub holds : OneName → ((blocks : List (List EntryFields)) → KeepsTheRule blocks → packed (joined blocks) ≡ blocks)
    → (used held : Place → Option Stored) (row : ImageRow) (clock : ℕ) → ChainStands used row clock → ((p : Place) → of_kind Journal row.object held p ≡ chain_view used row p)
    → Holds held (chain_fields used row) (entries_used used row)
holds names again used held row clock s only =
    let o = row.object in
    let view = of_kind Journal o used in
    let others = of_kind Journal o held in
    let (links, there) = value_there (chain_links view o row.head) s.walk in
    let t : Told used row links = told used row links there in
    let rule : KeepsTheRule (blocks_of links) = subst (λ (b : List (List EntryFields)). KeepsTheRule b) t.blocks s.packing in
    let places : chain_places view o row.head ≡ places_of links = ap (λ (found : Option (List Link)). places_of (unwrap_or found [])) there in
    let alone : (p : Place) → others p ≡ cond (ltb 0 (times p (places_of links))) (view p) None = λ p. only p ∙ ap (λ (l : List Place). cond (ltb 0 (times p l)) (view p) None) places in
    let walk : chain_links others o row.head ≡ Some links = walked_view o view others row.head links there (λ p some. alone p ∙ ap (λ b. cond b (view p) None) (lt-ltb 0 (times p (places_of links)) some)) in
    let whole : packed (entries_used used row) ≡ blocks_of links = ap (λ (es : List EntryFields). packed es) t.entries ∙ again (blocks_of links) rule in
    record {
      blocks = bind_is (chain_links others o row.head) (λ l. Some (blocks_of l)) links walk ∙ ap Some (sym whole);
      walk = bind_is (chain_links others o row.head) (λ l. Some (joined (blocks_of l))) links walk ∙ ap Some (sym t.entries);
      once = λ p. ap (λ (found : Option (List Link)). times p (places_of (unwrap_or found []))) walk ∙ each_once names o view row.head links p (others p) there (alone p);
      fit = subst (λ (es : List EntryFields). AllFit es) (sym t.entries) (all_fit (blocks_of links) rule);
      limit = s.limit;
      bytes = refl;
      filled = refl;
    }
