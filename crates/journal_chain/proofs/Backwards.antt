-- Reading blocks back, one after another.
use Rattle.std.proofs.Common.{◌≡◌, ℕ, ◌-◌, zero, suc, ◌≤◌, List, [], ◌∷◌, ◌++◌, length, Option, Some, None, IsSome, is_some, unwrap_or, refl, sym, ap, ◌∙◌, subst, arith, append-nil}
use Rattle.std.proofs.lemmas.List.{length-map}
use Rattle.std.proofs.lemmas.Option.{none-some, same_Some}
use Rattle.s4_types.specs.Pointer.{Place}
use Rattle.s4_types.specs.declared.limits.TheConstants.{CHAIN_BLOCKS}
use Rattle.block_log.specs.declared.kinds.BlockKind.TheVariants.{Journal}
use Rattle.block_log.specs.Log.{Log, Stored, of_kind}
use Rattle.codec.specs.Fields.{◌>>=◌}
use Rattle.codec.specs.Journal.{JournalFields}
use Rattle.codec.proofs.Exact.{bind_some}
use Rattle.journal_chain.specs.Packing.{joined}
use Rattle.journal_chain.specs.Chain.{Link, linked, links_from, chain_links, chain_entries, chain_places, journal_in, places_of, blocks_of}
use Rattle.journal_chain.specs.Writing.{spelled_journal}
use Rattle.journal_chain.specs.Back.{BackFields, links_back, entries_left, left, places_back}
use Rattle.journal_chain.proofs.Spelled.{bind_is}
use Rattle.journal_chain.proofs.Calls.{spelled_since, some_is}

-- a walk that gets so far gets farther
more_fuel : (fuel : ℕ) (blocks : Place → Option JournalFields) (from : Option Place) (links : List Link) → links_from fuel blocks from ≡ Some links → links_from (suc fuel) blocks from ≡ Some links
unfolding links_from
more_fuel zero blocks None links h = h
more_fuel (suc fuel) blocks None links h = h
more_fuel zero blocks (Some p) links h = absurd (none-some links h)
more_fuel (suc fuel) blocks (Some p) links h =
    let (b, there, after) = bind_some (blocks p) (λ b. links_from fuel blocks b.previous >>= λ older. Some (linked p b older)) links h in
    let (older, walk, made) = bind_some (links_from fuel blocks b.previous) (λ older. Some (linked p b older)) links after in
    bind_is (blocks p) (λ b. links_from (suc fuel) blocks b.previous >>= λ older. Some (linked p b older)) b there
    ∙ bind_is (links_from (suc fuel) blocks b.previous) (λ older. Some (linked p b older)) older (more_fuel fuel blocks b.previous older walk)
    ∙ made

-- one step of a walk
pub record Step (blocks : Place → Option JournalFields) (fuel : ℕ) (p : Place) (links : List Link) : Type 0 where
  pub block : JournalFields
  pub older : List Link
  pub here : blocks p ≡ Some block
  pub behind : links_from (suc fuel) blocks block.previous ≡ Some older
  pub made : linked p block older ≡ links

step : (fuel : ℕ) (blocks : Place → Option JournalFields) (p : Place) (links : List Link) → links_from (suc fuel) blocks (Some p) ≡ Some links → Step blocks fuel p links
unfolding links_from
step fuel blocks p links h =
    let (b, there, after) = bind_some (blocks p) (λ b. links_from fuel blocks b.previous >>= λ older. Some (linked p b older)) links h in
    let (older, walk, made) = bind_some (links_from fuel blocks b.previous) (λ older. Some (linked p b older)) links after in
    record { block = b; older = older; here = there; behind = more_fuel fuel blocks b.previous older walk; made = same_Some (linked p b older) links made }

-- a walk of an object's journal blocks is one of journal blocks
plain_walk : (fuel o : ℕ) (held : Place → Option Stored) (from : Option Place) (links : List Link)
    → links_from fuel (journal_in o (of_kind Journal o held)) from ≡ Some links → links_from fuel (λ p. spelled_journal (held p)) from ≡ Some links
unfolding links_from
plain_walk zero o held None links h = h
plain_walk (suc fuel) o held None links h = h
plain_walk zero o held (Some p) links h = absurd (none-some links h)
plain_walk (suc fuel) o held (Some p) links h =
    let blocks = journal_in o (of_kind Journal o held) in
    let plain : Place → Option JournalFields = λ q. spelled_journal (held q) in
    let (b, there, after) = bind_some (blocks p) (λ b. links_from fuel blocks b.previous >>= λ older. Some (linked p b older)) links h in
    let (older, walk, made) = bind_some (links_from fuel blocks b.previous) (λ older. Some (linked p b older)) links after in
    bind_is (plain p) (λ b. links_from fuel plain b.previous >>= λ older. Some (linked p b older)) b (spelled_since (held p) o b there)
    ∙ bind_is (links_from fuel plain b.previous) (λ older. Some (linked p b older)) older (plain_walk fuel o held b.previous older walk)
    ∙ made

pub back_of_chain : (held : Place → Option Stored) (o : ℕ) (head : Option Place) (links : List Link) → chain_links (of_kind Journal o held) o head ≡ Some links → links_back held head ≡ Some links
unfolding chain_links links_back
back_of_chain held o head links h = plain_walk CHAIN_BLOCKS o held head links h

-- a reader that begins at a head
pub reader_begins : (held : Place → Option Stored) (o : ℕ) (head : Option Place) → IsSome (chain_entries held o head)
    → entries_left held (record { previous = head; entries = [] }) ≡ chain_entries held o head
unfolding chain_entries
reader_begins held o head there =
    let (entries, whole) = some_is (chain_entries held o head) there in
    let (links, walk, made) = bind_some (chain_links (of_kind Journal o held) o head) (λ links. Some (joined (blocks_of links))) entries whole in
    bind_is (links_back held head) (λ links. Some (joined (blocks_of links) ++ [])) links (back_of_chain held o head links walk)
    ∙ ap Some (append-nil (joined (blocks_of links)))
    ∙ sym (bind_is (chain_links (of_kind Journal o held) o head) (λ links. Some (joined (blocks_of links))) links walk)

-- a chain's blocks are found back, at the chain's places
pub chain_goes_back : (held : Place → Option Stored) (o : ℕ) (head : Option Place) → IsSome (chain_entries held o head)
    → IsSome (links_back held head) × (places_back held head ≡ chain_places (of_kind Journal o held) o head)
unfolding chain_entries
chain_goes_back held o head there =
    let (entries, whole) = some_is (chain_entries held o head) there in
    let (links, walk, made) = bind_some (chain_links (of_kind Journal o held) o head) (λ links. Some (joined (blocks_of links))) entries whole in
    let back : links_back held head ≡ Some links = back_of_chain held o head links walk in (
      ap is_some back,
      ap (λ (found : Option (List Link)). places_of (unwrap_or found [])) (back ∙ sym walk),
    )

-- ---- a reader goes on to the block before

back_step : (held : Place → Option Stored) (p : Place) (links : List Link) → links_back held (Some p) ≡ Some links → Step (λ q. spelled_journal (held q)) (CHAIN_BLOCKS - 1) p links
unfolding links_back
back_step held p links h = step (CHAIN_BLOCKS - 1) (λ q. spelled_journal (held q)) p links h

back_behind : (held : Place → Option Stored) (p : Place) (links : List Link) (s : Step (λ q. spelled_journal (held q)) (CHAIN_BLOCKS - 1) p links) → links_back held s.block.previous ≡ Some s.older
unfolding links_back
back_behind held p links s = s.behind

links_there : (held : Place → Option Stored) (back : BackFields) → IsSome (entries_left held back) → (links : List Link) × (links_back held back.previous ≡ Some links)
links_there held back there =
    let (entries, whole) = some_is (entries_left held back) there in
    let (links, walk, made) = bind_some (links_back held back.previous) (λ links. Some (joined (blocks_of links) ++ back.entries)) entries whole in
    (links, walk)

pub turn_reads : (held : Place → Option Stored) (back : BackFields) (p : Place) → IsSome (entries_left held back) → back.previous ≡ Some p → IsSome (spelled_journal (held p))
turn_reads held back p there is =
    let (links, walk) = links_there held back there in
    let s : Step (λ q. spelled_journal (held q)) (CHAIN_BLOCKS - 1) p links = back_step held p links (ap (links_back held) (sym is) ∙ walk) in
    ap is_some s.here

pub turned : (held : Place → Option Stored) (back after : BackFields) (p : Place) (block : JournalFields) → IsSome (entries_left held back) → back.previous ≡ Some p → back.entries ≡ []
    → spelled_journal (held p) ≡ Some block → after.previous ≡ block.previous → after.entries ≡ block.entries
    → entries_left held after ≡ entries_left held back
unfolding joined
turned held back after p block there is none reads previous entries =
    let (links, walk) = links_there held back there in
    let s : Step (λ q. spelled_journal (held q)) (CHAIN_BLOCKS - 1) p links = back_step held p links (ap (links_back held) (sym is) ∙ walk) in
    let same : s.block ≡ block = same_Some s.block block (sym s.here ∙ reads) in
    let behind : links_back held after.previous ≡ Some s.older = ap (links_back held) (previous ∙ sym (ap (λ (j : JournalFields). j.previous) same)) ∙ back_behind held p links s in
    bind_is (links_back held after.previous) (λ links. Some (joined (blocks_of links) ++ after.entries)) s.older behind
    ∙ ap (λ l. Some (joined (blocks_of s.older) ++ l)) (entries ∙ sym (ap (λ (j : JournalFields). j.entries) same))
    ∙ ap Some (sym (append-nil (joined (blocks_of s.older) ++ s.block.entries)))
    ∙ ap (λ l. Some (joined (blocks_of l) ++ [])) s.made
    ∙ ap (λ l. Some (joined (blocks_of links) ++ l)) (sym none)
    ∙ sym (bind_is (links_back held back.previous) (λ links. Some (joined (blocks_of links) ++ back.entries)) links walk)

pub all_given : (held : Place → Option Stored) (back : BackFields) → back.previous ≡ None → back.entries ≡ [] → left held back ≡ []
unfolding links_back links_from joined
all_given held back none given = ap (λ q. unwrap_or (links_back held q >>= λ links. Some (joined (blocks_of links) ++ back.entries)) []) none ∙ given

-- ---- the places of the blocks, one after another

pub record PlaceStep (held : Place → Option Stored) (p : Place) (block : JournalFields) : Type 0 where
  pub places : places_back held (Some p) ≡ p ∷ places_back held block.previous
  pub there : IsSome (links_back held block.previous)

pub place_step : (held : Place → Option Stored) (p : Place) (block : JournalFields) → IsSome (links_back held (Some p)) → spelled_journal (held p) ≡ Some block → PlaceStep held p block
place_step held p block there reads =
    let (links, walk) = some_is (links_back held (Some p)) there in
    let s : Step (λ q. spelled_journal (held q)) (CHAIN_BLOCKS - 1) p links = back_step held p links walk in
    let same : s.block ≡ block = same_Some s.block block (sym s.here ∙ reads) in
    let behind : links_back held block.previous ≡ Some s.older = ap (λ (j : JournalFields). links_back held j.previous) (sym same) ∙ back_behind held p links s in
    record {
      places = ap (λ o. places_of (unwrap_or o [])) walk ∙ ap places_of (sym s.made) ∙ sym (ap (λ o. p ∷ places_of (unwrap_or o [])) behind);
      there = ap is_some behind;
    }

pub place_reads : (held : Place → Option Stored) (p : Place) → IsSome (links_back held (Some p)) → IsSome (spelled_journal (held p))
place_reads held p there =
    let (links, walk) = some_is (links_back held (Some p)) there in
    ap is_some (back_step held p links walk).here

pub no_places : (held : Place → Option Stored) → places_back held None ≡ []
unfolding links_back links_from
no_places held = refl

few_links : (fuel : ℕ) (blocks : Place → Option JournalFields) (from : Option Place) (links : List Link) → links_from fuel blocks from ≡ Some links → length links ≤ fuel
unfolding links_from
few_links zero blocks None links h = subst (λ l. length l ≤ 0) (same_Some [] links h) (omega arith)
few_links (suc fuel) blocks None links h = subst (λ l. length l ≤ suc fuel) (same_Some [] links h) (omega arith)
few_links zero blocks (Some p) links h = absurd (none-some links h)
few_links (suc fuel) blocks (Some p) links h =
    let (b, there, after) = bind_some (blocks p) (λ b. links_from fuel blocks b.previous >>= λ older. Some (linked p b older)) links h in
    let (older, walk, made) = bind_some (links_from fuel blocks b.previous) (λ older. Some (linked p b older)) links after in
    let le : length older ≤ fuel = few_links fuel blocks b.previous older walk in
    subst (λ l. length l ≤ suc fuel) (same_Some (linked p b older) links made) (omega arith)

pub few_places : (held : Place → Option Stored) (from : Option Place) → IsSome (links_back held from) → length (places_back held from) ≤ CHAIN_BLOCKS
unfolding links_back
few_places held from there =
    let (links, walk) = some_is (links_back held from) there in
    let le : length links ≤ CHAIN_BLOCKS = few_links CHAIN_BLOCKS (λ p. spelled_journal (held p)) from links walk in
    let e : length (places_of links) ≡ length links = length-map links (λ (l : Link). l.place) in
    subst (λ n. n ≤ CHAIN_BLOCKS) (sym (ap (λ o. length (places_of (unwrap_or o []))) walk ∙ e)) le

pub record NextPlace (held later : Place → Option Stored) (from after : Option Place) (p : Place) : Type 0 where
  pub places : places_back held from ≡ p ∷ places_back later after
  pub there : IsSome (links_back later after)

pub next_block : (log later : Log) (from after : Option Place) (p : Place) (block : JournalFields) → from ≡ Some p → IsSome (links_back log.held from) → spelled_journal (log.held p) ≡ Some block
    → later ≡ log → after ≡ block.previous → NextPlace log.held later.held from after p
next_block log later from after p block is there reads same behind =
    let s : PlaceStep log.held p block = place_step log.held p block (subst (λ f. IsSome (links_back log.held f)) is there) reads in
    subst (λ (l : Log). NextPlace log.held l.held from after p) (sym same) (record {
      places = ap (places_back log.held) is ∙ s.places ∙ ap (λ q. p ∷ places_back log.held q) (sym behind);
      there = subst (λ q. IsSome (links_back log.held q)) (sym behind) s.there;
    })

pub some_places : (held : Place → Option Stored) (from : Option Place) (p : Place) → from ≡ Some p → IsSome (links_back held from) → 1 ≤ length (places_back held from)
some_places held from p is there =
    let (links, walk) = some_is (links_back held (Some p)) (subst (λ f. IsSome (links_back held f)) is there) in
    let s : Step (λ q. spelled_journal (held q)) (CHAIN_BLOCKS - 1) p links = back_step held p links walk in
    let e : length (places_back held from) ≡ length (places_of (linked p s.block s.older)) =
    ap (λ f. length (places_back held f)) is ∙ ap (λ o. length (places_of (unwrap_or o []))) walk ∙ ap (λ l. length (places_of l)) (sym s.made) in
    omega (arith, e)
