-- Journal blocks that are written one after the other are at the next places ahead.
use Rattle.std.proofs.Common.{◌≡◌, ℕ, true, false, List, [], ◌∷◌, ◌++◌, reverse, Option, Some, None, unwrap_or, refl, sym, ap, ◌∙◌, subst, append_assoc}
use Rattle.std.proofs.lemmas.Bool.{false_from_ne_true}
use Rattle.std.proofs.lemmas.Grind.{reverse_onto}
use Rattle.std.proofs.lemmas.Option.{none-some, same_Some}
use Rattle.s4_types.specs.Pointer.{Place}
use Rattle.s4_types.specs.declared.limits.TheConstants.{CHAIN_BLOCKS}
use Rattle.block_log.specs.declared.kinds.BlockKind.TheVariants.{Journal}
use Rattle.block_log.specs.Log.{Log, Stored, same_place, of_kind, with_held}
use Rattle.block_log.proofs.Places.{one_place}
use Rattle.codec.specs.Fields.{◌>>=◌}
use Rattle.codec.specs.Entry.{EntryFields}
use Rattle.codec.specs.Journal.{JournalFields, journal_spelling}
use Rattle.codec.proofs.Exact.{bind_some}
use Rattle.journal_chain.specs.Packing.{packed}
use Rattle.journal_chain.specs.Chain.{BlockView, Link, ChainFields, Holds, journal_of, journal_in, links_from, chain_links, chain_places, places_of, blocks_of}
use Rattle.journal_chain.specs.Writing.{head_of, fields_of_block, Stands, Follows, InOrder, Put, stored_journal}
use Rattle.journal_chain.proofs.Spelled.{Found, stands_of_walk}
use Rattle.journal_chain.proofs.Steps.{ChangedAt}
use Rattle.journal_chain.proofs.Tables.{put_changes, free_in_view}

-- ---- one more block

-- blocks that stand stay where one is put beside them
follow_on : (o : ℕ) (view later : BlockView) (p : Place) (there : Option (List ℕ)) → view p ≡ None → ChangedAt view later p there
    → (head : Option Place) (places : List Place) → Follows o view head places → Follows o later head places
follow_on o view later p there free changed head [] f = f
follow_on o view later p there free changed head (q ∷ places) (is, (block, (at, rest))) =
    let beside : same_place p q ≡ false =
    false_from_ne_true (same_place p q) (λ (e : same_place p q ≡ true). none-some block (sym (ap (λ (b : Option (List ℕ)). b >>= journal_of o) (ap view (sym (one_place p q e)) ∙ free)) ∙ at)) in
    (is, (block, (ap (λ (b : Option (List ℕ)). b >>= journal_of o) (changed.1 q beside) ∙ at, follow_on o view later p there free changed block.previous places rest)))

pub put_in_order : (log later : Log) (p : Place) (block : JournalFields) (all : List Place) → Put log later p block → InOrder block.object log block.previous all → InOrder block.object later (Some p) all
put_in_order log later p block all put i =
    let o = block.object in
    let held : Place → Option Stored = with_held log.held p (stored_journal block) in
    let changed = put_changes log.held p o (journal_spelling block) in
    let here : journal_in o (of_kind Journal o held) p ≡ Some block = ap (λ (b : Option (List ℕ)). b >>= journal_of o) changed.0 ∙ put.spells in
    let rest = follow_on o (of_kind Journal o log.held) (of_kind Journal o held) p (Some (journal_spelling block)) (free_in_view log.held p Journal o put.free) changed block.previous i.places i.follows in
    let follows : Follows o (of_kind Journal o held) (Some p) (p ∷ i.places) = (refl, (block, (here, rest))) in
    record {
      places = p ∷ i.places;
      follows = subst (λ (h : Place → Option Stored). Follows o (of_kind Journal o h) (Some p) (p ∷ i.places)) (sym put.held) follows;
      order = i.order ∙ ap (λ (ps : List Place). reverse i.places ++ ps) put.next ∙ sym (append_assoc (reverse i.places) (p ∷ []) later.ahead)
          ∙ ap (λ (ps : List Place). ps ++ later.ahead) (sym (reverse_onto i.places p []));
    }

-- ---- the first block, and the whole

pub none_in_order : (o : ℕ) (log : Log) (head : Option Place) → head ≡ None → InOrder o log head log.ahead
none_in_order o log head none = record { places = []; follows = none; order = refl }

pub whole_in_order : (log log2 log3 : Log) (o : ℕ) (entries : List EntryFields) (b1 b2 : JournalFields) (head : Place) → b1 ≡ record { object = o; previous = None; entries = entries } → b2.object ≡ b1.object
    → ((all : List Place) → InOrder b1.object log b1.previous all → InOrder b1.object log2 b2.previous all) → Put log2 log3 head b2 → InOrder o log3 (Some head) log.ahead
whole_in_order log log2 log3 o entries b1 b2 head is same taken put =
    let at : b1.object ≡ o = ap (λ (b : JournalFields). b.object) is in
    let begun : InOrder b1.object log b1.previous log.ahead = none_in_order b1.object log b1.previous (ap (λ (b : JournalFields). b.previous) is) in
    let last : InOrder b2.object log2 b2.previous log.ahead = subst (λ (n : ℕ). InOrder n log2 b2.previous log.ahead) (sym same) (taken log.ahead begun) in
    subst (λ (n : ℕ). InOrder n log3 (Some head) log.ahead) (same ∙ at) (put_in_order log2 log3 head b2 log.ahead put last)

-- ---- what is found from the head on

places_found : (o : ℕ) (view : BlockView) (links : List Link) (head : Option Place) (places : List Place) → Stands o view links → head ≡ head_of links → Follows o view head places → places_of links ≡ places
places_found o view [] head [] s is f = refl
places_found o view [] head (p ∷ places) s is f = absurd (none-some p (sym is ∙ f.0))
places_found o view (newest ∷ older) head [] s is f = absurd (none-some newest.place (sym f ∙ is))
places_found o view (newest ∷ older) head (p ∷ places) s is (at, (block, (there, rest))) =
    let here : newest.place ≡ p = same_Some newest.place p (sym is ∙ at) in
    let found : journal_in o view p ≡ Some (fields_of_block o newest older) = ap (journal_in o view) (sym here) ∙ s.0 in
    let same : block ≡ fields_of_block o newest older = same_Some block (fields_of_block o newest older) (sym there ∙ found) in
    ap (λ (q : Place). q ∷ places_of older) here
    ∙ ap (λ (ps : List Place). p ∷ ps) (places_found o view older block.previous places s.1 (ap (λ (b : JournalFields). b.previous) same) rest)

pub chain_in_order : (log : Log) (chain : ChainFields) (entries : List EntryFields) (all : List Place) → Holds log.held chain entries → InOrder chain.object log chain.head all
    → all ≡ reverse (chain_places (of_kind Journal chain.object log.held) chain.object chain.head) ++ log.ahead
unfolding chain_links
chain_in_order log chain entries all holds i =
    let view = of_kind Journal chain.object log.held in
    let (links, walk, same) = bind_some (chain_links view chain.object chain.head) (λ links. Some (blocks_of links)) (packed entries) holds.blocks in
    let found : Found CHAIN_BLOCKS chain.object view chain.head links = stands_of_walk CHAIN_BLOCKS chain.object view chain.head links walk in
    let places : chain_places view chain.object chain.head ≡ i.places =
    ap (λ (l : Option (List Link)). places_of (unwrap_or l [])) walk ∙ places_found chain.object view links chain.head i.places found.stands found.head_is i.follows in
    i.order ∙ ap (λ (ps : List Place). reverse ps ++ log.ahead) (sym places)

-- a chain of no entries has no places
pub empty_in_order : (log : Log) (o : ℕ) → log.ahead ≡ reverse (chain_places (of_kind Journal o log.held) o None) ++ log.ahead
unfolding chain_links links_from
empty_in_order log o = refl
