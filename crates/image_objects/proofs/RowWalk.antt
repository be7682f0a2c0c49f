-- A walk back along a row's chain, block by block, that adds each block's place to others.
use Rattle.std.proofs.Common.{◌≡◌, ℕ, zero, suc, inl, inr, List, [], ◌∷◌, ◌++◌, Option, Some, None, IsSome, is_some, unwrap_or, refl, sym, ap, ◌∙◌, subst, append_assoc, append-nil}
use Rattle.std.specs.List.{Contains}
use Rattle.std.proofs.lemmas.Bool.{false≢true}
use Rattle.std.proofs.lemmas.List.Elements.{Contains-append_cases, Contains-push_cases}
use Rattle.std.proofs.lemmas.Option.{same_Some}
use Rattle.s4_types.specs.Pointer.{Place}
use Rattle.s4_types.specs.declared.limits.TheConstants.{CHAIN_BLOCKS}
use Rattle.lemmas.proofs.Option.{value_there}
use Rattle.lemmas.proofs.Contains.{contains_none}
use Rattle.block_log.specs.Log.{Stored, of_kind}
use Rattle.block_log.specs.declared.kinds.BlockKind.TheVariants.{Journal}
use Rattle.codec.specs.Fields.{◌>>=◌}
use Rattle.codec.specs.Journal.{JournalFields}
use Rattle.codec.proofs.Exact.{bind_some}
use Rattle.journal_chain.specs.Chain.{Link, linked, links_from, chain_links, journal_of, journal_held, places_of}
use Rattle.image_objects.specs.declared.rows.ImageRow.{ImageRow}
use Rattle.image_objects.specs.private.Places.{places_of_chain}
use Rattle.image_objects.proofs.Holding.{no_link_without_fuel}

-- the places of the blocks from here on
abbrev pub places_left : ℕ → (Place → Option JournalFields) → Option Place → List Place
places_left n blocks from = places_of (unwrap_or (links_from n blocks from) [])

-- this many blocks at most are left, and with their places those that were added are all
pub record IsLeft (n : ℕ) (blocks : Place → Option JournalFields) (from : Option Place) (items whole : List Place) : Type 0 where
  pub there : IsSome (links_from n blocks from)
  pub is : items ++ places_left n blocks from ≡ whole

pub begins : (used : Place → Option Stored) (row : ImageRow) (items : List Place) → IsSome (chain_links (of_kind Journal row.object used) row.object row.head) → IsLeft CHAIN_BLOCKS (journal_held used row.object) row.head items (items ++ places_of_chain used row)
unfolding chain_links
begins used row items there = record { there = there; is = refl }

-- ---- the ends

nothing_left : (n : ℕ) (blocks : Place → Option JournalFields) → places_left n blocks None ≡ []
unfolding links_from
nothing_left zero blocks = refl
nothing_left (suc n) blocks = refl

pub at_hole : (n : ℕ) (blocks : Place → Option JournalFields) (from : Option Place) (items whole : List Place) → from ≡ None → IsLeft n blocks from items whole → items ≡ whole
at_hole n blocks from items whole hole l =
    sym (append-nil items) ∙ ap (λ (places : List Place). items ++ places) (sym (ap (places_left n blocks) hole ∙ nothing_left n blocks)) ∙ l.is

no_fuel : (blocks : Place → Option JournalFields) (p : Place) → IsSome (links_from zero blocks (Some p)) → ⊥
unfolding links_from
no_fuel blocks p there = false≢true there

pub at_last : (n : ℕ) (blocks : Place → Option JournalFields) (from : Option Place) (items whole : List Place) → n ≡ 0 → IsLeft n blocks from items whole → items ≡ whole
at_last n blocks None items whole last l = at_hole n blocks None items whole refl l
at_last n blocks (Some p) items whole last l = absurd (no_fuel blocks p (subst (λ k. IsSome (links_from k blocks (Some p))) last l.there))

-- ---- one block more

onward : ℕ → (Place → Option JournalFields) → Place → JournalFields → Option (List Link)
onward n blocks p block = links_from n blocks block.previous >>= λ older. Some (linked p block older)

opened : (n : ℕ) (blocks : Place → Option JournalFields) (p : Place) → links_from (suc n) blocks (Some p) ≡ (blocks p >>= onward n blocks p)
unfolding links_from onward
opened n blocks p = refl

one_link : (p : Place) (block : JournalFields) (o : Option (List Link)) → IsSome (o >>= λ older. Some (linked p block older))
    → IsSome o × (places_of (unwrap_or (o >>= λ older. Some (linked p block older)) []) ≡ p ∷ places_of (unwrap_or o []))
one_link p block None there = absurd (false≢true there)
one_link p block (Some older) there = (refl, refl)

one_onward : (n : ℕ) (blocks : Place → Option JournalFields) (p : Place) (block : JournalFields) → IsSome (onward n blocks p block)
    → IsSome (links_from n blocks block.previous) × (places_of (unwrap_or (onward n blocks p block) []) ≡ p ∷ places_left n blocks block.previous)
unfolding onward
one_onward n blocks p block there = one_link p block (links_from n blocks block.previous) there

found : (n : ℕ) (blocks : Place → Option JournalFields) (p : Place) (block : JournalFields) → blocks p ≡ Some block → links_from (suc n) blocks (Some p) ≡ onward n blocks p block
found n blocks p block here = opened n blocks p ∙ ap (λ (o : Option JournalFields). o >>= onward n blocks p) here

pub one_more : (m n : ℕ) (blocks : Place → Option JournalFields) (from next : Option Place) (p : Place) (block : JournalFields) (items later whole : List Place) → m ≡ suc n → from ≡ Some p → blocks p ≡ Some block → next ≡ block.previous
    → later ≡ items ++ p ∷ [] → IsLeft m blocks from items whole → IsLeft n blocks next later whole
one_more m n blocks from next p block items later whole fuel at here next_is pushed l =
    let same : links_from m blocks from ≡ onward n blocks p block = ap (λ k. links_from k blocks from) fuel ∙ ap (links_from (suc n) blocks) at ∙ found n blocks p block here in
    let step = one_onward n blocks p block (subst (λ (o : Option (List Link)). IsSome o) same l.there) in
    record {
      there = subst (λ (q : Option Place). IsSome (links_from n blocks q)) (sym next_is) step.0;
      is =
          ap (λ (places : List Place). places ++ places_left n blocks next) pushed
          ∙ append_assoc items (p ∷ []) (places_left n blocks next)
          ∙ ap (λ (q : Option Place). items ++ p ∷ places_left n blocks q) next_is
          ∙ ap (λ (places : List Place). items ++ places) (sym step.1)
          ∙ ap (λ (o : Option (List Link)). items ++ places_of (unwrap_or o [])) (sym same)
          ∙ l.is;
    }

pub missing : (m n : ℕ) (blocks : Place → Option JournalFields) (from : Option Place) (p : Place) (items whole : List Place) → m ≡ suc n → from ≡ Some p → blocks p ≡ None → IsLeft m blocks from items whole → ⊥
missing m n blocks from p items whole fuel at none l =
    let gone : links_from m blocks from ≡ None = ap (λ k. links_from k blocks from) fuel ∙ ap (links_from (suc n) blocks) at ∙ opened n blocks p ∙ ap (λ (o : Option JournalFields). o >>= onward n blocks p) none in
    false≢true (sym (ap is_some gone) ∙ l.there)

-- ---- each place of a chain has a block

has_source : {A B : Type 0} (o : Option A) (f : A → Option B) → IsSome (o >>= f) → IsSome o
has_source None f h = absurd (false≢true h)
has_source (Some x) f h = refl

no_links : (n : ℕ) (blocks : Place → Option JournalFields) (links : List Link) → links_from n blocks None ≡ Some links → [] ≡ links
unfolding links_from
no_links zero blocks links h = same_Some [] links h
no_links (suc n) blocks links h = same_Some [] links h

onward_parts : (n : ℕ) (blocks : Place → Option JournalFields) (p : Place) (block : JournalFields) (links : List Link) → onward n blocks p block ≡ Some links → (older : List Link) × ((links_from n blocks block.previous ≡ Some older) × (linked p block older ≡ links))
unfolding onward
onward_parts n blocks p block links h =
    let (older, walk, made) = bind_some (links_from n blocks block.previous) (λ older. Some (linked p block older)) links h in
    (older, (walk, same_Some (linked p block older) links made))

block_there : (n : ℕ) (blocks : Place → Option JournalFields) (from : Option Place) (links : List Link) (p : Place) → links_from n blocks from ≡ Some links → Contains (places_of links) p → IsSome (blocks p)
block_there n blocks None links p walk listed = absurd (contains_none p (subst (λ (l : List Link). Contains (places_of l) p) (sym (no_links n blocks links walk)) listed))
block_there zero blocks (Some q) links p walk listed = absurd (no_link_without_fuel blocks q links walk)
block_there (suc n) blocks (Some q) links p walk listed =
    let first = bind_some (blocks q) (onward n blocks q) links (sym (opened n blocks q) ∙ walk) in
    let block : JournalFields = first.0 in
    let rest : (older : List Link) × ((links_from n blocks block.previous ≡ Some older) × (linked q block older ≡ links)) = onward_parts n blocks q block links first.2 in
    elim (Contains-append_cases (q ∷ []) (places_of rest.0) p (subst (λ (l : List Link). Contains (places_of l) p) (sym rest.1.1) listed)) [
      | inl here ↦ (elim (Contains-push_cases [] q p here) [
        | inl none ↦ absurd (contains_none p none)
        | inr same ↦ subst (λ (r : Place). IsSome (blocks r)) same (ap is_some first.1)
      ])
      | inr later ↦ block_there n blocks block.previous rest.0 p rest.1.0 later
    ]

pub place_there : (used : Place → Option Stored) (row : ImageRow) (p : Place) → IsSome (chain_links (of_kind Journal row.object used) row.object row.head) → Contains (places_of_chain used row) p → IsSome (of_kind Journal row.object used p)
unfolding chain_links
place_there used row p there listed =
    let (links, walk) = value_there (links_from CHAIN_BLOCKS (journal_held used row.object) row.head) there in
    has_source (of_kind Journal row.object used p) (journal_of row.object)
    (block_there CHAIN_BLOCKS (journal_held used row.object) row.head links p walk (subst (λ (o : Option (List Link)). Contains (places_of (unwrap_or o [])) p) walk listed))
