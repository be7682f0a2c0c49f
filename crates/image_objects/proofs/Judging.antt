-- What a walk and the tests of its entries say of a row's chain in an image of a version.
use Rattle.std.proofs.Common.{◌≡◌, ℕ, ◌+◌, ◌≤◌, ◌&&◌, true, false, leb, List, [], ◌∷◌, Option, Some, None, map, IsSome, is_some, unwrap_or, option_map, refl, sym, ap, ◌∙◌, subst, arith}
use Rattle.std.specs.List.{AllByRecursion, list_all}
use Rattle.std.proofs.lemmas.Bool.{both_ways, and_parts, and_from, leb-true, le-leb}
use Rattle.std.proofs.lemmas.Option.{none-some, cond_some}
use Rattle.s4_types.specs.Pointer.{Place}
use Rattle.s4_types.specs.declared.limits.TheConstants.{JOURNAL_ENTRY_BYTES}
use Rattle.lemmas.proofs.Option.{value_there}
use Rattle.block_log.specs.Log.{Stored}
use Rattle.codec.specs.Fields.{◌>>=◌, kept}
use Rattle.codec.specs.Entry.{EntryFields, entry_length, entries_length_by}
use Rattle.codec.specs.Versions.{chain_blocks_by, chain_entry_bytes_by}
use Rattle.codec.specs.declared.versions.ImageVersion.{ImageVersion}
use Rattle.journal_chain.specs.Packing.{joined, packed, added, filled_bytes}
use Rattle.journal_chain.specs.Sizes.{filled_after}
use Rattle.journal_chain.specs.Chain.{Link, blocks_of}
use Rattle.time_read.specs.Orderly.{IsFromTo}
use Rattle.image_objects.specs.declared.rows.ImageRow.{ImageRow}
use Rattle.image_objects.specs.Versions.{journal_used_by, links_used_by, blocks_used_by, entries_used_by, KeepsTheRuleBy, grouped_by, ChainStandsBy}
use Rattle.image_objects.specs.private.Walked.{walked}
use Rattle.image_objects.proofs.Walking.{Found, NoRoom, found, walked_since}

-- the walk of a row's whole chain
abbrev pub WalkOf : ImageVersion → (Place → Option Stored) → ImageRow → Option (List EntryFields)
WalkOf v used row = walked v (chain_blocks_by v) (journal_used_by v used row.object) (JOURNAL_ENTRY_BYTES + 1) row.head

-- ---- what an answer is

pub some_is : {V X : Type 0} (f : V → X) (o : Option V) (v : V) (w : Option X) → o ≡ Some v → option_map f o ≡ w → w ≡ Some (f v)
some_is f o v w is made = sym made ∙ ap (λ p. option_map f p) is

pub none_is : {V X : Type 0} (f : V → X) (o : Option V) (w : Option X) → o ≡ None → option_map f o ≡ w → w ≡ None
none_is f o w is made = sym made ∙ ap (λ p. option_map f p) is

-- ---- a chain that is read

-- what is told of a row's chain where its links are these
pub record Told (v : ImageVersion) (used : Place → Option Stored) (row : ImageRow) (links : List Link) : Type 0 where
  pub there : IsSome (links_used_by v used row)
  pub blocks : blocks_used_by v used row ≡ blocks_of links
  pub entries : entries_used_by v used row ≡ joined (blocks_of links)

pub told : (v : ImageVersion) (used : Place → Option Stored) (row : ImageRow) (links : List Link) → links_used_by v used row ≡ Some links → Told v used row links
told v used row links walk = record {
  there = ap is_some walk;
  blocks = ap (λ (found : Option (List Link)). unwrap_or (found >>= λ l. Some (blocks_of l)) []) walk;
  entries = ap (λ (found : Option (List Link)). unwrap_or (found >>= λ l. Some (joined (blocks_of l))) []) walk;
}

-- the links that a walk has found
links_found : (v : ImageVersion) (used : Place → Option Stored) (row : ImageRow) (items : List EntryFields) → WalkOf v used row ≡ Some items
    → (links : List Link) × ((links_used_by v used row ≡ Some links) × (KeepsTheRuleBy v (blocks_of links) × (items ≡ joined (blocks_of links))))
links_found v used row items walk =
    let f : Found v (chain_blocks_by v) (JOURNAL_ENTRY_BYTES + 1) (journal_used_by v used row.object) row.head items = found v (chain_blocks_by v) (JOURNAL_ENTRY_BYTES + 1) (journal_used_by v used row.object) row.head items walk in
    (f.links, (f.walk, (f.rule, f.entries_are)))

pub items_are : (v : ImageVersion) (used : Place → Option Stored) (row : ImageRow) (items : List EntryFields) → WalkOf v used row ≡ Some items → items ≡ entries_used_by v used row
items_are v used row items walk =
    let (links, (there, (rule, are))) = links_found v used row items walk in
    let t : Told v used row links = told v used row links there in
    are ∙ sym t.entries

all_lie : (first last : ℕ) (entries : List EntryFields) → list_all (λ e. leb first e.moment && leb e.moment last) entries ≡ true → AllByRecursion (λ e. IsFromTo first last e.moment) entries
all_lie first last [] h = tt
all_lie first last (e ∷ entries) h =
    let parts = and_parts (leb first e.moment && leb e.moment last) (list_all (λ (f : EntryFields). leb first f.moment && leb f.moment last) entries) h in
    let tests = and_parts (leb first e.moment) (leb e.moment last) parts.0 in
    ((leb-true first e.moment tests.0, leb-true e.moment last tests.1), all_lie first last entries parts.1)

lie_all : (first last : ℕ) (entries : List EntryFields) → AllByRecursion (λ e. IsFromTo first last e.moment) entries → list_all (λ e. leb first e.moment && leb e.moment last) entries ≡ true
lie_all first last [] h = refl
lie_all first last (e ∷ entries) h =
    and_from (leb first e.moment && leb e.moment last) (list_all (λ (f : EntryFields). leb first f.moment && leb f.moment last) entries)
    (and_from (leb first e.moment) (leb e.moment last) (le-leb first e.moment h.0.0) (le-leb e.moment last h.0.1)) (lie_all first last entries h.1)

pub stands : (v : ImageVersion) (used : Place → Option Stored) (row : ImageRow) (clock bytes : ℕ) (items : List EntryFields) → WalkOf v used row ≡ Some items → Some bytes ≡ kept (leb (entries_length_by v items) (chain_entry_bytes_by v)) (entries_length_by v items)
    → list_all (λ e. leb row.created e.moment && leb e.moment clock) items ≡ true → grouped_by v items ≡ true → ChainStandsBy v used row clock
stands v used row clock bytes items walk few lie groups =
    let (links, (there, (rule, are))) = links_found v used row items walk in
    let t : Told v used row links = told v used row links there in
    let same : items ≡ entries_used_by v used row = are ∙ sym t.entries in
    let test = cond_some (leb (entries_length_by v items) (chain_entry_bytes_by v)) (entries_length_by v items) bytes (sym few) in
    record {
      walk = t.there;
      packing = subst (λ (b : List (List EntryFields)). KeepsTheRuleBy v b) (sym t.blocks) rule;
      limit = subst (λ (es : List EntryFields). entries_length_by v es ≤ chain_entry_bytes_by v) same (leb-true (entries_length_by v items) (chain_entry_bytes_by v) test.0);
      moments = subst (λ (es : List EntryFields). AllByRecursion (λ e. IsFromTo row.created clock e.moment) es) same (all_lie row.created clock items lie);
      groups = subst (λ (es : List EntryFields). grouped_by v es ≡ true) same groups;
    }

pub bytes_are : (v : ImageVersion) (bytes : ℕ) (items entries : List EntryFields) → Some bytes ≡ kept (leb (entries_length_by v items) (chain_entry_bytes_by v)) (entries_length_by v items) → items ≡ entries → bytes ≡ entries_length_by v entries
bytes_are v bytes items entries few same = sym (cond_some (leb (entries_length_by v items) (chain_entry_bytes_by v)) (entries_length_by v items) bytes (sym few)).1 ∙ ap (entries_length_by v) same

no_bytes : filled_bytes [] ≡ 0
unfolding filled_bytes
no_bytes = refl

pub head_is : ((blocks : List (List EntryFields)) (entries : List EntryFields) → filled_bytes (added blocks entries) ≡ filled_after (filled_bytes blocks) (map entry_length entries))
    → (bytes : ℕ) (items entries : List EntryFields) → bytes ≡ filled_after 0 (map entry_length items) → items ≡ entries → bytes ≡ filled_bytes (packed entries)
head_is after bytes items entries is same =
    is ∙ sym (ap (λ n. filled_after n (map entry_length items)) no_bytes) ∙ sym (after [] items) ∙ ap (λ (es : List EntryFields). filled_bytes (packed es)) same

-- ---- a chain that isn't read

any_room : (v : ImageVersion) (blocks : List (List EntryFields)) → NoRoom v (JOURNAL_ENTRY_BYTES + 1) blocks
any_room v [] = tt
any_room v (newest ∷ older) = omega arith

pub walk_is : (v : ImageVersion) (used : Place → Option Stored) (row : ImageRow) (clock : ℕ) → ChainStandsBy v used row clock → WalkOf v used row ≡ Some (entries_used_by v used row)
walk_is v used row clock s =
    let (links, there) = value_there (links_used_by v used row) s.walk in
    let t : Told v used row links = told v used row links there in
    let rule : KeepsTheRuleBy v (blocks_of links) = subst (λ (b : List (List EntryFields)). KeepsTheRuleBy v b) t.blocks s.packing in
    walked_since v (chain_blocks_by v) (JOURNAL_ENTRY_BYTES + 1) (journal_used_by v used row.object) row.head links there (any_room v (blocks_of links)) rule ∙ ap Some (sym t.entries)

pub no_walk : (v : ImageVersion) (used : Place → Option Stored) (row : ImageRow) (clock : ℕ) → WalkOf v used row ≡ None → ChainStandsBy v used row clock → ⊥
no_walk v used row clock none s = none-some (entries_used_by v used row) (sym none ∙ walk_is v used row clock s)

pub too_many_bytes : (v : ImageVersion) (used : Place → Option Stored) (row : ImageRow) (clock : ℕ) (items : List EntryFields) → WalkOf v used row ≡ Some items → None ≡ kept (leb (entries_length_by v items) (chain_entry_bytes_by v)) (entries_length_by v items) → ChainStandsBy v used row clock → ⊥
too_many_bytes v used row clock items walk none s =
    let few : entries_length_by v items ≤ chain_entry_bytes_by v = subst (λ (es : List EntryFields). entries_length_by v es ≤ chain_entry_bytes_by v) (sym (items_are v used row items walk)) s.limit in
    none-some (entries_length_by v items) (none ∙ ap (λ b. kept b (entries_length_by v items)) (le-leb (entries_length_by v items) (chain_entry_bytes_by v) few))

pub another_time : (v : ImageVersion) (used : Place → Option Stored) (row : ImageRow) (clock : ℕ) (items : List EntryFields) → WalkOf v used row ≡ Some items → list_all (λ e. leb row.created e.moment && leb e.moment clock) items ≡ false → ChainStandsBy v used row clock → ⊥
another_time v used row clock items walk falls s =
    both_ways (list_all (λ (e : EntryFields). leb row.created e.moment && leb e.moment clock) items) falls (lie_all row.created clock items (subst (λ (es : List EntryFields). AllByRecursion (λ e. IsFromTo row.created clock e.moment) es) (sym (items_are v used row items walk)) s.moments))

pub no_groups : (v : ImageVersion) (used : Place → Option Stored) (row : ImageRow) (clock : ℕ) (items : List EntryFields) → WalkOf v used row ≡ Some items → grouped_by v items ≡ false → ChainStandsBy v used row clock → ⊥
no_groups v used row clock items walk falls s =
    both_ways (grouped_by v items) falls (ap (λ (es : List EntryFields). grouped_by v es) (items_are v used row items walk) ∙ s.groups)
