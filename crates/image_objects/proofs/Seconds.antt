-- What the definitions by a version say of the second one.
use Rattle.std.proofs.Common.{◌≡◌, ℕ, ◌+◌, ◌<◌, List, [], ◌∷◌, Option, refl, sym, ap, ◌∙◌, subst}
use Rattle.s4_types.specs.Pointer.{Place}
use Rattle.s4_types.specs.declared.limits.TheConstants.{JOURNAL_ENTRY_BYTES}
use Rattle.block_log.specs.Log.{Stored}
use Rattle.codec.specs.Entry.{EntryFields, entry_length, entry_length_by, entries_length}
use Rattle.codec.specs.Journal.{journal_at}
use Rattle.codec.specs.declared.versions.ImageVersion.TheVariants.{Second}
use Rattle.undo_redo.specs.Groups.{grouped, grouped_behind}
use Rattle.journal_chain.specs.Packing.{first_length, IsBehind, KeepsTheRule}
use Rattle.journal_chain.specs.Chain.{journal_of, chain_links, chain_entries}
use Rattle.image_objects.specs.declared.rows.ImageRow.{ImageRow}
use Rattle.image_objects.specs.Chains.{blocks_used, entries_used, ChainStands}
use Rattle.image_objects.specs.Inodes.{first_before, first_used}
use Rattle.image_objects.specs.VersionChain.{VersionChainStands, present_used}
use Rattle.image_objects.specs.Objects.{ObjectStands}
use Rattle.image_objects.specs.Versions.{journal_of_by, blocks_used_by, entries_used_by, first_length_by, IsBehindBy, KeepsTheRuleBy, grouped_by, grouped_behind_by, ChainStandsBy, first_used_by, present_used_by, VersionChainStandsBy, ObjectStandsBy}

first_same : (entries : List EntryFields) → first_length_by Second entries ≡ first_length entries
unfolding entry_length entry_length_by
first_same [] = refl
first_same (e ∷ entries) = refl

behind_is : (older : List (List EntryFields)) (block : List EntryFields) → IsBehindBy Second older block → IsBehind older block
behind_is [] block h = tt
behind_is (previous ∷ older) block h = subst (λ (n : ℕ). JOURNAL_ENTRY_BYTES < entries_length previous + n) (first_same block) h

behind_again : (older : List (List EntryFields)) (block : List EntryFields) → IsBehind older block → IsBehindBy Second older block
behind_again [] block h = tt
behind_again (previous ∷ older) block h = subst (λ (n : ℕ). JOURNAL_ENTRY_BYTES < entries_length previous + n) (sym (first_same block)) h

rule_is : (blocks : List (List EntryFields)) → KeepsTheRuleBy Second blocks → KeepsTheRule blocks
rule_is [] h = tt
rule_is (newest ∷ older) h = (record { some = h.0.some; few = h.0.few }, behind_is older newest h.1, rule_is older h.2)

rule_again : (blocks : List (List EntryFields)) → KeepsTheRule blocks → KeepsTheRuleBy Second blocks
rule_again [] h = tt
rule_again (newest ∷ older) h = (record { some = h.0.some; few = h.0.few }, behind_again older newest h.1, rule_again older h.2)

groups_behind : (entries : List EntryFields) (count : ℕ) (e : EntryFields) → grouped_behind_by Second count e entries ≡ grouped_behind count e entries
groups_behind [] count e = refl
groups_behind (f ∷ entries) count e = rw (groups_behind entries (count + 1) f, groups_behind entries 1 f) refl

groups_same : (entries : List EntryFields) → grouped_by Second entries ≡ grouped entries
groups_same [] = refl
groups_same (e ∷ entries) = groups_behind entries 1 e

pub same_entries : (used : Place → Option Stored) (row : ImageRow) → entries_used_by Second used row ≡ entries_used used row
unfolding chain_entries chain_links journal_of journal_of_by journal_at
same_entries used row = refl

same_blocks : (used : Place → Option Stored) (row : ImageRow) → blocks_used_by Second used row ≡ blocks_used used row
unfolding chain_links journal_of journal_of_by journal_at
same_blocks used row = refl

pub chain_is : (used : Place → Option Stored) (row : ImageRow) (clock : ℕ) → ChainStandsBy Second used row clock → ChainStands used row clock
unfolding chain_entries chain_links journal_of journal_of_by journal_at
chain_is used row clock s = record {
  walk = s.walk;
  packing = rule_is (blocks_used used row) s.packing;
  limit = s.limit;
  moments = s.moments;
  groups = sym (groups_same (entries_used used row)) ∙ s.groups;
}

pub chain_again : (used : Place → Option Stored) (row : ImageRow) (clock : ℕ) → ChainStands used row clock → ChainStandsBy Second used row clock
unfolding chain_entries chain_links journal_of journal_of_by journal_at
chain_again used row clock s = record {
  walk = s.walk;
  packing = rule_again (blocks_used used row) s.packing;
  limit = s.limit;
  moments = s.moments;
  groups = groups_same (entries_used used row) ∙ s.groups;
}

-- ---- the version chain and the object

pub same_first : (used : Place → Option Stored) (row : ImageRow) → first_used_by Second used row ≡ first_used used row
same_first used row = ap (first_before used row) (same_entries used row)

pub same_present : (used : Place → Option Stored) (row : ImageRow) → present_used_by Second used row ≡ present_used used row
unfolding chain_entries chain_links journal_of journal_of_by journal_at
same_present used row = refl

pub versions_are : (used : Place → Option Stored) (row : ImageRow) (clock : ℕ) → VersionChainStandsBy Second used row clock → VersionChainStands used row clock
unfolding chain_entries chain_links journal_of journal_of_by journal_at
versions_are used row clock s = record {
  chain = chain_is used row clock s.chain;
  beginning = s.beginning.0;
  run = s.run;
  order = s.order;
}

pub versions_again : (used : Place → Option Stored) (row : ImageRow) (clock : ℕ) → VersionChainStands used row clock → VersionChainStandsBy Second used row clock
unfolding chain_entries chain_links journal_of journal_of_by journal_at
versions_again used row clock s = record {
  chain = chain_again used row clock s.chain;
  beginning = (s.beginning, tt);
  run = s.run;
  order = s.order;
}

pub object_is : (used : Place → Option Stored) (row : ImageRow) (clock : ℕ) → ObjectStandsBy Second used row clock → ObjectStands used row clock
unfolding chain_entries chain_links journal_of journal_of_by journal_at
object_is used row clock s = record {
  versions = versions_are used row clock s.versions;
  led = s.led;
  tidy = s.tidy;
}

pub object_again : (used : Place → Option Stored) (row : ImageRow) (clock : ℕ) → ObjectStands used row clock → ObjectStandsBy Second used row clock
unfolding chain_entries chain_links journal_of journal_of_by journal_at
object_again used row clock s = record {
  versions = versions_again used row clock s.versions;
  led = s.led;
  tidy = s.tidy;
}
