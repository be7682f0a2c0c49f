-- What is read of each entry of a list.
use Rattle.std.proofs.Common.{◌≡◌, ◌≤◌, ℕ, true, List, length, take, subst}
use Rattle.std.specs.List.{All}
use Rattle.std.proofs.lemmas.List.Elements.{recursion_from_All}
use Rattle.std.proofs.lemmas.List.{take_all}
use Rattle.s4_types.specs.declared.limits.TheConstants.{ENTRY_TRIPLES}
use Rattle.codec.specs.Entry.{EntryFields, entry_rules}
use Rattle.history_cleaner.specs.Laws.{KeepRules, HaveFewTriples}

-- the first this many entries keep the rules, and have no more triples than an entry holds
pub record AreRead (entries : List EntryFields) (n : ℕ) : Type 0 where
  pub rules : All (λ e. entry_rules e ≡ true) (take n entries)
  pub few : All (λ e. length e.triples ≤ ENTRY_TRIPLES) (take n entries)

pub all_keep_rules : (entries : List EntryFields) (n : ℕ) → length entries ≤ n → AreRead entries n → KeepRules entries
all_keep_rules entries n le read = recursion_from_All (λ e. entry_rules e ≡ true) entries (subst (λ (es : List EntryFields). All (λ e. entry_rules e ≡ true) es) (take_all n entries le) read.rules)

pub all_have_few : (entries : List EntryFields) (n : ℕ) → length entries ≤ n → AreRead entries n → HaveFewTriples entries
all_have_few entries n le read = recursion_from_All (λ e. length e.triples ≤ ENTRY_TRIPLES) entries (subst (λ (es : List EntryFields). All (λ e. length e.triples ≤ ENTRY_TRIPLES) es) (take_all n entries le) read.few)
