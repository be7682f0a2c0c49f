-- What follows from a chain's being held.
use Rattle.std.proofs.Common.{◌≡◌, ℕ, true, false, ◌==◌, List, [], Option, None, unwrap_or, is_some, refl, sym, ap, subst, arith}
use Rattle.s4_types.specs.Pointer.{Place}
use Rattle.block_log.specs.declared.kinds.BlockKind.TheVariants.{Journal}
use Rattle.block_log.specs.Log.{Stored, of_kind}
use Rattle.codec.specs.Fields.{bit}
use Rattle.codec.specs.Entry.{EntryFields, entries_length}
use Rattle.journal_chain.specs.Packing.{joined, filled_bytes}
use Rattle.journal_chain.specs.Chain.{BlockView, ChainFields, IsChain, Holds, OnlyJournalChanged, chain_entries, chain_links, links_from, entries_held, times}

pub same_blocks : (held later : Place → Option Stored) (chain : ChainFields) (entries : List EntryFields)
    → of_kind Journal chain.object later ≡ of_kind Journal chain.object held → Holds held chain entries → Holds later chain entries
same_blocks held later chain entries same c = subst (λ (v : BlockView). IsChain v chain entries) (sym same) c

pub its_entries : (held : Place → Option Stored) (chain : ChainFields) (entries : List EntryFields) → Holds held chain entries → entries_held held chain ≡ entries
unfolding chain_entries
its_entries held chain entries c = ap (λ (o : Option (List EntryFields)). unwrap_or o []) c.walk

pub is_there : (held : Place → Option Stored) (chain : ChainFields) (entries : List EntryFields) → Holds held chain entries → is_some (chain_entries held chain.object chain.head) ≡ true
unfolding chain_entries
is_there held chain entries c = ap (λ (o : Option (List EntryFields)). is_some o) c.walk

pub empty_held : (held : Place → Option Stored) (o : ℕ) → ((p : Place) → of_kind Journal o held p ≡ None) → Holds held (record { object = o; head = None; bytes = 0; filled = 0 }) []
unfolding chain_links links_from joined filled_bytes entries_length times
empty_held held o none = record {
  blocks = refl;
  walk = refl;
  once = λ p. sym (ap (λ (x : Option (List ℕ)). bit (is_some x)) (none p));
  fit = tt;
  limit = omega arith;
  bytes = refl;
  filled = refl;
}

pub others_stay : (o : ℕ) (held later : Place → Option Stored) (chain : ChainFields) (entries : List EntryFields)
    → OnlyJournalChanged o held later → (o == chain.object) ≡ false → Holds held chain entries → Holds later chain entries
others_stay o held later chain entries only other c = same_blocks held later chain entries (only Journal chain.object other) c
