use Rattle.std.proofs.Common.{◌≡◌, List, Option, None, ap, ◌∙◌, subst, rules}
use Rattle.std.specs.Prelude.{IfSome, IfNone}
use Rattle.codec.specs.Entry.{EntryFields, entries_length}
use Rattle.codec.specs.declared.versions.ImageVersion.TheVariants.{Second}
use Rattle.journal_chain.specs.Packing.{packed, filled_bytes}
use Rattle.image_objects.specs.Versions.{entries_used_by, ChainStandsBy}
use Rattle.image_objects.proofs.Seconds.{same_entries, chain_is, chain_again}
use Rattle.image_objects.proofs.chains.read_chain.Goals as goal

pub returns-in_default-clause-only : goal.returns-in_default-clause-only
returns-in_default-clause-only g c = λ s.
    let used = g.U.UsedBlocks.used c.args.used.now in
    let none : c.in_ok-chain.field-0 ≡ None = search rules in
    let only = subst (λ (o : Option _). IfNone o (ChainStandsBy Second used c.args.row.now c.args.clock → ⊥)) none c.in_ok-chain.ensures.only in
    only (chain_again used c.args.row.now c.args.clock s)

pub returns-clause-stands : goal.returns-clause-stands
returns-clause-stands g c =
    let used = g.U.UsedBlocks.used c.args.used.now in
    chain_is used c.args.row.now c.args.clock (subst (λ (o : Option _). IfSome o (λ _. ChainStandsBy Second used c.args.row.now c.args.clock)) c.in-Some.is c.in_ok-chain.ensures.stands)

pub returns-clause-entries : goal.returns-clause-entries
returns-clause-entries g c =
    let used = g.U.UsedBlocks.used c.args.used.now in
    c.with_head_bytes-chain.ensures.entries ∙ subst (λ (o : Option _). IfSome o (λ chain. chain.entries.items ≡ entries_used_by Second used c.args.row.now)) c.in-Some.is c.in_ok-chain.ensures.entries ∙ same_entries used c.args.row.now

pub returns-clause-bytes : goal.returns-clause-bytes
returns-clause-bytes g c =
    let used = g.U.UsedBlocks.used c.args.used.now in
    c.with_head_bytes-chain.ensures.bytes ∙ subst (λ (o : Option _). IfSome o (λ chain. chain.bytes ≡ entries_length (entries_used_by Second used c.args.row.now))) c.in-Some.is c.in_ok-chain.ensures.bytes ∙ ap entries_length (same_entries used c.args.row.now)

pub returns-clause-head : goal.returns-clause-head
returns-clause-head g c =
    let used = g.U.UsedBlocks.used c.args.used.now in
    let items = subst (λ (o : Option _). IfSome o (λ chain. chain.entries.items ≡ entries_used_by Second used c.args.row.now)) c.in-Some.is c.in_ok-chain.ensures.entries ∙ same_entries used c.args.row.now in
    c.with_head_bytes-chain.ensures.head ∙ ap (λ (es : List EntryFields). filled_bytes (packed es)) items
