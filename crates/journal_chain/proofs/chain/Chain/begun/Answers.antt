use Rattle.std.proofs.Common.{◌≡◌, ◌∙◌, ◌+◌, ◌++◌, ◌∷◌, [], Some, sym, ap, subst, arith}
use Rattle.std.specs.Option.{option_to_list}
use Rattle.std.proofs.lemmas.Bool.{leb-true}
use Rattle.s4_types.specs.declared.limits.TheConstants.{JOURNAL_ENTRY_BYTES}
use Rattle.codec.specs.Entry.{entry_length}
use Rattle.codec.specs.Journal.{JournalFields}
use Rattle.journal_chain.specs.Chain.{entries_held}
use Rattle.journal_chain.specs.Writing.{reopened, Unfinished}
use Rattle.journal_chain.proofs.Chains.{begins_block}
use Rattle.journal_chain.proofs.Calls.{HeadRead, head_spelled, head_read, begun_head, begun_filled, new_filled, new_is}
use Rattle.journal_chain.proofs.chain.Chain.begun.Given.{Over}
use Rattle.journal_chain.proofs.chain.Chain.begun.Goals.{After-reopened, After-reopen-block, After-unwrap}
use Rattle.journal_chain.proofs.chain.Chain.begun.Goals as goal

-- which head is reopened
which : (g : Over) (c : After-reopened g) → c.reopened.result ≡ reopened c.args.self.now (entry_length c.args.first.now)
which g c = c.reopened.ensures.value ∙ ap (reopened c.args.self.now) c.byte_count.ensures.exact

-- what was read of the head
read : (g : Over) (c : After-reopen-block g) → reopened c.args.self.now (entry_length c.args.first.now) ≡ Some c.in-Some.head → HeadRead (g.B.Blocks.log c.args.table.now).held c.args.self.now (entry_length c.args.first.now) c.in-Some.head c.reopen-block.result
read g c is =
    let held = (g.B.Blocks.log c.args.table.now).held in
    head_read held c.args.self.now (entries_held held c.args.self.now) (entry_length c.args.first.now) c.in-Some.head c.reopen-block.result c.requires is c.reopen-block.ensures.value

-- the new block
made : (g : Over) (c : After-unwrap g) → c.unwrap.result ≡ record { object = c.object.result; previous = c.head.result; entries = c.args.first.now ∷ [] }
made g c = new_is c.new.result c.object.result (record { object = c.object.result; previous = c.head.result; entries = c.args.first.now ∷ [] }) c.unwrap.result c.object.ensures.least c.new.ensures c.unwrap.ensures

pub reopen-block-requires : goal.reopen-block-requires
reopen-block-requires g c =
    let chain = c.args.self.now in
    let held = (g.B.Blocks.log c.args.table.now).held in
    head_spelled held chain (entries_held held chain) (entry_length c.args.first.now) c.in-Some.head c.requires (sym (which g (goal.at.reopen-block-requires g c).After-reopened) ∙ c.in-Some.is)

pub add-requires : goal.add-requires
add-requires g c =
    let at = goal.at.add-requires g c in
    let r = read g at.After-reopen-block (sym (which g at.After-reopened) ∙ c.in-Some.is) in
    omega (arith, leb-true (c.args.self.now.filled + entry_length c.args.first.now) JOURNAL_ENTRY_BYTES r.fit, r.filled)

pub returns-in-Some-clause-unfinished : goal.returns-in-Some-clause-unfinished
returns-in-Some-clause-unfinished g c =
    let chain = c.args.self.now in
    let log = g.B.Blocks.log c.args.table.now in
    begun_head log (g.B.Blocks.log c.reopen-block.new.table) chain (entries_held log.held chain) c.args.first.now c.in-Some.head c.reopen-block.result c.add.new.self c.reopen-block.ensures.same c.requires
    (sym (which g (goal.at.returns-in-Some-clause-unfinished g c).After-reopened) ∙ c.in-Some.is) c.reopen-block.ensures.value
    c.add.ensures.object c.add.ensures.previous c.add.ensures.entries

pub returns-in-Some-clause-object : goal.returns-in-Some-clause-object
returns-in-Some-clause-object g c =
    let at = goal.at.returns-in-Some-clause-object g c in
    c.add.ensures.object ∙ (read g at.After-reopen-block (sym (which g at.After-reopened) ∙ c.in-Some.is)).object

pub returns-in-Some-clause-filled : goal.returns-in-Some-clause-filled
returns-in-Some-clause-filled g c =
    let at = goal.at.returns-in-Some-clause-filled g c in
    begun_filled (g.B.Blocks.log c.args.table.now).held c.args.self.now c.args.first.now c.in-Some.head c.reopen-block.result c.add.new.self.entries
    (read g at.After-reopen-block (sym (which g at.After-reopened) ∙ c.in-Some.is)) c.add.ensures.entries

pub returns-in-None-clause-unfinished : goal.returns-in-None-clause-unfinished
returns-in-None-clause-unfinished g c =
    let chain = c.args.self.now in
    let held = (g.B.Blocks.log c.args.table.now).held in
    let e = c.args.first.now in
    let at = goal.at.returns-in-None-clause-unfinished g c in
    let none = sym (which g at.After-reopened) ∙ c.in-None.is in
    subst (λ s. Unfinished held chain.object (option_to_list s) c.unwrap.result (entries_held held chain ++ e ∷ [])) (sym none)
    (begins_block held chain (entries_held held chain) e c.unwrap.result c.requires none
    (made g at.After-unwrap ∙ ap (λ n. record { object = n; previous = c.head.result; entries = e ∷ [] }) c.object.ensures.object
    ∙ ap (λ q. record { object = chain.object; previous = q; entries = e ∷ [] }) c.head.ensures))

pub returns-in-None-clause-filled : goal.returns-in-None-clause-filled
returns-in-None-clause-filled g c =
    let held = (g.B.Blocks.log c.args.table.now).held in
    let at = goal.at.returns-in-None-clause-filled g c in
    new_filled held c.args.self.now (entries_held held c.args.self.now) c.args.first.now c.unwrap.result.entries c.requires (sym (which g at.After-reopened) ∙ c.in-None.is) (ap (λ (j : JournalFields). j.entries) (made g at.After-unwrap))
