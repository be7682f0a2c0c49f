use Rattle.std.proofs.Common.{rules, ◌≡◌, ◌∙◌, [], length, None, refl, sym, ap, arith}
use Rattle.std.proofs.lemmas.Grind.{common_steps}
use Rattle.std.proofs.lemmas.List.{nil_from_length}
use Rattle.block_log.specs.Log.{Log}
use Rattle.journal_chain.specs.Back.{BackFields, entries_left}
use Rattle.journal_chain.proofs.Backwards.{turn_reads, turned, all_given}
use Rattle.journal_chain.proofs.back.EntriesBack.turn.Goals as goal

pub returns-in_default-clause-end : goal.returns-in_default-clause-end
returns-in_default-clause-end g c = λ given.
    let none : c.self.inside.previous ≡ None = search rules in
    all_given (g.B.Blocks.log c.args.table.now).held c.args.self.now (sym (ap (λ (b : BackFields). b.previous) c.self.view_is) ∙ none) given

pub open-block-requires : goal.open-block-requires
open-block-requires g c =
    turn_reads (g.B.Blocks.log c.args.table.now).held c.args.self.now c.in-Some.place c.requires (sym (ap (λ (b : BackFields). b.previous) c.self.view_is) ∙ c.in-Some.is)

pub returns-clause-left : goal.returns-clause-left
returns-clause-left g c =
    let log = g.B.Blocks.log c.args.table.now in
    let back = c.args.self.now in
    let after : BackFields = record { previous = c.previous-self-inside.result; entries = c.open-block.result.entries } in
    let zero : length c.self.inside.block.entries ≡ 0 = grind (arith, common_steps) in
    let none : back.entries ≡ [] = sym (ap (λ (b : BackFields). b.entries) c.self.view_is) ∙ nil_from_length c.self.inside.block.entries zero in
    ap (λ (l : Log). entries_left l.held after) c.open-block.ensures.same
    ∙ turned log.held back after c.in-Some.place c.open-block.result c.requires (sym (ap (λ (b : BackFields). b.previous) c.self.view_is) ∙ c.in-Some.is) none
    c.open-block.ensures.value c.previous-self-inside.ensures refl
