use Rattle.std.proofs.Common.{◌∙◌, [], ◌∷◌, Option, map, sym, ap, subst}
use Rattle.s4_types.specs.Pointer.{Place}
use Rattle.block_log.specs.Taken.{TakesPlaces}
use Rattle.codec.specs.Entry.{entry_length}
use Rattle.codec.specs.Journal.{JournalFields}
use Rattle.journal_chain.specs.Sizes.{filled_with, breaks}
use Rattle.journal_chain.specs.Chain.{ChainFields}
use Rattle.journal_chain.specs.Writing.{Finished, InOrder}
use Rattle.journal_chain.proofs.Calls.{takes_last}
use Rattle.journal_chain.proofs.Afresh.{written, written_only}
use Rattle.journal_chain.proofs.Order.{whole_in_order}
use Rattle.journal_chain.proofs.chain.Chain.afresh.Goals as goal

pub returns-clause-finished : goal.returns-clause-finished
returns-clause-finished g c = λ stale s.
    let log3 = g.B.Blocks.log c.write-head.new.table in
    subst (λ (h : Option Place). Finished log3.held c.args.object stale h (c.args.first.now ∷ c.args.later.now)) (sym (ap (λ (x : ChainFields). x.head) c.set_head.ensures))
    (written (g.B.Blocks.log c.args.table.now) (g.B.Blocks.log c.take_all.new.table) log3 c.args.object c.args.first.now c.args.later.now c.first_block-block.result c.take_all.new.block
    c.write-head.result stale c.first_block-block.ensures.value c.take_all.ensures.unfinished c.write-head.ensures s).finished

pub returns-clause-order : goal.returns-clause-order
returns-clause-order g c =
    let log = g.B.Blocks.log c.args.table.now in
    let log3 = g.B.Blocks.log c.write-head.new.table in
    subst (λ (h : Option Place). InOrder c.args.object log3 h log.ahead) (sym (ap (λ (x : ChainFields). x.head) c.set_head.ensures))
    (whole_in_order log (g.B.Blocks.log c.take_all.new.table) log3 c.args.object (c.args.first.now ∷ []) c.first_block-block.result c.take_all.new.block
    c.write-head.result c.first_block-block.ensures.value c.take_all.ensures.object c.take_all.ensures.order c.write-head.ensures)

pub returns-clause-filled : goal.returns-clause-filled
returns-clause-filled g c = λ stale s.
    ap (λ (x : ChainFields). x.filled) c.set_head.ensures ∙ c.entry_bytes.ensures.exact
    ∙ (written (g.B.Blocks.log c.args.table.now) (g.B.Blocks.log c.take_all.new.table) (g.B.Blocks.log c.write-head.new.table) c.args.object c.args.first.now c.args.later.now c.first_block-block.result c.take_all.new.block
    c.write-head.result stale c.first_block-block.ensures.value c.take_all.ensures.unfinished c.write-head.ensures s).filled

pub returns-clause-others : goal.returns-clause-others
returns-clause-others g c =
    written_only (g.B.Blocks.log c.args.table.now) (g.B.Blocks.log c.take_all.new.table) (g.B.Blocks.log c.write-head.new.table) c.args.object c.first_block-block.result c.take_all.new.block c.write-head.result
    (ap (λ (j : JournalFields). j.object) c.first_block-block.ensures.value) c.take_all.ensures.object c.take_all.ensures.others c.write-head.ensures

pub returns-clause-takes : goal.returns-clause-takes
returns-clause-takes g c =
    let log = g.B.Blocks.log c.args.table.now in
    let log2 = g.B.Blocks.log c.take_all.new.table in
    let sizes = map entry_length c.args.later.now in
    takes_last (breaks (filled_with 0 (entry_length c.args.first.now)) sizes) log log2 (g.B.Blocks.log c.write-head.new.table) g.met.B.Blocks.places_taken_add_up
    (subst (λ n. TakesPlaces (breaks n sizes) log log2) c.first_block-block.ensures.filled c.take_all.ensures.takes)
    c.write-head.ensures.takes
