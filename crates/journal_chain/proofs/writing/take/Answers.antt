use Rattle.std.proofs.Common.{◌≡◌, ◌∙◌, sym, ap, subst, ◌∷◌, [], Option, Some, true, arith}
use Rattle.s4_types.specs.Pointer.{Place}
use Rattle.codec.specs.Entry.{entry_length, entries_length}
use Rattle.codec.specs.Journal.{JournalFields}
use Rattle.journal_chain.specs.Sizes.{fits}
use Rattle.journal_chain.specs.Writing.{InOrder}
use Rattle.journal_chain.proofs.Chains.{entry_fits}
use Rattle.journal_chain.proofs.Calls.{filled_fits, filled_begins, new_is, take_begins}
use Rattle.journal_chain.proofs.Order.{put_in_order}
use Rattle.journal_chain.proofs.writing.take.Goals as goal

pub returns-then-fits-clause-unfinished : goal.returns-then-fits-clause-unfinished
returns-then-fits-clause-unfinished g c = λ stale entries u.
    let b = c.args.block.now in
    let e = c.args.entry.now in
    let fit : fits (entries_length b.entries) (entry_length e) ≡ true = sym c.fits.ensures ∙ c.if-fits.true in
    entry_fits (g.B.Blocks.log c.args.table.now).held b.object stale b entries e c.add.new.self u fit c.add.ensures.object c.add.ensures.previous
    c.add.ensures.entries

pub returns-then-fits-clause-order : goal.returns-then-fits-clause-order
returns-then-fits-clause-order g c = λ all i. subst (λ (h : Option Place). InOrder c.args.block.now.object (g.B.Blocks.log c.args.table.now) h all) (sym c.add.ensures.previous) i

pub returns-then-fits-clause-filled : goal.returns-then-fits-clause-filled
returns-then-fits-clause-filled g c =
    let b = c.args.block.now in
    filled_fits b.entries c.add.new.self.entries c.args.entry.now c.add.ensures.entries (sym c.fits.ensures ∙ c.if-fits.true)

pub returns-clause-unfinished : goal.returns-clause-unfinished
returns-clause-unfinished g c = λ stale entries u.
    let b = c.args.block.now in
    let e = c.args.entry.now in
    let made : JournalFields = record { object = c.object.result; previous = Some c.write-place.result; entries = c.args.entry.now ∷ [] } in
    let is : c.unwrap.result ≡ made = new_is c.new.result c.object.result made c.unwrap.result (omega arith) c.new.ensures c.unwrap.ensures in
    take_begins (g.B.Blocks.log c.args.table.now) (g.B.Blocks.log c.write-place.new.table) c.write-place.result stale b c.unwrap.result entries e u c.write-place.ensures
    (sym c.fits.ensures ∙ c.if-fits.false)
    (is ∙ ap (λ n. record { object = n; previous = Some c.write-place.result; entries = e ∷ [] }) c.object.ensures)

pub returns-clause-order : goal.returns-clause-order
returns-clause-order g c = λ all i.
    let b = c.args.block.now in
    let made : JournalFields = record { object = c.object.result; previous = Some c.write-place.result; entries = c.args.entry.now ∷ [] } in
    let is : c.unwrap.result ≡ made = new_is c.new.result c.object.result made c.unwrap.result (omega arith) c.new.ensures c.unwrap.ensures in
    let log = g.B.Blocks.log c.args.table.now in
    let later = g.B.Blocks.log c.write-place.new.table in
    subst (λ (h : Option Place). InOrder b.object later h all) (sym (ap (λ (j : JournalFields). j.previous) is)) (put_in_order log later c.write-place.result b all c.write-place.ensures i)

pub returns-clause-filled : goal.returns-clause-filled
returns-clause-filled g c =
    let b = c.args.block.now in
    let made : JournalFields = record { object = c.object.result; previous = Some c.write-place.result; entries = c.args.entry.now ∷ [] } in
    let is : c.unwrap.result ≡ made = new_is c.new.result c.object.result made c.unwrap.result (omega arith) c.new.ensures c.unwrap.ensures in
    filled_begins b.entries c.unwrap.result.entries c.args.entry.now (ap (λ (j : JournalFields). j.entries) is) (sym c.fits.ensures ∙ c.if-fits.false)
