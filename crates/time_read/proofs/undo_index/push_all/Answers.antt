use Rattle.std.proofs.Common.{List, ◌++◌, map, take, subst}
use Rattle.std.proofs.lemmas.List.{take_all}
use Rattle.codec.specs.Entry.{EntryFields}
use Rattle.time_read.specs.Undoings.{Undoing, Tells, undoing_of}
use Rattle.time_read.proofs.Undone.{told_more, extends_on}
use Rattle.time_read.proofs.undo_index.push_all.Goals as goal

pub loop-entry-preserved : goal.loop-entry-preserved
loop-entry-preserved c =
    let entries : List EntryFields = c.args.entries.now in
    record {
      told = λ us tells.
          subst (λ (l : List Undoing). Tells c.push_entry.new.records.items c.push_entry.new.pointers c.push_entry.new.attributes.items l) (told_more us entries c.loop-entry.entry-index c.entry-item.result c.loop-entry-test.true c.entry-item.is)
          (c.in_ok-push_entry.ensures.told (us ++ map undoing_of (take c.loop-entry.entry-index entries)) (c.loop-entry.invariant.told us tells));
      records = extends_on c.args.records.now.items c.loop-entry.records.items c.push_entry.new.records.items c.loop-entry.invariant.records c.in_ok-push_entry.ensures.records;
      pointers = extends_on c.args.pointers.now c.loop-entry.pointers c.push_entry.new.pointers c.loop-entry.invariant.pointers c.in_ok-push_entry.ensures.pointers;
      attributes = extends_on c.args.attributes.now.items c.loop-entry.attributes.items c.push_entry.new.attributes.items c.loop-entry.invariant.attributes c.in_ok-push_entry.ensures.attributes;
    }

pub returns-clause-told : goal.returns-clause-told
returns-clause-told c = λ us tells.
    subst (λ (l : List EntryFields). Tells c.loop-entry.records.items c.loop-entry.pointers c.loop-entry.attributes.items (us ++ map undoing_of l)) (take_all c.loop-entry.entry-index c.args.entries.now c.loop-entry-test.false)
    (c.loop-entry.invariant.told us tells)
