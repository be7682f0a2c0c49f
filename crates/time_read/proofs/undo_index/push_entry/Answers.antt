use Rattle.time_read.specs.Undoings.{undoing_of}
use Rattle.time_read.proofs.Undone.{tells_pushed}
use Rattle.time_read.proofs.undo_index.push_entry.Goals as goal

pub returns-clause-told : goal.returns-clause-told
returns-clause-told c = λ us tells.
    tells_pushed c.args.records.now.items c.push.new.self.items c.args.pointers.now c.keep.new.pointers c.args.attributes.now.items c.keep.new.attributes.items us c.in_ok-record.record (undoing_of c.args.entry.now) tells
    c.in_ok-record.ensures.pointers c.in_ok-record.ensures.attributes c.in_ok-record.ensures.spans c.in_ok-record.ensures.told c.in_ok-push.ensures.items
