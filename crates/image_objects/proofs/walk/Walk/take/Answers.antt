use Rattle.std.proofs.Common.{◌≤◌, arith}
use Rattle.s4_types.specs.declared.limits.TheConstants.{JOURNAL_ENTRY_BYTES}
use Rattle.codec.specs.Entry.{entries_length_by}
use Rattle.image_objects.proofs.Walking.{rules_fit, goes}
use Rattle.image_objects.proofs.walk.Walk.take.Goals as goal

pub take_entries-requires : goal.take_entries-requires
take_entries-requires c = rules_fit c.args.version c.args.block c.requires

pub overflow_sub-room : goal.overflow_sub-room
overflow_sub-room c =
    let fit : entries_length_by c.args.version c.args.block.entries ≤ JOURNAL_ENTRY_BYTES = rules_fit c.args.version c.args.block c.requires in
    omega (arith, fit, c.in_ok-bytes.ensures.all)

pub returns-clause-goes : goal.returns-clause-goes
returns-clause-goes c = λ left blocks p from here.
    goes c.args.version left c.args.self.now.first_bytes c.in_ok-bytes.bytes.all c.in_ok-bytes.bytes.first blocks p c.args.block c.previous-previous.result c.args.self.now.previous c.args.self.now.entries.items c.take_entries.new.entries.items
    c.requires from here c.in_ok-bytes.ensures.all c.in_ok-bytes.ensures.first c.previous-previous.ensures c.in_ok-bytes.ensures.entries
