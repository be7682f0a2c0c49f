use Rattle.std.proofs.Common.{◌+◌, arith}
use Rattle.codec.specs.Versions.{chain_entry_bytes_by}
use Rattle.codec.proofs.JournalEntries.{by_next}
use Rattle.image_objects.proofs.Bytes.{too_many}
use Rattle.image_objects.proofs.chains.bytes_of.Goals as goal

pub returns-then-bytes-most : goal.returns-then-bytes-most
returns-then-bytes-most c =
    let i = c.loop-entry.entry-index in
    let next = by_next c.args.version i c.args.entries.now c.entry-item.result c.loop-entry-test.true c.entry-item.is in
    too_many c.args.version (chain_entry_bytes_by c.args.version) (i + 1) c.args.entries.now (omega (arith, next, c.byte_count_by-bytes.ensures.exact, c.loop-entry.invariant.exact, c.if-bytes-most.true, c.chain_entry_bytes-most.ensures.exact))
