use Rattle.std.proofs.Common.{List, ap, ◌∙◌}
use Rattle.codec.specs.Entry.{EntryFields, entries_length}
use Rattle.journal_chain.specs.Packing.{packed, filled_bytes}
use Rattle.image_objects.proofs.Seconds.{same_entries, same_first, same_present}
use Rattle.image_objects.proofs.version_chains.with_chain_bytes.Goals as goal

pub returns : goal.returns
returns c = λ used row read.
    let bytes = c.with_head_bytes-chain.ensures in
    let items = read.entries ∙ same_entries used row in
    record {
      entries = bytes.entries ∙ items;
      bytes = bytes.bytes ∙ read.bytes ∙ ap entries_length (same_entries used row);
      head = bytes.head ∙ ap (λ (es : List EntryFields). filled_bytes (packed es)) items;
      first = read.first ∙ same_first used row;
      count = read.count;
      present = read.present ∙ same_present used row;
    }
