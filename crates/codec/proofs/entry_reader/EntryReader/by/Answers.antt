use Rattle.std.proofs.Common.{◌≤◌, length, ap, arith}
use Rattle.lemmas.proofs.Option.{value_there}
use Rattle.codec.specs.Fields.{all_of}
use Rattle.codec.specs.Journal.{journal_at_by}
use Rattle.codec.specs.Reader.{entries_begun_at, object_decoded}
use Rattle.codec.proofs.Starts.{whole_is, as_many, object_there}
use Rattle.codec.proofs.entry_reader.EntryReader.by.Goals as goal

pub returns-clause-reads : goal.returns-clause-reads
returns-clause-reads c =
    let v = c.args.version in
    let block = c.args.block in
    let (j, e) = value_there (all_of (journal_at_by v) block) c.requires in
    let previous = c.previous_of-previous in
    let starts = c.starts_of-starts in
    let (rest, is) = c.says_previous.ensures.previous j e in
    whole_is v block j (object_decoded v block) previous.result (entries_begun_at v block starts.result.items) e (object_there v block j e) (previous.ensures j.previous rest is) (starts.ensures.entries j e)

pub returns-clause-some : goal.returns-clause-some
returns-clause-some c =
    let starts = c.starts_of-starts.result.items in
    let some : 1 ≤ length (entries_begun_at c.args.version c.args.block starts) = omega (arith, as_many c.args.version c.args.block starts c.starts_of-starts.ensures.there, c.starts_of-starts.ensures.some) in
    some
