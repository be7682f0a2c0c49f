use Rattle.std.proofs.Common.{◌∙◌, ap, Some}
use Rattle.codec.specs.Journal.{JournalFields}
use Rattle.codec.proofs.JournalLaws.{journal_field}
use Rattle.codec.proofs.Whole.{all_exact}
use Rattle.codec.proofs.journal_writing.encode_journal.Goals as goal

pub returns-clause-reads : goal.returns-clause-reads
returns-clause-reads c =
    let j = c.args.block.now in
    let told : JournalFields = record { object = c.object.result; previous = c.previous.result; entries = c.entries.result.now } in
    (all_exact journal_field).again c.encode_entries.result told c.encode_entries.ensures
    ∙ ap (λ n. Some (record { object = n; previous = told.previous; entries = told.entries })) c.object.ensures
    ∙ ap (λ q. Some (record { object = j.object; previous = q; entries = told.entries })) c.previous.ensures
    ∙ ap (λ l. Some (record { object = j.object; previous = j.previous; entries = l })) c.entries.ensures.entries
