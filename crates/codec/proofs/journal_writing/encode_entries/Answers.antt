use Rattle.std.proofs.Common.{arith, append_assoc}
use Rattle.codec.specs.Entry.{entry_spelling}
use Rattle.codec.specs.Journal.{journal_spelling, journal_spelling_by, journal_rules, journal_rules_by, JournalFields, JournalNumbers}
use Rattle.codec.proofs.JournalEntries.{rules_hold}
use Rattle.codec.proofs.journal_writing.encode_entries.Goals as goal

pub returns : goal.returns
unfolding journal_spelling journal_spelling_by entry_spelling journal_rules journal_rules_by
returns c =
    let j : JournalFields = record { object = c.args.object; previous = c.args.previous; entries = c.args.entries.now } in
    let numbers : JournalNumbers j = record { object = omega (arith, c.put_long.ensures.range, c.number.ensures); previous = c.put_slot.ensures.range; entries = c.put_entries.ensures.spelled } in (
      (rules_hold j c.requires.of_one c.requires.some c.requires.fit, numbers),
      simp (
        c.finished.ensures,
        c.put_zeros-2.ensures.items,
        c.put_entries.ensures.items,
        c.put_slot.ensures.items,
        c.put_long.ensures.items,
        c.put_zeros.ensures.items,
        c.put_short.ensures.items,
        c.put_byte-2.ensures.items,
        c.put_byte.ensures.items,
        c.new-out.ensures,
        c.number.ensures,
        c.byte_sum-bytes.ensures.exact,
        append_assoc,
      ),
    )
