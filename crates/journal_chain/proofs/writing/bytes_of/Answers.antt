use Rattle.std.proofs.Common.{refl, arith}
use Rattle.codec.specs.Entry.{entries_length}
use Rattle.codec.proofs.JournalEntries.{entries_next}
use Rattle.journal_chain.proofs.Loops.{fit_more}
use Rattle.journal_chain.proofs.writing.bytes_of.Goals as goal

pub loop-entry-init : goal.loop-entry-init
unfolding entries_length
loop-entry-init c = record { exact = refl; most = omega arith; few = c.requires; fit = tt }

pub loop-entry-preserved : goal.loop-entry-preserved
loop-entry-preserved c =
    let xs = c.args.entries.now in
    let i = c.loop-entry.entry-index in
    let e = c.entry-item.result in
    record {
      exact = omega (arith, entries_next i xs e c.loop-entry-test.true c.entry-item.is, c.loop-entry.invariant.exact, c.byte_count-bytes.ensures.exact);
      most = omega (arith, c.loop-entry.invariant.most, c.byte_count-bytes.ensures.most);
      few = c.loop-entry.invariant.few;
      fit = fit_more xs i e c.loop-entry-test.true c.entry-item.is c.loop-entry.invariant.fit (omega (arith, c.byte_count-bytes.ensures.exact, c.byte_count-bytes.ensures.most));
    }
