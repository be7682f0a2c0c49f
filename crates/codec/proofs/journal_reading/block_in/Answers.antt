use Rattle.std.proofs.Common.{Option, arith, subst}
use Rattle.lemmas.proofs.Bytes.{IsBytes}
use Rattle.codec.specs.Fields.{Reads, kept}
use Rattle.codec.specs.Journal.{JournalFields, journal_rules}
use Rattle.codec.proofs.JournalLaws.{journal_kept}
use Rattle.codec.proofs.journal_reading.block_in.Goals as goal

pub returns : goal.returns
returns c =
    let bytes : IsBytes c.args.bytes.now = λ i. omega (arith, c.type_inv.bytes i) in
    let made = subst (λ (j : JournalFields). Reads (λ j. j) c.new.result (kept (journal_rules j) j)) c.read.view_is c.new.ensures in
    subst (λ (o : Option JournalFields). Reads (λ j. j) c.new.result o) (journal_kept c.args.bytes.now c.in-Some.read bytes c.in-Some.ensures) made
