use Rattle.std.proofs.Common.{◌≡◌, Some, subst}
use Rattle.codec.specs.Fields.{all_of}
use Rattle.codec.specs.Journal.{JournalFields, journal_at}
use Rattle.codec.specs.Patching.{decoded}
use Rattle.codec.proofs.JournalLaws.{journal_field}
use Rattle.codec.proofs.Whole.{all_exact}
use Rattle.codec.proofs.journal_bytes.JournalBytes.as_bytes.Goals as goal

pub returns-clause-reads : goal.returns-clause-reads
returns-clause-reads c =
    let block = c.self.inside.block in
    subst (λ (j : JournalFields). all_of journal_at block ≡ Some j) c.self.view_is ((all_exact journal_field).again block (decoded block) c.self.invariant)
