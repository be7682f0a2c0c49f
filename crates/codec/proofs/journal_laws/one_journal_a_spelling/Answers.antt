use Rattle.std.proofs.Common.{sym, ◌∙◌}
use Rattle.std.proofs.lemmas.Option.{same_Some}
use Rattle.codec.proofs.JournalLaws.{journal_field}
use Rattle.codec.proofs.Whole.{all_exact}
use Rattle.codec.proofs.journal_laws.one_journal_a_spelling.Goals as goal

pub returns : goal.returns
returns c = λ block i j h k. same_Some i j (sym ((all_exact journal_field).again block i h) ∙ (all_exact journal_field).again block j k)
