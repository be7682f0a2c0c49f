use Rattle.std.proofs.Common.{ap, List, ℕ}
use Rattle.codec.specs.Entry.{EntryFields}
use Rattle.codec.proofs.EntryLaws.{entry_field}
use Rattle.codec.proofs.Lengths.{one_reading}
use Rattle.codec.proofs.laws.one_entry_a_spelling.Goals as goal

pub returns-clause-entry : goal.returns-clause-entry
returns-clause-entry c = λ bytes rest behind e f h k. ap (λ (x : EntryFields × List ℕ). x.0) (one_reading entry_field bytes e f rest behind h k)

pub returns-clause-rest : goal.returns-clause-rest
returns-clause-rest c = λ bytes rest behind e f h k. ap (λ (x : EntryFields × List ℕ). x.1) (one_reading entry_field bytes e f rest behind h k)
