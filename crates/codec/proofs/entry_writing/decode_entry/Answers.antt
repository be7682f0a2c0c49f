use Rattle.std.proofs.Common.{arith}
use Rattle.codec.specs.Entry.{entry_spelling}
use Rattle.codec.specs.declared.versions.ImageVersion.TheVariants.{Second}
use Rattle.codec.proofs.EntryLaws.{entry_field_by}
use Rattle.codec.proofs.Whole.{found_front, only_front}
use Rattle.codec.proofs.entry_writing.decode_entry.Goals as goal

pub returns-clause-found : goal.returns-clause-found
unfolding entry_spelling
returns-clause-found c = found_front (λ x. (x.0, x.1.now)) (entry_field_by Second) c.args.bytes.now c.read_entry.result (λ i. omega (arith, c.type_inv.bytes i)) c.read_entry.ensures

pub returns-clause-only : goal.returns-clause-only
unfolding entry_spelling
returns-clause-only c = only_front (λ x. (x.0, x.1.now)) (entry_field_by Second) c.args.bytes.now c.read_entry.result c.read_entry.ensures
