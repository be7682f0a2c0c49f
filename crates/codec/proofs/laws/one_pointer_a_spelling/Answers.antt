use Rattle.std.proofs.Common.{sym, ◌∙◌}
use Rattle.std.proofs.lemmas.Option.{same_Some}
use Rattle.codec.proofs.Slots.{slot_field}
use Rattle.codec.proofs.Whole.{all_exact}
use Rattle.codec.proofs.laws.one_pointer_a_spelling.Goals as goal

pub returns : goal.returns
returns c = λ bytes p q h k. same_Some p q (sym ((all_exact slot_field).again bytes p h) ∙ (all_exact slot_field).again bytes q k)
