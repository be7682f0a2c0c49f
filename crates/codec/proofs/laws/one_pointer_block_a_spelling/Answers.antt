use Rattle.std.proofs.Common.{sym, ◌∙◌}
use Rattle.std.proofs.lemmas.Option.{same_Some}
use Rattle.codec.proofs.PointerLaws.{pointers_field}
use Rattle.codec.proofs.Whole.{all_exact}
use Rattle.codec.proofs.laws.one_pointer_block_a_spelling.Goals as goal

pub returns : goal.returns
returns c = λ block a b h k. same_Some a b (sym ((all_exact pointers_field).again block a h) ∙ (all_exact pointers_field).again block b k)
