use Rattle.earlier_images.proofs.TableNames.{names_same}
use Rattle.earlier_images.proofs.laws.a_table_names_the_same.Goals as goal

pub returns : goal.returns
returns c = names_same c.a_summary_has_one_encoding.ensures.one
