use Rattle.codec.proofs.FirstLaws.{first_field}
use Rattle.codec.proofs.PointerLaws.{pointers_field}
use Rattle.codec.proofs.Whole.{all_exact}
use Rattle.codec.proofs.PartLaws.{joins, told_of, holes_of}
use Rattle.codec.proofs.part_laws.a_checkpoint_is_its_blocks.Goals as goal

pub returns : goal.returns
returns c = record {
  first = (all_exact first_field).again;
  pointers = (all_exact pointers_field).again;
  whole = joins;
  told = told_of;
  holes = holes_of;
}
