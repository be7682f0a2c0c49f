use Rattle.codec.proofs.PartLaws.{first_kind, block_kind, first_has, tells, joined_is, part_one, part_two, part_three, numbers_of, holes_are}
use Rattle.codec.proofs.part_laws.blocks_have_their_parts.Goals as goal

pub returns : goal.returns
returns c = record {
  first_begins = first_kind;
  part_begins = block_kind;
  pointers = λ block f e. (first_has block f e).0;
  parts = λ block f e. (first_has block f e).1;
  part = tells;
  whole = joined_is;
  one = part_one;
  two = part_two;
  three = part_three;
  numbers = numbers_of;
  holes = holes_are;
}
