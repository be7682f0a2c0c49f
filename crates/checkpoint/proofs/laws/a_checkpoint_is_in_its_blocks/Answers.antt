use Rattle.checkpoint.specs.Held.{of_checkpoints}
use Rattle.checkpoint.proofs.Reading.{BlockLaws, told_same, places_same, blocks_there, first_place, once, one_moment}
use Rattle.checkpoint.proofs.Counted.{PointerLaws, placed, some_block, few_blocks, as_many_blocks}
use Rattle.checkpoint.proofs.laws.a_checkpoint_is_in_its_blocks.Goals as goal

pub returns : goal.returns
returns c =
    let blocks : BlockLaws = record {
      first_begins = c.blocks_have_their_parts.ensures.first_begins;
      part_begins = c.blocks_have_their_parts.ensures.part_begins;
      part = c.blocks_have_their_parts.ensures.part;
    } in
    let pointers : PointerLaws = record {
      first = c.blocks_have_their_parts.ensures.pointers;
      one = c.blocks_have_their_parts.ensures.one;
      two = c.blocks_have_their_parts.ensures.two;
      three = c.blocks_have_their_parts.ensures.three;
      holes = c.blocks_have_their_parts.ensures.holes;
    } in
    record {
      same = λ held later o p same. told_same (of_checkpoints o held) (of_checkpoints o later) p same;
      places = λ held later o p same. places_same (of_checkpoints o held) (of_checkpoints o later) p same;
      held = blocks_there blocks c.one_place_has_one_name.ensures;
      first = λ held o p. first_place (of_checkpoints o held) p;
      once = once blocks c.one_place_has_one_name.ensures;
      placed = placed blocks pointers c.blocks_have_their_parts.ensures.whole;
      some = some_block;
      few = few_blocks;
      holes = as_many_blocks;
      apart = one_moment blocks c.blocks_have_their_parts.ensures.whole c.one_place_has_one_name.ensures;
    }
