use Rattle.codec.proofs.PointerLaws.{pointers_field}
use Rattle.codec.proofs.Whole.{all_exact, found_all, only_all}
use Rattle.codec.proofs.pointer_blocks.decode_pointer_block.Goals as goal

pub returns-clause-found : goal.returns-clause-found
returns-clause-found c = found_all (all_exact pointers_field) c.args.block.now c.pointers_in.result c.fits-block c.pointers_in.ensures

pub returns-clause-only : goal.returns-clause-only
returns-clause-only c = only_all (all_exact pointers_field) c.args.block.now c.pointers_in.result c.pointers_in.ensures
