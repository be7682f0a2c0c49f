use Rattle.codec.proofs.FirstLaws.{first_field}
use Rattle.codec.proofs.Whole.{all_exact, found_all, only_all}
use Rattle.codec.proofs.first_blocks.decode_first_block.Goals as goal

pub returns-clause-found : goal.returns-clause-found
returns-clause-found c = found_all (all_exact first_field) c.args.block.now c.first_in.result c.fits-block c.first_in.ensures

pub returns-clause-only : goal.returns-clause-only
returns-clause-only c = only_all (all_exact first_field) c.args.block.now c.first_in.result c.first_in.ensures
