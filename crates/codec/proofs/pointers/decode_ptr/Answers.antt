use Rattle.codec.proofs.Slots.{slot_field}
use Rattle.codec.proofs.Whole.{all_exact, found_all, only_all}
use Rattle.codec.proofs.pointers.decode_ptr.Goals as goal

pub returns-clause-found : goal.returns-clause-found
returns-clause-found c = found_all (all_exact slot_field) c.args.bytes.now c.slot_in.result c.fits-bytes c.slot_in.ensures

pub returns-clause-only : goal.returns-clause-only
returns-clause-only c = only_all (all_exact slot_field) c.args.bytes.now c.slot_in.result c.slot_in.ensures
