use Rattle.s4_model.proofs.NumberLaws.{create_is_given_next, numbers_ascend, absent_stay_absent, dead_stays_absent}
use Rattle.s4_model.proofs.laws.object_numbers_are_given_once.Goals as goal

pub returns : goal.returns
returns c = record { given = create_is_given_next; ascend = numbers_ascend; absent = absent_stay_absent; dead = dead_stays_absent }
