use Rattle.host_calls.proofs.Effects.{same_then}
use Rattle.host_calls.proofs.steps.fill_file.Goals as goal

pub returns-clause-filled : goal.returns-clause-filled
returns-clause-filled g c = λ path at. c.in_ok-cut_at.ensures.filled path _ (c.in_ok-write_front.ensures.written path at)

pub returns-clause-others : goal.returns-clause-others
returns-clause-others g c = λ path other at n.
    same_then _ _ _ other (c.write_front.ensures.others path other at n) (c.cut_at.ensures.others path other (c.write_front.ensures.at path at) n)

pub returns-in_err-cut_at-clause-others : goal.returns-in_err-cut_at-clause-others
returns-in_err-cut_at-clause-others g c = λ path other at n.
    same_then _ _ _ other (c.write_front.ensures.others path other at n) (c.cut_at.ensures.others path other (c.write_front.ensures.at path at) n)
