use Rattle.host_calls.proofs.Effects.{replayed, writing_ends}
use Rattle.std.proofs.Common.{refl, length}
use Rattle.host_calls.proofs.steps.cut_at.Goals as goal

pub returns-clause-filled : goal.returns-clause-filled
returns-clause-filled g c = λ path start so.
    rw (replayed _ _ _ c.in_ok-set_len.ensures) (writing_ends _ (length c.args.bytes.now) c.args.bytes.now path start _ so refl)
