use Rattle.image_objects.proofs.Judging.{head_is}
use Rattle.image_objects.proofs.chains.with_head_bytes.Goals as goal

pub returns-clause-head : goal.returns-clause-head
returns-clause-head c = head_is c.filled_bytes_after.ensures _ c.as_slice.result.now _ c.head_bytes_of-head_bytes.ensures.exact c.as_slice.ensures.value
