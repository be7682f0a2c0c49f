use Rattle.version_store.proofs.Stamps.{changed, checkpointed, removed, replaced, relocated, kept}
use Rattle.version_store.proofs.laws.a_step_that_leaves_a_stamp_leaves_the_blocks.Goals as goal

pub returns : goal.returns
returns c = record { changed = changed; checkpointed = checkpointed; removed = removed; replaced = replaced; relocated = relocated; kept = kept }
