use Rattle.std.proofs.lemmas.Result.{on_ok_weaker}
use Rattle.time_read.proofs.Undone.{ok_from}
use Rattle.time_read.proofs.undo_index.UndoIndex.push.Goals as goal

pub invariant_of-self-else-is_err : goal.invariant_of-self-else-is_err
invariant_of-self-else-is_err c =
    (ok_from c.push_all-pushed.result c.if-is_err.ensures.value (c.push_all-pushed.ensures.told c.args.self.now record { tiles = c.self.invariant; told = c.self.view_is })).tiles

pub returns-else-is_err-clause-told : goal.returns-else-is_err-clause-told
returns-else-is_err-clause-told c =
    on_ok_weaker c.push_all-pushed.result (λ tells. tells.told) (c.push_all-pushed.ensures.told c.args.self.now record { tiles = c.self.invariant; told = c.self.view_is })
