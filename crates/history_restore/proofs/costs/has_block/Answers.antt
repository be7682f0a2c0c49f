use Rattle.std.proofs.Common.{◌≤◌, None, length, sym, ap, arith}
use Rattle.std.specs.Prelude.{is_some}
use Rattle.std.proofs.lemmas.List.{get_or_past}
use Rattle.history_restore.proofs.costs.has_block.Goals as goal

pub returns-then-index-count : goal.returns-then-index-count
returns-then-index-count c =
    let past : length c.args.inode.now.pointers ≤ c.args.index = omega (arith, c.if-index-count.true) in
    sym (ap is_some (get_or_past c.args.inode.now.pointers c.args.index None past))
