use Rattle.std.proofs.Common.{◌∙◌}
use Rattle.history_cleaner.proofs.Left.{left_since}
use Rattle.history_cleaner.proofs.cleaning.clean_object.Goals as goal

-- the drive was only read before
pub returns : goal.returns
returns g c =
    let puts = left_since c.put.result c.args.drive.now c.entries.new.self c.put.new.drive c.args.object (c.entries.ensures.store ∙ c.inode_at.ensures.store) (c.entries.ensures.ledger ∙ c.inode_at.ensures.ledger) c.put.ensures in record {
      cleaned = puts.own.cleaned;
      clean = puts.own.clean;
      held = puts.held;
      gone = puts.own.gone;
      answer = puts.own.answer;
      others = puts.others;
      unchanged = puts.unchanged;
      ledger = puts.ledger;
      needed = puts.needed;
    }
