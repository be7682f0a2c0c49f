use Rattle.std.proofs.Common.{◌*◌}
use Rattle.history_diff.proofs.Pieces.{piece_cut}
use Rattle.history_diff.proofs.patches.piece_at.Goals as goal

pub returns : goal.returns
returns c = piece_cut c.args.bytes.now (32 * c.args.index) c.min-end.result c.min-end.ensures
