use Rattle.std.proofs.Common.{◌∙◌}
use Rattle.std.specs.Prelude.{option_copied}
use Rattle.std.proofs.lemmas.Result.{IfOk-weaker}
use Rattle.time_read.specs.Orderly.{IsFromTo, BeginsDead}
use Rattle.row_changes.proofs.MovedRow.{can_write}
use Rattle.row_changes.proofs.WrittenRow.{matched}
use Rattle.row_changes.proofs.moves.move_row.Goals as goal

pub write_row-requires : goal.write_row-requires
write_row-requires g c = record {
  row = c.requires.row;
  sides = c.requires.sides;
  tell = can_write (g.B.Blocks.log c.args.table.now).held c.args.object c.args.row.now (option_copied c.args.kept) c.args.entries.now c.requires.row c.requires.tell;
}

pub returns-clause-orderly : goal.returns-clause-orderly
returns-clause-orderly g c =
    let row = c.args.row.now in
    IfOk-weaker c.write_row.result _ _ (λ later h latest orderly made at.
    h latest orderly made (matched (BeginsDead c.args.entries.now) (IsFromTo row.created latest row.checkpoint_moment) row.checkpoint (option_copied c.args.kept) c.requires.tell.same at))
    c.write_row.ensures.orderly

pub returns-clause-some : goal.returns-clause-some
returns-clause-some g c = IfOk-weaker c.write_row.result _ _ (λ later h. h ∙ c.requires.tell.same) c.write_row.ensures.some
