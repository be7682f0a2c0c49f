use Rattle.std.proofs.Common.{◌≡◌, List, sym, ap, subst}
use Rattle.object_map.specs.declared.map.Row.{Row}
use Rattle.object_map.specs.declared.sides.Side.{Side}
use Rattle.time_read.specs.Rows.{IsRow, inode_of}
use Rattle.time_read.specs.Orderly.{IsOrderly}
use Rattle.row_changes.specs.Recent.{IsBy}
use Rattle.row_changes.proofs.Places.{CheckpointLaws}
use Rattle.row_changes.proofs.Bared.{Bares, bare, bares, bare_row, bare_by, bare_entries, bare_inode, bare_orderly}
use Rattle.row_changes.proofs.checkpoints.drop_sides.Goals as goal

pub returns : goal.returns
returns g c =
    let held = (g.B.Blocks.log c.args.table.now).held in
    let later = (g.B.Blocks.log c.drop_each.new.table).held in
    let o = c.args.object in
    let row = c.args.row.now in
    let laws : CheckpointLaws = record {
      told = c.a_checkpoint_is_in_its_blocks.ensures.same;
      places = c.a_checkpoint_is_in_its_blocks.ensures.places;
      held = c.a_checkpoint_is_in_its_blocks.ensures.held;
    } in
    let b : Bares held later o row = bares laws c.a_checkpoint_is_in_its_blocks.ensures.apart held later o row c.requires.row c.drop_each.ensures.dropped in
    let is : record row { sides = c.new.result } ≡ bare row = ap (λ (sides : List Side). record row { sides = sides }) c.new.ensures in
    let gives = sym is in
    record {
      row = subst (λ (r : Row). IsRow later o r) gives (bare_row held later o row b);
      fields = is;
      latest = λ t by. subst (λ (r : Row). IsBy later o r t) gives (bare_by held later o row t b by);
      entries = bare_entries held later o row b;
      checkpoint = b.found;
      inode = λ t. subst (λ (r : Row). inode_of later o r t ≡ inode_of held o row t) gives (bare_inode held later o row t b);
      orderly = λ latest was. subst (λ (r : Row). IsOrderly later o r latest) gives (bare_orderly held later o row latest b was);
      dropped = b.drops;
      named = c.drop_each.ensures.named;
      takes = c.drop_each.ensures.takes;
    }
