use Rattle.std.proofs.Common.{◌+◌, Option, sym, subst}
use Rattle.object_map.specs.declared.map.Row.{Row}
use Rattle.object_map.specs.Objects.{Puts}
use Rattle.object_map.specs.Rows.{row_of}
use Rattle.time_read.specs.declared.presents.Present.{Present}
use Rattle.time_read.specs.Presents.{KeepsIndexOf, TurnsBeside}
use Rattle.time_read.proofs.Found.{if_found}
use Rattle.time_read.proofs.presents.turn_beside.Goals as goal

pub returns : goal.returns
returns c =
    let m = c.args.objects.now in
    let o = c.args.object in
    let row : Row = c.args.row.now in
    let after : Present = c.turn.new.self in
    let later = c.change_in_place.follows.lender after in
    if_found (λ old. Puts m o (record row { stamp = old.stamp + 1 }) after later) (λ old. TurnsBeside m o (record row { stamp = old.stamp + 1 }) c.args.after.now c.args.entries.now later) (row_of m.rows o)
    (λ old put. record {
      present = after;
      put = put;
      inode = c.turn.ensures.inode;
      told = λ older tells. c.turn.ensures.told older (subst (λ (p : Option Present). KeepsIndexOf p older) (sym c.in-Some.ensures.value) tells);
    }) (c.change_in_place.follows.holds after)
