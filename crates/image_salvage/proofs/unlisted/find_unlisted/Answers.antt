use Rattle.std.proofs.Common.{List, subst}
use Rattle.object_map.specs.Objects.{value_of}
use Rattle.segment_table.specs.Used.{used_at}
use Rattle.image_parts.specs.declared.rows.RowPart.{RowPart}
use Rattle.image_salvage.specs.private.Passing.{AreLeft}
use Rattle.image_salvage.proofs.Passing.{finds_unlisted}
use Rattle.image_salvage.proofs.unlisted.find_unlisted.Goals as goal

pub returns-clause-finds : goal.returns-clause-finds
returns-clause-finds c =
    finds_unlisted (used_at c.args.table.now) c.args.there.now c.in_ok-rows.rows.items (value_of c.in_ok-checkpoints.checkpoints.entries) (value_of c.in_ok-heads.heads.entries) (value_of c.pass_rows.new.heads.entries) c.in_ok-unlisted.unlisted.items
    c.in_ok-checkpoints.ensures.newest c.in_ok-heads.ensures.newest c.in_ok-rows.ensures.believed
    (subst (λ (l : List RowPart). AreLeft (used_at c.args.table.now) l (value_of c.in_ok-heads.heads.entries) (value_of c.pass_rows.new.heads.entries)) c.as_slice.ensures.value c.in_ok-pass_rows.ensures.left)
    c.in_ok-unlisted.ensures.found
