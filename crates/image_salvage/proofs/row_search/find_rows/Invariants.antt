-- The places so far were looked at.
use Rattle.segment_table.specs.Used.{used_at}
use Rattle.image_salvage.specs.RowSearch.{FindsRowsTo}
use Rattle.image_salvage.proofs.row_search.find_rows.Given as goal

abbrev pub invariant-loop-place : goal.invariant-loop-place
invariant-loop-place l = FindsRowsTo (used_at l.table) l.bytes l.place l.next l.rows.items
