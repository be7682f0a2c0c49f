use Rattle.std.proofs.Common.{◌≡◌, ◌-◌, ◌≤◌, length, map, string_bytes}
use Rattle.line_diff.specs.Script.{row_of}
use Rattle.line_diff.specs.Unified.{place_at}
use Rattle.line_diff.proofs.Hunks.{AreShownTo}
use Rattle.line_diff.proofs.printing.hunks_text.Given as goal

-- the place is that of the row, and the spans in front of it have their hunks
abbrev pub invariant-loop-span : goal.invariant-loop-span
invariant-loop-span l = record {
  within : l.from ≤ length l.rows;
  place : l.place ≡ place_at (map row_of l.rows) l.from;
  shown : AreShownTo (map row_of l.rows) l.from (string_bytes l.text);
}

abbrev pub decreases-loop-span : goal.decreases-loop-span
decreases-loop-span l = length l.rows - l.from
