use Rattle.std.proofs.Common.{◌≡◌, length, take}
use Rattle.std.specs.List.{AllByRecursion}
use Rattle.image_parts.specs.Rows.{IsRow}
use Rattle.verifier.specs.Rows.{SpellRows}
use Rattle.migration.specs.Migrated.{rows_then}
use Rattle.migration.proofs.writing.parts_of.Given as goal

abbrev pub invariant-loop-index : goal.invariant-loop-index
invariant-loop-index l = record {
  spelled : SpellRows l.parts.items (rows_then (take l.index l.rows) (take l.index l.laters));
  are : AllByRecursion IsRow l.parts.items;
  count : length l.parts.items ≡ l.index;
}
