use Rattle.std.proofs.Common.{◌≡◌, ◌++◌}
use Rattle.earlier_images.specs.Used.{used_in}
use Rattle.earlier_images.proofs.AllRows.{HaveRead}
use Rattle.earlier_images.proofs.rows.read_rows.Given as goal

abbrev pub invariant-loop-part : goal.invariant-loop-part
invariant-loop-part l = record {
  read : HaveRead l.version (used_in l.frames) l.clock l.yielded l.reading;
  whole : l.parts.rows ≡ l.yielded ++ l.part-iterator;
}
