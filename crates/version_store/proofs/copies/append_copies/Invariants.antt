use Rattle.std.proofs.Common.{drop}
use Rattle.version_store.specs.private.Relocating.{Appending}
use Rattle.version_store.proofs.copies.append_copies.Given as goal

abbrev pub invariant-loop-copy : goal.invariant-loop-copy
invariant-loop-copy g l = Appending l.object l.copies (g.B.Blocks.log l.initial.table) (g.B.Blocks.log l.table) l.renaming (drop l.copy-index l.copies) l.copy-index
