use Rattle.std.proofs.Common.{◌≡◌, ◌++◌, map, drop}
use Rattle.window.specs.Runs.{cut}
use Rattle.verifier.proofs.seen_parts.push_cut.Given as goal

abbrev pub invariant-loop-span : goal.invariant-loop-span
invariant-loop-span l = l.all.items ++ map (cut l.floor) (drop l.span-index l.spans) ≡ l.fn.all.items ++ map (cut l.floor) l.spans
