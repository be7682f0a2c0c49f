use Rattle.std.proofs.Common.{◌≡◌, ◌++◌, take}
use Rattle.std.specs.List.{flat_map}
use Rattle.image_parts.specs.Spans.{span_bytes}
use Rattle.verifier.proofs.saved_rows.push_spans.Given as goal

abbrev pub invariant-loop-span : goal.invariant-loop-span
invariant-loop-span l = l.out.items ≡ l.initial.out.items ++ flat_map span_bytes (take l.span-index l.spans)
