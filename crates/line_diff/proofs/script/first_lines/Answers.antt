use Rattle.std.proofs.Common.{◌∙◌, map, string_bytes, ap, sym}
use Rattle.std.proofs.lemmas.List.{take-map}
use Rattle.line_diff.proofs.script.first_lines.Goals as goal

pub returns : goal.returns
returns c = ap (map string_bytes) c.split_at.ensures.front ∙ sym (take-map string_bytes c.args.count c.args.lines.now)
