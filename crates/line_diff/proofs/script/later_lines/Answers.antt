use Rattle.std.proofs.Common.{◌∙◌, map, string_bytes, ap, sym}
use Rattle.std.proofs.lemmas.List.{drop-map}
use Rattle.line_diff.proofs.script.later_lines.Goals as goal

pub returns : goal.returns
returns c = ap (map string_bytes) c.split_at.ensures.back ∙ sym (drop-map string_bytes c.args.count c.args.lines.now)
