use Rattle.std.proofs.Common.{sym, ap, subst, ◌∙◌}
use Rattle.image_parts.specs.Header.{KeepsHeaderRulesBy}
use Rattle.image_parts.specs.Image.{header_of}
use Rattle.image_parts.proofs.ImageLaws.{counted}
use Rattle.image_parts.proofs.reading.split_parts_by.Goals as goal

pub returns-clause-header : goal.returns-clause-header
returns-clause-header c = ap header_of c.in-Some-of.ensures.0 ∙ counted c.args.bytes.now

pub returns-clause-rules : goal.returns-clause-rules
returns-clause-rules c = subst (KeepsHeaderRulesBy c.args.mark) (sym (ap header_of c.in-Some-of.ensures.0 ∙ counted c.args.bytes.now)) c.in-Some.ensures.1.rules
