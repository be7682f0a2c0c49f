use Rattle.std.proofs.Common.{rules, ◌≡◌, ◌^◌, min}
use Rattle.image_parts.specs.Header.{header_in}
use Rattle.image_parts.specs.Image.{longest_of}
use Rattle.image_parts.proofs.FrontLaws.{longer, no_header}
use Rattle.image_parts.proofs.reading.longest_with_by.Goals as goal

pub returns-in_default-clause-none : goal.returns-in_default-clause-none
returns-in_default-clause-none c = λ rest. no_header c.args.mark c.args.front.now rest c.requires.long c.in_default.ensures

pub returns-clause-longer : goal.returns-clause-longer
returns-clause-longer c =
    let is : c.image_length.result ≡ min (2 ^ 62) (longest_of (header_in c.args.front.now)) = search rules in
    λ below rest more. longer c.args.mark c.args.front.now rest c.image_length.result c.requires.long c.in-Some.ensures.1 is below more
