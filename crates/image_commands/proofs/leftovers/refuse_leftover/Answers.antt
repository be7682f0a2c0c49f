use Rattle.std.proofs.Common.{arith}
use Rattle.std.specs.String.{string_bytes}
use Rattle.image_commands.proofs.Leaving.{whole_named}
use Rattle.image_commands.proofs.leftovers.refuse_leftover.Goals as goal

pub returns-in-Ok-Some-clause-whole : goal.returns-in-Ok-Some-clause-whole
returns-in-Ok-Some-clause-whole g c =
    let files = g.F.Files.contents c.args.files.now in
    let path = string_bytes c.leftover_path.result in
    whole_named (files path) (g.F.Files.is_left c.args.leftover path) c.in-Ok-Some.field-0 c.in-Ok-Some.field-0-0 0 (cc) (c.in-Ok-Some.ensures.clock path) (omega arith) c.leftover_path.ensures
