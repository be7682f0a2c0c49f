use Rattle.std.specs.String.{string_bytes}
use Rattle.image_commands.proofs.Leaving.{later_named}
use Rattle.image_commands.proofs.leftovers.spent_leftover.Goals as goal

pub returns-in-false-clause-later : goal.returns-in-false-clause-later
returns-in-false-clause-later g c =
    let files = g.F.Files.contents c.args.files.now in
    let path = string_bytes c.leftover_path.result in
    later_named (files path) (g.F.Files.is_left c.args.leftover path) c.in-Ok.left c.args.clock (cc) (c.in-Ok.ensures.clock path) c.leftover_path.ensures
