-- A drive that a line asks to be made has a number of frames that a drive may have.
use Rattle.std.specs.Prelude.{IfSome, Option, Some, None}
use Rattle.clap.specs.Walk.{Row, Text, first_of}
use Rattle.std.specs.Prelude.{List, codes}
use Rattle.s4_types.specs.Sizes.{IsFrameCount}
use Rattle.s4serve_command.specs.CommandLine.{IsCreatedAt, Spells}
use Rattle.s4serve_command.specs.declared.ServiceAsked.{ServiceAsked}
use Rattle.s4serve_command.specs.declared.creating.Creation.{Creation}

created : (frames keep : Option Text) (creation : Option Creation) → IsCreatedAt frames keep creation → IfSome creation (λ c. IsFrameCount c.frames)
created frames keep None is = tt
created None None (Some c) is = absurd is
created None (Some k) (Some c) is = absurd is
created (Some f) None (Some c) is = absurd is
created (Some f) (Some k) (Some c) is = (is.fewest, is.most)

pub asked_fits : (rows : List Row) (asked : ServiceAsked) → Spells rows asked → IfSome asked.create (λ c. IsFrameCount c.frames)
asked_fits rows asked is = created (first_of (codes "create") rows) (first_of (codes "keep") rows) asked.create is.create
