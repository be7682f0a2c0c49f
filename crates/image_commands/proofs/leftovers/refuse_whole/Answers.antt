use Rattle.std.proofs.Common.{arith}
use Rattle.image_commands.proofs.Leaving.{no_images_on}
use Rattle.image_commands.proofs.leftovers.refuse_whole.Goals as goal

pub loop-number-init : goal.loop-number-init
loop-number-init g c = λ image serves k below. absurd (omega (arith, below))

pub loop-number-preserved : goal.loop-number-preserved
loop-number-preserved g c = λ image serves.
    no_images_on c.loop-number.number (g.F.Files.lies c.args.files.now image) (g.F.Files.contents c.args.files.now) (c.loop-number.invariant image serves)
    (λ path there. c.in_ok-refuse_numbered.ensures.none image path serves there)

pub returns-clause-none : goal.returns-clause-none
returns-clause-none g c = λ image serves k below path there. c.loop-number.invariant image serves k (omega (arith, below)) path there
