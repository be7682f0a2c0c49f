use Rattle.drive.specs.Fields.{DriveFields}
use Rattle.s4_images.specs.Commands.{OverImage}
use Rattle.s4_compact.specs.Trying.{Leaves, found_of}
use Rattle.s4_compact.specs.declared.trying.Found.{Found}
use Rattle.s4_compact.specs.declared.ways.Way.{Way}
use Rattle.s4_compact.proofs.Tried.{by_ways}
use Rattle.s4_compact.proofs.trying.try_ways.Goals as goal

pub returns : goal.returns
returns g c =
    let found : Found = record { cleaned = c.in_ok-cleaned.cleaned; moved = c.in_ok-moved.moved; moved_first = c.in_ok-moved_first.moved_first } in
    record {
      tried = by_ways (λ (way : Way). OverImage (g.F.Files.contents c.args.files.now c.args.image.now) (λ (d : DriveFields). Leaves way d (found_of found way)))
          c.in_ok-cleaned.ensures.leaves c.in_ok-moved.ensures.leaves c.in_ok-moved_first.ensures.leaves;
    }
