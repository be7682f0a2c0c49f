use Rattle.std.proofs.Common.{◌∙◌, ap, arith}
use Rattle.drive.specs.Fields.{state_in}
use Rattle.history_view.specs.Listing.{seen_from}
use Rattle.history_view.proofs.Seen.{seen_found}
use Rattle.history_view.proofs.moments.earliest.Goals as goal

-- the floor isn't past the clock
pub first_seen-requires : goal.first_seen-requires
first_seen-requires g c = let reached = c.rules.ensures.sound.floor_reached in omega (arith, c.floor.ensures, reached)

-- none below the floor can be read, and none from it on below the first
pub returns-clause-first : goal.returns-clause-first
returns-clause-first g c t below visible =
    let s = state_in c.args.drive.now in
    let found = seen_found s c.args.object s.floor t visible.kept visible in
    let is = c.first_seen.ensures.first ∙ ap (seen_from s c.args.object) c.floor.ensures in
    absurd (omega (arith, below, is, found.up))
