use Rattle.image_objects.proofs.FirstPlaces.{places_pushed}
use Rattle.image_objects.proofs.naming.push_checkpoint.Goals as goal

pub returns-clause-places : goal.returns-clause-places
returns-clause-places g c =
    places_pushed (g.U.UsedBlocks.used c.args.used.now) c.args.row.now c.in-Some.place c.read_first-first.result c.args.places.now.items c.push_parts.new.places.items c.push.new.self.items c.in-Some.is c.read_first-first.ensures.exact c.read_first-first.ensures.numbers
    c.in_ok-push_parts.ensures.places c.in_ok-push.ensures.items
