use Rattle.std.proofs.Common.{◌≡◌, true, take}
use Rattle.std.specs.List.{list_all}
use Rattle.image_objects.specs.private.Standing.{is_earlier}
use Rattle.image_objects.proofs.links.are_earlier.Given as goal

abbrev pub invariant-loop-triple : goal.invariant-loop-triple
invariant-loop-triple l = list_all (is_earlier l.inode) (take l.triple-index l.triples) ≡ true
