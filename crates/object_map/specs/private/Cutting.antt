-- Older checkpoints that are cut out of their array tell it.
use Rattle.std.specs.Prelude.{◌≡◌, ◌≤◌, List, length, take}
use Rattle.std.proofs.Common.{refl, arith}
use Rattle.std.proofs.lemmas.List.{length-take}
use Rattle.s4_types.specs.declared.limits.TheConstants.{SIDES}
use Rattle.object_map.specs.declared.sides.Side.{Side}
use Rattle.object_map.specs.declared.sides.Sides.TheInside.{Inside}
use Rattle.object_map.specs.private.Padding.{padded_sides}

abbrev pub again : List Side → Inside
again sides = record { count = length sides; kept = padded_sides sides }

pub cut_sides : (s : Inside) → (s.count ≤ SIDES) × ((length s.kept ≡ SIDES) × (padded_sides (take s.count s.kept) ≡ s.kept)) → again (take s.count s.kept) ≡ s
cut_sides s h =
    let count : length (take s.count s.kept) ≡ s.count = omega (arith, length-take s.count s.kept, h.0, h.1.0) in
    rw (count, h.1.1) refl
