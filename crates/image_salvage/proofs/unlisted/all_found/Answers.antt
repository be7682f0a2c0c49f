use Rattle.std.proofs.Common.{arith}
use Rattle.object_map.specs.Objects.{value_of}
use Rattle.segment_table.specs.Used.{used_at}
use Rattle.image_salvage.proofs.Passing.{none_found_yet, found_next, found_all}
use Rattle.image_salvage.proofs.unlisted.all_found.Goals as goal

pub loop-object-init : goal.loop-object-init
loop-object-init c = none_found_yet (used_at c.args.table.now) (value_of c.args.heads.now.entries) c.new-found.result.items c.new-found.ensures.items

pub add_found-requires : goal.add_found-requires
add_found-requires c = record { numbered = omega (arith, c.in-Some.ensures.some.above) }

pub loop-object-preserved : goal.loop-object-preserved
loop-object-preserved c =
    found_next (used_at c.args.table.now) c.args.heads.now.entries c.loop-object.last c.in-Some.object c.loop-object.found.items c.add_found.new.found.items c.loop-object.invariant c.in-Some.ensures.some c.in_ok-add_found.ensures.found

pub returns-clause-found : goal.returns-clause-found
returns-clause-found c = found_all (used_at c.args.table.now) (value_of c.args.heads.now.entries) c.loop-object.last c.loop-object.found.items c.loop-object.invariant c.in_default.ensures.none
