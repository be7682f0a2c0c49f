use Rattle.std.proofs.Common.{refl, arith}
use Rattle.image_salvage.proofs.Finding.{all_found, none_found}
use Rattle.image_salvage.proofs.Generations.{generations_of, no_generations}
use Rattle.image_salvage.proofs.searching.find_frames.Goals as goal

pub loop-place-init : goal.loop-place-init
loop-place-init c = record {
  finds = none_found 1024 c.args.bytes.now c.in_ok-table.table c.in_ok-seen.seen.items refl c.in_ok-table.ensures.frames c.in_ok-table.ensures.slots c.in_ok-seen.ensures.items;
  generations = no_generations 1024 c.in_ok-table.table c.in_ok-generations.generations.items c.in_ok-table.ensures.frames c.in_ok-generations.ensures.items;
}

pub returns-clause-finds : goal.returns-clause-finds
returns-clause-finds c = all_found c.args.bytes.now c.loop-place.place c.loop-place.next c.loop-place.table c.loop-place.seen.items c.loop-place.invariant.finds (omega arith)

pub returns-clause-generations : goal.returns-clause-generations
returns-clause-generations c = generations_of c.loop-place.table c.loop-place.generations.items c.loop-place.invariant.generations
