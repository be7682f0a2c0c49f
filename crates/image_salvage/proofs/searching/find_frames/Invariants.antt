-- The places so far were looked at.
use Rattle.image_salvage.specs.Searching.{FindsTo, HasGenerations}
use Rattle.image_salvage.proofs.searching.find_frames.Given as goal

abbrev pub invariant-loop-place : goal.invariant-loop-place
invariant-loop-place l = record {
  finds : FindsTo l.bytes l.place l.next l.table l.seen.items;
  generations : HasGenerations l.table l.generations.items;
}
